use Rattle.std.proofs.Common.{ℕ, ◌+◌, length, set, ap, subst, refl, inl, inr, arith}
use Rattle.std.proofs.lemmas.Grind.{common_steps}
use Rattle.std.proofs.Math.ListN.{length-set}
use Rattle.kfifo_verdict.proofs.Types.{Turn}
use Rattle.kfifo_verdict.specs.Plain.{place}
use Rattle.kfifo_verdict.proofs.Refuting.{put_inside}
use Rattle.kfifo_verdict.proofs.Lining.{IsSet, turns_more, turns_all, latest_more, so_far}
use Rattle.kfifo_verdict.proofs.turns.with_items.Goals as goal
use Rattle.kfifo_verdict.proofs.turns.with_items.Goals.{then-gone-len, else-gone-len}

pub gone_of-gone-requires : goal.gone_of-gone-requires
gone_of-gone-requires c =
    let here = c.requires.line.places.real c.loop-i.i (0, 0, 0) c.loop-i-test.true in
    let lt = put_inside c.args.calls.now here.item (place c.args.line.now c.loop-i.i).2 here.puts in
    let size = c.requires.presences.0 in
    omega (arith, lt, size)

pub index_mut-requires : goal.index_mut-requires
index_mut-requires c =
    let here = c.requires.line.places.real c.loop-i.i (0, 0, 0) c.loop-i-test.true in
    let lt = put_inside c.args.calls.now here.item (place c.args.line.now c.loop-i.i).2 here.puts in
    let size = c.loop-i.invariant.turns.sized in
    grind (arith, common_steps, lt, size)

pub loop-i-preserved : goal.loop-i-preserved
loop-i-preserved c =
    let h = c.args.calls.now in
    let ps = c.args.presences.now in
    let line = c.args.line.now in
    let i = c.loop-i.i in
    let ts = c.loop-i.turns.items in
    let p = (place line i).2 in
    let last = c.max-latest.result in
    let put : Turn = record { moment = (place line i).0; rank = i } in
    let got : Turn = record { moment = last; rank = length line + i } in
    let size = c.loop-i.invariant.turns.sized in
    let a = c.max.ensures in
    let b = c.max-latest.ensures in
    let g = c.gone_of-gone.ensures in
    let latest = latest_more ps line i c.loop-i.latest last (omega (arith, a, b, g)) c.loop-i.invariant.latest in
    let long = c.len.ensures in
    let same = length-set ts p put in
    let S : ℕ → Type 0 = λ v. IsSet ts c.if-gone-len.turns.items p v put got (length h) in
    let is : S c.gone_of-gone.result = elim c.if-gone-len.branch [
      | then-gone-len w ↦ (let lt = w.if-gone-len.true in
          (set ts p put, refl, inl (omega (arith, lt, long, same, size), ap (λ v. v.items) w.turns-is)))
      | else-gone-len w ↦ (let le = w.if-gone-len.false in
          (set ts p put, refl, inr (omega (arith, le, long, same, size), ap (λ v. v.items) w.turns-is)))
    ] in
    record {
      turns = turns_more h ps line i last ts c.if-gone-len.turns.items c.requires.plain c.requires.presences
          c.requires.line c.loop-i-test.true latest (subst S g is) c.loop-i.invariant.turns;
      latest = so_far ps line i last latest;
    }

pub returns : goal.returns
returns c =
    let test = c.loop-i-test.false in
    let end = c.loop-i.auto.i-end in
    turns_all c.args.calls.now c.args.presences.now c.args.line.now c.loop-i.i (length c.args.line.now)
    c.loop-i.turns.items
    (omega (arith, test, end)) c.loop-i.invariant.turns
