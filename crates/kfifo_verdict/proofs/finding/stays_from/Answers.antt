use Rattle.std.proofs.Common.{ℕ, List, ◌<◌, ◌≤◌, ◌+◌, length, get_or, sym, ◌∙◌, ap, subst, refl, arith}
use Rattle.std.proofs.lemmas.List.{get_or_default}
use Rattle.kfifo_verdict.proofs.Types.{Stay}
use Rattle.kfifo_verdict.specs.Finding.{IsBucketed, no_presence, no_stay}
use Rattle.kfifo_verdict.proofs.Staying.{bucketed_skip, bucketed_more}
use Rattle.kfifo_verdict.proofs.finding.stays_from.Goals as goal
use Rattle.kfifo_verdict.proofs.finding.stays_from.Goals.{then-start-len, else-start-len}

pub loop-p-preserved : goal.loop-p-preserved
loop-p-preserved c =
    let h = c.args.calls.now in
    let ps = c.args.presences.now in
    let p = c.loop-p.p in
    let start : ℕ = (get_or ps p no_presence).start in
    let size = c.loop-p.invariant.sized in
    let long = c.len.ensures in
    let P : List Stay → Type 0 = λ w. IsBucketed h ps (p + 1) w in
    elim c.if-start-len.branch [
      | then-start-len w ↦ (
          let lt = w.if-start-len.true in
          let here : start < length c.loop-p.stays.items = omega (arith, lt, long) in
          let inside : start < length h = omega (arith, lt, long, size) in
          let p_inside : p < length h =
          (let test = c.loop-p-test.true in let many = c.requires.0 in omega (arith, test, many)) in
          bucketed_more h ps p start c.loop-p.stays.items c.if-start-len.stays.items w.index.result.now w.longer.result
          c.loop-p.invariant
          (c.requires.1 p p_inside) refl inside p_inside
          (w.index.ensures ∙ get_or_default c.loop-p.stays.items start _ no_stay here) w.longer.ensures
          (ap (λ v. v.items) w.stays-is)
          )
      | else-start-len w ↦ (
          let le = w.if-start-len.false in
          let past : length h ≤ start = omega (arith, le, long, size) in
          subst P (ap (λ v. v.items) (sym w.stays-is)) (bucketed_skip h ps p c.loop-p.stays.items c.loop-p.invariant
          past)
          )
    ]
