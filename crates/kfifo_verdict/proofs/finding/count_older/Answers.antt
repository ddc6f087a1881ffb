use Rattle.std.proofs.Common.{ℕ, Bool, ◌≡◌, ◌<◌, ◌+◌, length, get_or, sym, ◌∙◌, inl, inr, arith}
use Rattle.std.proofs.lemmas.List.{get_or_default}
use Rattle.kfifo_verdict.specs.Evidence.{count_below}
use Rattle.kfifo_verdict.specs.Finding.{lasts_at}
use Rattle.kfifo_verdict.proofs.Younger.{count_yes, count_no}
use Rattle.kfifo_verdict.proofs.Skipping.{count_rises, count_skip_to}
use Rattle.kfifo_verdict.proofs.finding.count_older.Goals as goal
use Rattle.kfifo_verdict.proofs.finding.count_older.Goals.{then-outlasts, else-outlasts}

pub returns-then-next-put-clause-counted : goal.returns-then-next-put-clause-counted
returns-then-next-put-clause-counted c =
    let ps = c.args.presences.now in
    let p = c.loop-p.p in
    let skips = c.loop-p.skips.items in
    let test = c.loop-p-test.true in
    let fits = c.requires.inside in
    let here : p < length ps + 1 = omega (arith, test, fits) in
    let size = c.loop-p.invariant.skips.sized in
    let at = c.index-next.ensures ∙ get_or_default skips p _ 0 (omega (arith, here, size)) in
    let past = c.if-next-put.true in
    inl (c.loop-p.invariant.counted ∙ sym (count_skip_to ps c.args.n c.args.put c.args.after p c.args.put skips
    c.loop-p.invariant.skips
    c.requires.later here c.loop-p.invariant.within (omega (arith, at, past))))

pub loop-p-preserved : goal.loop-p-preserved
loop-p-preserved c =
    let ps = c.args.presences.now in
    let p = c.loop-p.p in
    let skips = c.loop-p.skips.items in
    let next = c.index-next.result.now in
    let t : ℕ → Bool = λ q. lasts_at ps c.args.put c.args.after q in
    let test = c.loop-p-test.true in
    let fits = c.requires.inside in
    let here : p < length ps + 1 = omega (arith, test, fits) in
    let size = c.loop-p.invariant.skips.sized in
    let at : next ≡ get_or skips p 0 = c.index-next.ensures ∙ get_or_default skips p _ 0 (omega (arith, here, size)) in
    let ahead = (c.loop-p.invariant.skips.ahead p here).0 in
    let below = c.if-next-put.false in
    let few = c.loop-p.invariant.few in
    let same : c.loop-p.count ≡ count_below t next =
    c.loop-p.invariant.counted
    ∙ sym (count_skip_to ps c.args.n c.args.put c.args.after p next skips c.loop-p.invariant.skips
    c.requires.later here (omega (arith, at, ahead)) (omega (arith, at))) in
    elim c.if-outlasts.branch [
      | then-outlasts w ↦ (
          let is = w.count-is in
          let more = count_yes t next (sym c.outlasts.ensures ∙ w.if-outlasts.true) in
          record {
            counted = omega (arith, is, more, same);
            few = omega (arith, is, few, at, ahead);
            within = omega (arith, below);
            skips = c.loop-p.invariant.skips;
          }
          )
      | else-outlasts w ↦ (
          let is = w.count-is in
          let flat = count_no t next (sym c.outlasts.ensures ∙ w.if-outlasts.false) in
          record {
            counted = omega (arith, is, flat, same);
            few = omega (arith, is, few, at, ahead);
            within = omega (arith, below);
            skips = c.loop-p.invariant.skips;
          }
          )
    ]

pub returns-else-count-limit-clause-counted : goal.returns-else-count-limit-clause-counted
returns-else-count-limit-clause-counted c =
    let t : ℕ → Bool = λ q. lasts_at c.args.presences.now c.args.put c.args.after q in
    let up = count_rises t c.loop-p.p c.args.put c.loop-p.invariant.within in
    let counted = c.loop-p.invariant.counted in
    inr (c.if-count-limit.false, omega (arith, up, counted))
