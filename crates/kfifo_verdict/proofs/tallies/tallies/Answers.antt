use Rattle.std.proofs.Common.{◌+◌, sym, ◌∙◌, ap, subst}
use Rattle.kfifo_model.specs.Histories.{effect_of}
use Rattle.kfifo_model.proofs.Checking.{read}
use Rattle.kfifo_verdict.specs.declared.tallies.ByItem.{ByItem}
use Rattle.kfifo_verdict.specs.Finding.{IsTallied, tally_in, has_item, first_of}
use Rattle.kfifo_verdict.proofs.Telling.{tallied_skip, tallied_more, side_here}
use Rattle.kfifo_verdict.proofs.tallies.tallies.Goals as goal
use Rattle.kfifo_verdict.proofs.tallies.tallies.Goals.{in-Some+in_ok-count_call, in_default}

pub loop-n-preserved : goal.loop-n-preserved
loop-n-preserved c =
    let h = c.args.calls.now in
    let n = c.loop-n.n in
    let side = c.args.side in
    let same = read h n _ c.loop-n-test.true in
    let P : ByItem → Type 0 = λ m. IsTallied h side (n + 1) (tally_in m) in
    elim c.match-item_of.branch [
      | in-Some+in_ok-count_call w ↦ (
          let x = w.in-Some.item in
          let is = ap effect_of (sym same) ∙ w.in-Some.ensures in
          subst P (sym w.tallies-is)
          (tallied_more h side n x (tally_in c.loop-n.tallies) (tally_in w.count_call.new.tallies) c.loop-n.invariant is
          (w.in_ok-count_call.ensures.counted (has_item side h x) (first_of h) (c.loop-n.invariant x)
          (side_here side h x n is)
          (ap (λ t. t.first) (sym same))) w.in_ok-count_call.ensures.others)
          )
      | in_default w ↦ subst P (sym w.tallies-is)
          (tallied_skip h side n (tally_in c.loop-n.tallies) c.loop-n.invariant
          (λ x e. w.in_default.ensures x (ap effect_of same ∙ e)))
    ]
