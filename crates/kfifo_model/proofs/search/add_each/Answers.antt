use Rattle.std.proofs.Common.{ℕ, ◌<◌, ◌+◌, List, arith, sym, ◌∙◌, ap, subst}
use Rattle.std.proofs.lemmas.Bool.{false≢true}
use Rattle.kfifo_model.specs.Reach.{Reach, reach}
use Rattle.kfifo_model.specs.Searching.{IsAdded, IsNoNext, Extends}
use Rattle.kfifo_model.proofs.Adding.{added_none, added_as, added_both, no_next_more}
use Rattle.kfifo_model.proofs.Resting.{none_goes, not_free}
use Rattle.kfifo_model.proofs.search.add_each.Goals as goal
use Rattle.kfifo_model.proofs.search.add_each.Goals.{then-is_free+in_ok-add_after, else-is_free}

pub loop-n-init : goal.loop-n-init
loop-n-init c = added_none c.args.k c.args.calls.now (reach c.args.done.now c.args.items.now) c.args.next.now.items _
    (λ j lt. absurd (omega arith))

pub loop-n-preserved : goal.loop-n-preserved
loop-n-preserved c =
    let r = reach c.args.done.now c.args.items.now in
    let S : Type 0 = (j : ℕ) → j < c.loop-n.n → IsNoNext c.args.k c.args.calls.now r j in
    let T : Type 0 = (j : ℕ) → j < c.loop-n.n + 1 → IsNoNext c.args.k c.args.calls.now r j in
    let P : List Reach → Type 0 = λ t. IsAdded c.args.k c.args.calls.now r c.args.next.now.items t T in
    elim c.if-is_free.branch [
      | then-is_free+in_ok-add_after w ↦ subst P (ap (λ v. v.items) (sym w.next-is))
          (added_both c.args.k c.args.calls.now r c.args.next.now.items c.loop-n.next.items w.add_after.new.next.items S
          (IsNoNext c.args.k c.args.calls.now r c.loop-n.n) T
          (no_next_more c.args.k c.args.calls.now r c.loop-n.n) c.loop-n.invariant w.in_ok-add_after.ensures)
      | else-is_free w ↦ subst P (ap (λ v. v.items) (sym w.next-is))
          (added_as c.args.k c.args.calls.now r c.args.next.now.items c.loop-n.next.items S T
          (λ s. no_next_more c.args.k c.args.calls.now r c.loop-n.n s
          (not_free c.args.k c.args.calls.now r c.loop-n.n c.requires.history
          (λ f. false≢true (sym w.if-is_free.false ∙ c.is_free.ensures.1 f)))) c.loop-n.invariant)
    ]

pub returns : goal.returns
returns c =
    let r = reach c.args.done.now c.args.items.now in
    added_as c.args.k c.args.calls.now r c.args.next.now.items c.loop-n.next.items _
    (Extends c.args.k c.args.calls.now r → ⊥)
    (λ s. none_goes c.args.k c.args.calls.now r c.requires.history c.requires.open (λ n lt. s n (omega arith)))
    c.loop-n.invariant
