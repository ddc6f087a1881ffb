use Rattle.std.proofs.Common.{ℕ, ◌+◌, BTreeMap, refl, sym, ◌∙◌, ap, subst, Some}
use Rattle.std.specs.BTreeMap.{get}
use Rattle.std.specs.Ordering.{nat_cmp}
use Rattle.kfifo_model.specs.Histories.{call, effect_of}
use Rattle.kfifo_model.specs.Index.{IsIndex}
use Rattle.kfifo_model.proofs.Checking.{read}
use Rattle.kfifo_model.proofs.Indexing.{index_skip, index_more, differs, was_none}
use Rattle.kfifo_model.proofs.index.index_of.Goals as goal
use Rattle.kfifo_model.proofs.index.index_of.Goals.{in-Some+in_ok-insert+else-is_some, in_default}

pub loop-call-preserved : goal.loop-call-preserved
loop-call-preserved c =
    let h = c.args.calls.now in
    let n = c.loop-call.call-index in
    let same = read h n _ c.loop-call-test.true in
    let P : BTreeMap ℕ ℕ → Type 0 = λ m. IsIndex h c.args.side (n + 1) (λ x. get nat_cmp m x) in
    elim c.match-item_of.branch [
      | in-Some+in_ok-insert+else-is_some w ↦ subst P (sym w.firsts-is)
          (index_more h c.args.side n w.in-Some.item (call h n).first (λ x. get nat_cmp c.loop-call.firsts x)
          (λ x. get nat_cmp w.insert.new.self x) c.loop-call.invariant
          (was_none _ _ w.in_ok-insert.ensures.old (w.if-is_some.ensures))
          (ap effect_of (sym same) ∙ w.in-Some.ensures) refl
          (w.in_ok-insert.ensures.updates.1 ∙ ap (λ t. Some t.first) same)
          (λ q ne. w.in_ok-insert.ensures.updates.2 q (differs w.in-Some.item q ne)))
      | in_default w ↦ subst P (sym w.firsts-is)
          (index_skip h c.args.side n (λ x. get nat_cmp c.loop-call.firsts x) c.loop-call.invariant
          (λ x e. w.in_default.ensures x (ap effect_of same ∙ e)))
    ]
