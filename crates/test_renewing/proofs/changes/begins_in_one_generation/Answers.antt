-- All handles of an opening have one book.
use Rattle.std.proofs.Common.{◌≡◌, All, List, ℕ, sym, ◌∙◌, subst}
use Rattle.kfifo_renewing.specs.Renewing.{Generations}
use Rattle.test_renewing.proofs.changes.begins_in_one_generation.Goals as goal

pub are_both_beside-requires : goal.are_both_beside-requires
are_both_beside-requires g c =
    let one = c.in_ok-handles.ensures.ok.0 in
    subst (λ (hs : List (Generations ℕ)). All (λ (a : Generations ℕ). All (λ (b : Generations ℕ). b.book ≡ a.book)
    hs) hs)
    (sym c.as_slice.ensures.value) (λ k d inside. λ j e within. (one.3 j e within).1 ∙ sym (one.3 k d inside).1)
