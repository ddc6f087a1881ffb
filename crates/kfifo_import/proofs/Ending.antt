-- The ends of a log's calls, call by call: they are all ends, in any order of them.
use Rattle.std.proofs.Common.{ℕ, zero, suc, ◌≡◌, ◌+◌, ◌<◌, ◌≤◌, true, false, List, [], ◌∷◌, ◌++◌, Option, Some, None}
use Rattle.std.proofs.Common.{length, count_by, is_some, refl, sym, ◌∙◌, ap, subst, inl, inr, arith, length-append}
use Rattle.std.specs.List.{Contains}
use Rattle.std.specs.List.Sorted.{IsPermutation}
use Rattle.std.proofs.lemmas.Bool.{cases_eq}
use Rattle.std.proofs.lemmas.List.{take_all}
use Rattle.std.proofs.lemmas.List.Elements.{All-append, All-cons, All-nil, Contains-append_left, Contains-push}
use Rattle.std.proofs.lemmas.List.Sums.{count_by_more_no, count_by_more_yes}
use Rattle.std.proofs.lemmas.List.Sorted.{All-permutation, Contains-permutation, length_permutation}
use Rattle.kfifo_model.specs.declared.calls.End.{End}
use Rattle.kfifo_model.specs.declared.calls.Call.{Call}
use Rattle.kfifo_model.specs.Histories.{no_call, HasEnd}
use Rattle.kfifo_import.specs.declared.moments.Moment.{Moment}
use Rattle.kfifo_import.specs.Stamping.{AreEnds, AreEndsTo, end_at, end_of}

abbrev IsEnd : List Call → Moment → Type 0
IsEnd l end = (end.number < length l) × (end ≡ end_of l end.number)

pub no_ends : (l : List Call) → AreEndsTo l [] 0
no_ends l = record { each = All-nil (IsEnd l); all = λ m lt. absurd (omega arith); count = refl }

pub one_end : (l : List Call) (ends : List Moment) (n : ℕ) → n < length l → AreEndsTo l ends n
    → is_some (end_at l n) ≡ true
    → AreEndsTo l (ends ++ end_of l n ∷ []) (n + 1)
one_end l ends n lt was is = record {
  each = All-append (IsEnd l) ends (end_of l n ∷ []) was.each
      (All-cons (IsEnd l) (end_of l n) [] (lt, refl) (All-nil (IsEnd l)));
  all = λ m less h. elim (cases_eq m n) [
    | inl same ↦ subst (λ x. Contains (ends ++ end_of l n ∷ []) (end_of l x)) (sym same)
        (Contains-push ends (end_of l n))
    | inr ne ↦ Contains-append_left ends (end_of l n ∷ []) (end_of l m) (was.all m (omega arith) h)
  ];
  count = let a = length-append ends (end_of l n ∷ []) in
      let b = count_by_more_yes (λ c. is_some c.end) l n no_call lt is in let e = was.count in
      omega (arith, a, b, e);
}

pub no_end : (l : List Call) (ends : List Moment) (n : ℕ) → n < length l → AreEndsTo l ends n
    → is_some (end_at l n) ≡ false
    → AreEndsTo l ends (n + 1)
no_end l ends n lt was is = record {
  each = was.each;
  all = λ m less h. elim (cases_eq m n) [
    | inl same ↦ absurd (has_nothing (end_at l n) is (subst (λ x. HasEnd (end_at l x)) same h))
    | inr ne ↦ was.all m (omega arith) h
  ];
  count = let b = count_by_more_no (λ c. is_some c.end) l n no_call lt is in was.count ∙ sym b;
}
  where
    has_nothing : (o : Option End) → is_some o ≡ false → HasEnd o → ⊥
    has_nothing None e h = h
    has_nothing (Some x) e h = absurd (cc)

pub all_ends : (l : List Call) (ends : List Moment) (n : ℕ) → length l ≤ n → AreEndsTo l ends n → AreEnds l ends
all_ends l ends n le was = record {
  each = was.each;
  all = λ m h. was.all m (omega (arith, inside l m h)) h;
  count = was.count ∙ ap (count_by (λ c. is_some c.end)) (take_all n l le);
}
  where
    inside : (l : List Call) (m : ℕ) → HasEnd (end_at l m) → m < length l
    inside [] m h = absurd h
    inside (c ∷ l) zero h = omega arith
    inside (c ∷ l) (suc m) h = let r = inside l m h in omega arith

pub ends_moved : (l : List Call) (ends moved : List Moment) → IsPermutation ends moved → AreEnds l ends
    → AreEnds l moved
ends_moved l ends moved p a = record {
  each = All-permutation (IsEnd l) ends moved p a.each;
  all = λ m h. Contains-permutation ends moved (end_of l m) p (a.all m h);
  count = length_permutation ends moved p ∙ a.count;
}
