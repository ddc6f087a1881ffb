-- The walks over the ends and over the calls: a call's stamps come from how many have begun or ended by its times.
use Rattle.std.proofs.Common.{ℕ, [], ◌∷◌, ◌++◌, ◌≡◌, ◌+◌, ◌<◌, List, length, get_or, set, sym, ◌∙◌, ap, subst, refl}
use Rattle.std.proofs.Common.{inl, inr, arith, None, length-append, length-set, get_or-set_other, get_or-set_same}
use Rattle.std.specs.List.Sorted.{IsNonDecreasingBy}
use Rattle.std.proofs.lemmas.Bool.{cases_eq}
use Rattle.std.proofs.lemmas.List.{get_or_append_left}
use Rattle.std.proofs.Math.Seq.{get_or-append_seam}
use Rattle.kfifo_model.specs.declared.calls.Call.{Call}
use Rattle.kfifo_model.specs.declared.calls.Op.TheVariants.{Enqueue}
use Rattle.kfifo_model.specs.Histories.{call, no_call}
use Rattle.kfifo_import.specs.declared.moments.Moment.{Moment}
use Rattle.kfifo_import.specs.Stamping.{AreEndStamps, AreSortedEnds, AreStampedTo, BeginByEnds, EndBeforeBeginnings}
use Rattle.kfifo_import.specs.Stamping.{HaveBegun, HaveEnded, IsEndStamp, IsStampOf, end_of, first_at, no_moment}

-- the call past the last one that the code's proofs speak of
abbrev pub other_call : Call
other_call = record { thread = 0; op = Enqueue 0; first = 0; end = None }

-- ---- the ends

pub one_stamp : (l : List Call) (ends : List Moment) (stamps : List ℕ) (q begun : ℕ) → AreSortedEnds l ends
    → q < length ends
    → AreEndStamps l ends q stamps → HaveBegun l (get_or ends q no_moment).time begun
    → AreEndStamps l ends (q + 1) (set stamps (get_or ends q no_moment).number (q + begun))
one_stamp l ends stamps q begun sorted lt was have =
    let n : ℕ = (get_or ends q no_moment).number in
    let end : (n < length l) × (get_or ends q no_moment ≡ end_of l n) = sorted.are.each q no_moment lt in
    let stamp : IsEndStamp l ends n (q + begun) = record {
      rank = q;
      inside = lt;
      there = end.1;
      begun = begun;
      have_begun = subst (λ t. HaveBegun l t begun) (ap (λ (m : Moment). m.time) end.1) have;
      is = refl;
    } in
    let small : n < length stamps = omega (arith, was.sized, end.0) in
    let here : get_or (set stamps n (q + begun)) n 0 ≡ q + begun = get_or-set_same stamps n (q + begun) 0 small in
    record {
      sized = length-set stamps n (q + begun) ∙ was.sized;
      each = λ p less. elim (cases_eq (get_or ends p no_moment).number n) [
        | inl same ↦ subst (λ x. IsEndStamp l ends x (get_or (set stamps n (q + begun)) x 0)) (sym same)
            (subst (λ v. IsEndStamp l ends n v) (sym here) stamp)
        | inr ne ↦ elim (cases_eq p q) [
          | inl e ↦ absurd (ne (ap (λ i. (get_or ends i no_moment).number) e))
          | inr other ↦ subst (λ v. IsEndStamp l ends (get_or ends p no_moment).number v)
              (sym (get_or-set_other stamps n (get_or ends p no_moment).number (q + begun) 0 ne))
              (was.each p (omega arith))
        ]
      ];
    }

-- those that have begun by an end have begun by the next ones
pub begin_more : (l : List Call) (ends : List Moment) (q begun : ℕ) → IsNonDecreasingBy (λ (m : Moment). m.time) ends
    → HaveBegun l (get_or ends q no_moment).time begun → BeginByEnds l ends (q + 1) begun
begin_more l ends q begun rise have = record {
  inside = have.0;
  before = λ p k le lt small.
      let a = have.1.0 k no_call (omega arith) small in
      let b = rise q p no_moment (omega arith) lt in
      omega (arith, a, b);
}

-- ---- the beginnings

-- those that have ended before a beginning have ended before the next ones
pub end_more : (l : List Call) (ends : List Moment) (n ended : ℕ) → IsNonDecreasingBy (λ (c : Call). c.first) l
    → HaveEnded ends (first_at l n) ended → EndBeforeBeginnings l ends (n + 1) ended
end_more l ends n ended rise have = record {
  inside = have.0;
  before = λ m k le lt small.
      let a = have.1.0 k no_moment (omega arith) small in
      let b = rise n m no_call (omega arith) lt in
      omega (arith, a, b);
}

-- one call more with its stamps
pub one_more : (l : List Call) (ends : List Moment) (stamps : List ℕ) (n : ℕ) (found : List Call) (s : Call)
    → AreStampedTo l ends stamps n found → IsStampOf l ends stamps n s
    → AreStampedTo l ends stamps (n + 1) (found ++ s ∷ [])
one_more l ends stamps n found s was is = record {
  sized = (let a = length-append found (s ∷ []) in omega (arith, a, was.sized));
  each = λ m lt. elim (cases_eq m n) [
    | inl same ↦ subst (λ x. IsStampOf l ends stamps x (call (found ++ s ∷ []) x)) (sym same)
        (subst (λ (t : Call). IsStampOf l ends stamps n t)
        (sym (subst (λ x. get_or (found ++ s ∷ []) x no_call ≡ s) was.sized (get_or-append_seam found s [] no_call)))
        is)
    | inr ne ↦
        let e : get_or (found ++ s ∷ []) m no_call ≡ get_or found m no_call =
        get_or_append_left found (s ∷ []) no_call m (omega (arith, was.sized)) in
        subst (λ (t : Call). IsStampOf l ends stamps m t) (sym e) (was.each m (omega arith))
  ];
}
