-- Stamps stand as the times do.
use Rattle.std.proofs.Common.{ℕ, zero, suc, [], ◌∷◌, ◌≡◌, ◌≢◌, ◌+◌, ◌<◌, ◌≤◌, List, Option, Some, None, length, get_or}
use Rattle.std.proofs.Common.{sym, ◌∙◌, ap, subst, refl, inl, inr, arith}
use Rattle.std.specs.Prelude.{option_map}
use Rattle.std.specs.List.Sorted.{IsNonDecreasingBy}
use Rattle.std.proofs.lemmas.Bool.{cases_lt}
use Rattle.std.proofs.lemmas.List.{get_or_default}
use Rattle.kfifo_model.specs.declared.calls.End.{End}
use Rattle.kfifo_model.specs.declared.calls.Call.{Call}
use Rattle.kfifo_model.specs.Histories.{call, no_call, HasEnd, EndsBelow}
use Rattle.kfifo_model.specs.Validity.{EndsFrom}
use Rattle.kfifo_import.specs.declared.moments.Moment.{Moment}
use Rattle.kfifo_import.specs.Stamping.{AnswersAlike, AreEndStamps, AreSortedEnds, AreStamped, AreStampedTo, HaveBegun}
use Rattle.kfifo_import.specs.Stamping.{HaveEnded, IsEndStamp, IsStampOf, end_at, end_of, ending_at, first_at, last_in}
use Rattle.kfifo_import.specs.Stamping.{last_of, last_time, no_moment}

-- ---- ends as numbers

below_is : (o : Option End) (s : ℕ) → EndsBelow o s → HasEnd o × (last_in o < s)
below_is (Some end) s l = (tt, l)
below_is None s l = absurd l

is_below : (o : Option End) (s : ℕ) → HasEnd o → last_in o < s → EndsBelow o s
is_below (Some end) s h l = l
is_below None s h l = absurd h

from_is : (o : Option End) (s : ℕ) → HasEnd o → EndsFrom s o → s ≤ last_in o
from_is (Some end) s h l = l
from_is None s h l = absurd h

is_from : (o : Option End) (s : ℕ) → (HasEnd o → s ≤ last_in o) → EndsFrom s o
is_from (Some end) s f = f tt
is_from None s f = tt

-- an end that has another time
last_is : (o : Option End) (last : ℕ) → HasEnd o → last_in (option_map (ending_at last) o) ≡ last
last_is (Some end) last h = refl
last_is None last h = absurd h

alike : (o : Option End) (last : ℕ) → AnswersAlike o (option_map (ending_at last) o)
alike (Some end) last = refl
alike None last = tt

has_then : (o s : Option End) → AnswersAlike o s → HasEnd o → HasEnd s
has_then (Some a) (Some b) e h = tt
has_then (Some a) None e h = absurd e
has_then None s e h = absurd h

had_then : (o s : Option End) → AnswersAlike o s → HasEnd s → HasEnd o
had_then (Some a) s e h = tt
had_then None (Some b) e h = absurd e
had_then None None e h = h

-- ---- sums of places

less : (first last r b e d : ℕ) → (e ≤ r → first ≤ last) → (d < b → first ≤ last) → last < first → r + b < d + e
less first last r b e d f g lt = elim (cases_lt r e) [
  | inl re ↦ elim (cases_lt d b) [
    | inl db ↦ (let x = g db in absurd (omega (arith, x)))
    | inr bd ↦ omega arith
  ]
  | inr er ↦ (let x = f er in absurd (omega (arith, x)))
]

more : (first last r b e d : ℕ) → (r < e → last < first) → (b ≤ d → last < first) → first ≤ last → d + e < r + b
more first last r b e d f g le = elim (cases_lt r e) [
  | inl re ↦ (let x = f re in absurd (omega (arith, x)))
  | inr er ↦ elim (cases_lt d b) [
    | inl db ↦ omega arith
    | inr bd ↦ (let x = g bd in absurd (omega (arith, x)))
  ]
]

-- more have begun by a later time
begun_more : (l : List Call) (s t b d : ℕ) → s ≤ t → HaveBegun l s b → HaveBegun l t d → b ≤ d
begun_more l s t b d le p q = elim (cases_lt d b) [
  | inl lt ↦ (let x = p.1.0 d no_call (omega arith) lt in let y = q.1.1 d no_call (omega arith) (omega (arith, p.0)) in
      absurd (omega (arith, x, y)))
  | inr ge ↦ ge
]

-- more have ended before a later time
ended_more : (ends : List Moment) (s t b d : ℕ) → s ≤ t → HaveEnded ends s b → HaveEnded ends t d → b ≤ d
ended_more ends s t b d le p q = elim (cases_lt d b) [
  | inl lt ↦ (let x = p.1.0 d no_moment (omega arith) lt in let y =
      q.1.1 d no_moment (omega arith) (omega (arith, p.0)) in
      absurd (omega (arith, x, y)))
  | inr ge ↦ ge
]

-- ---- the stamps

-- where the end of call c stands, and its stamp in h
record IsPlaced (l h : List Call) (ends : List Moment) (c : ℕ) : Type 0 where
  rank : ℕ
  inside : rank < length ends
  time : (get_or ends rank no_moment).time ≡ last_of l c
  number : (get_or ends rank no_moment).number ≡ c
  begun : ℕ
  have_begun : HaveBegun l (last_of l c) begun
  last : last_of h c ≡ rank + begun

module _ (l h : List Call) (ends : List Moment) (stamps : List ℕ) (sorted : AreSortedEnds l ends)
    (stamped : AreEndStamps l ends (length ends) stamps) (sized : length h ≡ length l)
    (by_first : IsNonDecreasingBy (λ c. c.first) l)
    (are : (n : ℕ) → n < length l → IsStampOf l ends stamps n (call h n)) where
  inside : (c : ℕ) → HasEnd (end_at l c) → c < length l
  inside c has = within l c has
    where
      within : (k : List Call) (n : ℕ) → HasEnd (end_at k n) → n < length k
      within [] n w = absurd w
      within (x ∷ k) zero w = omega arith
      within (x ∷ k) (suc n) w = let r = within k n w in omega arith

  first_is : (d : ℕ) (small : d < length l) → first_at h d ≡ d + (are d small).ended
  first_is d small = ap (λ c. c.first) (are d small).is

  placed : (c : ℕ) → HasEnd (end_at l c) → IsPlaced l h ends c
  placed c has =
      let in_ends = sorted.are.all c has in
      let here : get_or ends in_ends.0 no_moment ≡ end_of l c =
      sym (get_or_default ends in_ends.0 (end_of l c) no_moment in_ends.1) ∙ in_ends.2 in
      let s : IsEndStamp l ends c (get_or stamps c 0) =
      subst (λ (m : Moment). IsEndStamp l ends m.number (get_or stamps m.number 0)) here
      (stamped.each in_ends.0 in_ends.1) in
      let is = (are c (inside c has)).is in
      record {
        rank = s.rank;
        inside = s.inside;
        time = ap (λ end. end.time) s.there;
        number = ap (λ end. end.number) s.there;
        begun = s.begun;
        have_begun = s.have_begun;
        last = ap last_time is ∙ (last_is (end_at l c) (get_or stamps c 0) has ∙ s.is);
      }

  -- the end of c before the beginning of d
  ends_first : (c d : ℕ) → HasEnd (end_at l c) → d < length l → last_of l c < first_at l d → last_of h c < first_at h d
  ends_first c d has small lt =
      let p = placed c has in
      let s = are d small in
      let f = first_is d small in
      let r = less (first_at l d) (last_of l c) p.rank p.begun s.ended d
      (λ le. (let x = s.have_ended.1.1 p.rank no_moment le p.inside in rw p.time at x))
      (λ db. p.have_begun.1.0 d no_call (omega arith) db) lt in
      omega (arith, r, p.last, f)

  begins_first : (c d : ℕ) → HasEnd (end_at l c) → d < length l → first_at l d ≤ last_of l c
      → first_at h d < last_of h c
  begins_first c d has small le =
      let p = placed c has in
      let s = are d small in
      let f = first_is d small in
      let r = more (first_at l d) (last_of l c) p.rank p.begun s.ended d
      (λ re. (let x = s.have_ended.1.0 p.rank no_moment (omega arith) re in rw p.time at x))
      (λ bd. p.have_begun.1.1 d no_call bd small) le in
      omega (arith, r, p.last, f)

  same : (c : ℕ) → c < length l → AnswersAlike (end_at l c) (end_at h c)
  same c small =
      subst (λ (s : Call). AnswersAlike (end_at l c) s.end) (sym (are c small).is)
      (alike (end_at l c) (get_or stamps c 0))

  -- an end before another
  ends_sooner : (c d : ℕ) → HasEnd (end_at l c) → HasEnd (end_at l d) → last_of l c < last_of l d
      → last_of h c < last_of h d
  ends_sooner c d has had lt =
      let p = placed c has in
      let q = placed d had in
      let b = begun_more l (last_of l c) (last_of l d) p.begun q.begun (omega arith) p.have_begun q.have_begun in
      elim (cases_lt p.rank q.rank) [
        | inl less ↦ omega (arith, b, p.last, q.last, less)
        | inr ge ↦
            let x = sorted.rise q.rank p.rank no_moment ge p.inside in
            absurd (omega (arith, x, p.time, q.time))
      ]

  ends_apart : (c d : ℕ) → HasEnd (end_at l c) → HasEnd (end_at l d) → c ≢ d → last_of h c ≢ last_of h d
  ends_apart c d has had ne e = elim (cases_lt (last_of l c) (last_of l d)) [
    | inl lt ↦ (let x = ends_sooner c d has had lt in absurd (omega (arith, x, e)))
    | inr ge ↦ elim (cases_lt (last_of l d) (last_of l c)) [
      | inl gt ↦ (let x = ends_sooner d c had has gt in absurd (omega (arith, x, e)))
      | inr le ↦
          let p = placed c has in
          let q = placed d had in
          let a = begun_more l (last_of l c) (last_of l d) p.begun q.begun le p.have_begun q.have_begun in
          let b = begun_more l (last_of l d) (last_of l c) q.begun p.begun ge q.have_begun p.have_begun in
          let r : p.rank ≡ q.rank = omega (arith, a, b, p.last, q.last, e) in
          absurd (ne (sym p.number ∙ (ap (λ i. (get_or ends i no_moment).number) r ∙ q.number)))
    ]
  ]

  pub are_stamped : AreStamped l h
  are_stamped = record {
    sized = sized;
    same = λ n lt. (let s = are n lt in record {
      thread = ap (λ c. c.thread) s.is;
      op = ap (λ c. c.op) s.is;
      answer = same n lt;
    });
    begin = λ c d lt small.
        let low : c < length l = omega arith in
        let s = are c low in
        let t = are d small in
        let e = ended_more ends (first_at l c) (first_at l d) s.ended t.ended (by_first c d no_call (omega arith) small)
        s.have_ended
        t.have_ended in
        let f = first_is c low in
        let g = first_is d small in
        omega (arith, e, f, g);
    before = λ c d small low. (
      λ p. let x = below_is (end_at l c) (first_at l d) p in
          is_below (end_at h c) (first_at h d) (has_then (end_at l c) (end_at h c) (same c small) x.0)
          (ends_first c d x.0 low x.1),
      λ p. let x = below_is (end_at h c) (first_at h d) p in
          let has = had_then (end_at l c) (end_at h c) (same c small) x.0 in
          is_below (end_at l c) (first_at l d) has (elim (cases_lt (last_of l c) (first_at l d)) [
            | inl lt ↦ lt
            | inr ge ↦ (let y = begins_first c d has low ge in absurd (omega (arith, y, x.1)))
          ]),
    );
    after = λ c d small low f. is_from (end_at h c) (first_at h d + 1) (λ ended.
        let has = had_then (end_at l c) (end_at h c) (same c small) ended in
        let y = begins_first c d has low (from_is (end_at l c) (first_at l d) has f) in
        omega (arith, y));
    end = ends_sooner;
    apart = ends_apart;
    begin_below =
        λ n lt. (let s = are n lt in let f = first_is n lt in omega (arith, f, s.have_ended.0, sorted.are.count));
    end_below = λ n has.
        let p = placed n has in
        omega (arith, p.inside, p.last, p.have_begun.0, sorted.are.count);
  }

-- all calls with their stamps
pub all_stamped : (l found : List Call) (ends : List Moment) (stamps : List ℕ) (n : ℕ) → length l ≡ n
    → AreSortedEnds l ends
    → AreEndStamps l ends (length ends) stamps → IsNonDecreasingBy (λ c. c.first) l → AreStampedTo l ends stamps n found
    → AreStamped l found
all_stamped l found ends stamps n same sorted stamped by_first to =
    are_stamped l found ends stamps sorted stamped (to.sized ∙ sym same) by_first
    (λ m lt. to.each m (omega (arith, same)))
