-- A step that takes a generation from its place keeps the rule of the history.
use Rattle.std.proofs.Common.{◌≡◌, ◌≢◌, ◌+◌, ◌<◌, ◌^◌, ◌==◌, ⊎_elim, ℕ, Bool, true, false, List, [], ◌∷◌, ◌++◌, length}
use Rattle.std.proofs.Common.{None, slice_set, refl, sym, ap, ◌∙◌, subst, arith, inr}
use Rattle.std.proofs.lemmas.Bool.Decides.{nat_tests}
use Rattle.std.proofs.lemmas.List.{append-nil, length-set}
use Rattle.std.proofs.lemmas.List.Elements.{Contains-push}
use mathlib.Core.List.{IsPrefix}
use prog.Atomic.{either}
use Rattle.logbook.specs.Pages.{Cell, Goes, Moves, Nib, cell, keeps, step}
use Rattle.kfifo_renewing.specs.declared.change.Change.{Change}
use Rattle.kfifo_renewing.specs.declared.change.Change.TheVariants as C
use Rattle.kfifo_linear.specs.Seals.{SealedEmpty}
use Rattle.kfifo_renewing.specs.declared.change.Sealed.{Sealed}
use Rattle.kfifo_renewing.specs.History.{Empties, Holds, IsGone, IsKept, IsMade, IsPlaced, TellsPlace, label_of}
use Rattle.kfifo_renewing.specs.History.{newest_of, place_count, shows}
use Rattle.kfifo_renewing.proofs.Histories.{contains-later, contains-more, gone-later, made-later}
use Rattle.kfifo_renewing.proofs.Histories.{newest-append, prefix-trans, risen-from}
use Rattle.kfifo_renewing.proofs.Keeping.{goes-by, gone-number, holds-entry, kept-of, label-at, label-within}
use Rattle.kfifo_renewing.proofs.Keeping.{label-written, moved, place-stays, set-label, shown, there-same, words-of}

-- the word of a place that a generation leaves, by an entry that says so
empty-place : (g : ℕ) (labels nexts : List Cell) (log : List Change) (e : Change) (n i : ℕ) → i < place_count
    → n < 2 ^ 32 → Holds log g labels nexts
    → (cell labels i).0 ≡ shows n → ((m : ℕ) → e ≢ C.Placed m i) → IsGone (log ++ e ∷ []) n
    → TellsPlace (log ++ e ∷ []) i (shows n + 1)
empty-place g labels nexts log e n i inside few h full other gone = record {
  there = λ m is. absurd (omega (arith, is));
  stays = λ m is. ⊎_elim
      (λ before. ⊎_elim
      (λ at. let same : n ≡ m = omega (arith, at, full) in inr (subst (IsGone (log ++ e ∷ [])) same gone))
      (λ went. inr (gone-later log (log ++ e ∷ []) m (e ∷ [], refl) went))
      ((h.labelled i inside).1.stays m before))
      (λ last. absurd (other m (sym last)))
      (contains-more log e (C.Placed m i) is);
  small = omega (arith, few);
}

-- what a step tells that found another generation in the place, or none
gone-before : (v log : List Change) (n i g : ℕ) (a : Change) (new : ℕ) (p q : Nib) (labels nexts : List Cell)
    → i < place_count → IsPrefix v log
    → Holds log g labels nexts → (cell labels i).0 ≢ shows n
    → Empties (step (label_of i) (shows n) new a) (v, (p, None)) (cell labels i).0 (log ++ [], (q, None))
gone-before v log n i g a new p q labels nexts inside pre h other m j number at is =
    let number-is : n ≡ m = omega (arith, number) in
    let place-is : i ≡ j = omega (arith, at) in
    let there : IsPlaced v n i =
    subst (λ k. IsPlaced v k i) (sym number-is) (subst (λ k. IsPlaced v m k) (sym place-is) is) in
    subst (λ l. IsGone l m) (sym (append-nil log)) (subst (IsGone log) number-is
    (⊎_elim (λ same. absurd (other same)) (λ gone. gone)
    ((h.labelled i inside).1.stays n (contains-later v log (C.Placed n i) pre there))))

-- this entry is of the generation with this number, and a pass of it had seen it sealed empty
pub record IsSealedAt (log : List Change) (s : Sealed) (n : ℕ) : Type 0 where
  pub number : s.number ≡ n
  pub made : IsMade log n s.queue
  pub empty : SealedEmpty s.queue.shape s.queue.threads s.seen

-- with that entry it has gone
gone-now : (v log : List Change) (s : Sealed) (n : ℕ) → IsPrefix v log → IsSealedAt v s n
    → IsGone (log ++ C.Gone s ∷ []) n
gone-now v log s n pre sealed = record {
  sealed = s;
  told = Contains-push log (C.Gone s);
  number = sealed.number;
  made = made-later v (log ++ C.Gone s ∷ []) n s.queue
      (prefix-trans v log (log ++ C.Gone s ∷ []) pre (C.Gone s ∷ [], refl)) sealed.made;
  empty = sealed.empty;
}

leaves-goes : (v log : List Change) (p : Nib) (s : Sealed) (n i g : ℕ) (a : Change) (labels nexts : List Cell)
    → length labels ≡ place_count
    → i < place_count → n < 2 ^ 32 → IsPrefix v log → n < newest_of log → IsSealedAt v s n → Holds log g labels nexts
    → (b : Bool) → ((cell labels i).0 == shows n) ≡ b
    → Goes IsKept shown moved (label_of i) (v, (p, None)) (λ k. either (k == shows n) (shows n + 1) k)
    (Empties (step (label_of i) (shows n) (shows n + 1) a) (v, (p, None))) (words-of g labels nexts) log
leaves-goes v log p s n i g a labels nexts all inside few pre over sealed h true found =
    let e = C.Gone s in
    let w = shows n + 1 in
    let full : (cell labels i).0 ≡ shows n = grind (arith, nat_tests) in
    let below : i < length labels = omega (arith, inside, all) in
    let gone = gone-now v log s n pre sealed in
    let here = empty-place g labels nexts log e n i inside few h full (λ m is. absurd cc) gone in
    goes-by (label_of i) v p (λ k. either (k == shows n) w k) (Empties (step (label_of i) (shows n) w a) (v, (p, None)))
    (words-of g labels nexts) (words-of g (slice_set labels i (w, true)) nexts) log (e ∷ []) (cell labels i) keeps
    (label-at g labels nexts i below) (rw found (set-label g labels nexts i (w, true) below)) tt
    (kept-of g (slice_set labels i (w, true)) nexts (log ++ e ∷ []) (length-set labels i (w, true) ∙ all)
    (holds-entry g labels nexts (slice_set labels i (w, true)) nexts log e refl (newest-append 0 log (e ∷ [])) h refl
    (λ m was. refl) (there-same g labels nexts log e (λ m j is. absurd cc) h)
    (λ j in-it. label-written g labels nexts log e i w all (λ m k apart is. absurd cc) h here j in-it (j == i) refl)
    (λ t is. ⊎_elim (h.gone t) (λ last. subst (λ k. k < newest_of log) (sym (gone-number t s last ∙ sealed.number))
    over) (contains-more log e (C.Gone t) is)) (λ m. refl)))
    (λ m j number at is. subst (IsGone (log ++ e ∷ [])) (let number-is : n ≡ m = omega (arith, number) in number-is)
    gone)
leaves-goes v log p s n i g a labels nexts all inside few pre over sealed h false found =
    let apart : (cell labels i).0 ≢ shows n = λ is. grind (arith, nat_tests) in
    place-stays v log p i (shows n) (shows n + 1) g labels nexts
    (Empties (step (label_of i) (shows n) (shows n + 1) a) (v, (p, None))) all inside h found
    (gone-before v log n i g a (shows n + 1) p p labels nexts inside pre h apart)

-- a generation that is the newest no more, and was sealed empty, leaves its place, or has left it
pub leaves-moves : (v : List Change) (p : Nib) (s : Sealed) (n i : ℕ) (a : Change) → i < place_count → n < 2 ^ 32
    → n < newest_of v → IsSealedAt v s n
    → Moves IsKept shown moved (label_of i) (v, (p, None)) (λ k. either (k == shows n) (shows n + 1) k)
    (Empties (step (label_of i) (shows n) (shows n + 1) a) (v, (p, None)))
leaves-moves v p s n i a inside few over sealed cs log kept pre away =
    let g = kept.greatest in
    let P : List Cell → Type 0 = λ c. (label_of i < length c) × ((cell c (label_of i)).1 ≡ true)
    × Goes IsKept shown moved (label_of i) (v, (p, None)) (λ k. either (k == shows n) (shows n + 1) k)
    (Empties (step (label_of i) (shows n) (shows n + 1) a) (v, (p, None))) c log in
    let up = risen-from v log pre kept.holds.risen in
    subst P (sym kept.words) (
      label-within g kept.labels kept.nexts i kept.all inside,
      ap (λ c. c.1) (label-at g kept.labels kept.nexts i (let all = kept.all in omega (arith, inside, all)))
          ∙ (kept.holds.labelled i inside).0,
      leaves-goes v log p s n i g a kept.labels kept.nexts kept.all inside few pre (omega (arith, over, up)) sealed
          kept.holds ((cell kept.labels i).0 == shows n) refl,
    )
