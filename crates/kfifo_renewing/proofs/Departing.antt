-- A step by which a pass leaves a generation keeps the rule of the history.
use Rattle.std.proofs.Common.{◌≡◌, ◌≢◌, ◌+◌, ◌<◌, ◌≤◌, ◌^◌, ◌==◌, ℕ, Bool, true, false, List, [], ◌∷◌, ◌++◌, length}
use Rattle.std.proofs.Common.{None, slice_set, refl, sym, ap, ◌∙◌, subst, arith, length-append}
use Rattle.std.specs.Prelude.{if◌then◌else◌}
use Rattle.std.proofs.lemmas.Bool.Decides.{nat_tests}
use Rattle.std.proofs.lemmas.List.{append-nil, get_or-set_other, get_or-set_same, length-set}
use Rattle.std.proofs.Math.Nat.{add-div_right, add-mod_right}
use mathlib.Core.List.{IsPrefix}
use prog.Atomic.{either}
use Rattle.logbook.specs.Pages.{Cell, Goes, Moves, Nib, cell, keeps, step}
use Rattle.kfifo_renewing.specs.declared.change.Change.{Change}
use Rattle.kfifo_renewing.specs.declared.change.Change.TheVariants as C
use Rattle.kfifo_renewing.specs.declared.change.Sight.{Sight}
use Rattle.kfifo_renewing.specs.declared.change.Made.{Made}
use Rattle.kfifo_renewing.specs.History.{AreInOne, EachLeftTogether, HaveLeftTogether, IsMade, IsNextToLeave}
use Rattle.kfifo_renewing.specs.History.{Holds, IsKept, Leaves, TellsNext, WasNewest, key_of, left_in, left_of, made}
use Rattle.kfifo_renewing.specs.History.{newest_of, next_in, place_count}
use Rattle.kfifo_renewing.proofs.Histories.{contains-later, left-append, left-as-many, made-append, made-later}
use Rattle.kfifo_renewing.proofs.Histories.{newest-append}
use Rattle.kfifo_renewing.proofs.Histories.{one-stays, prefix-trans, risen-from, risen-more, was-later, was-less}
use Rattle.kfifo_renewing.proofs.Keeping.{goes-by, gone-same, kept-of, labelled-same, left-stays, load-same, moved}
use Rattle.kfifo_renewing.proofs.Keeping.{next-at, next-within, set-next, shown, tells-same, there-same, together-same}
use Rattle.kfifo_renewing.proofs.Keeping.{within}
use Rattle.kfifo_renewing.proofs.Keeping.{words-of}

-- the entry of a pass that leaves this generation, and of one that leaves another
left-here : (n m : ℕ) (t : Sight) (b : Bool) → (n == m) ≡ b → n ≡ m → left_of m (C.Left n t ∷ []) ≡ t ∷ []
left-here n m t true is same = ap (λ (c : Bool). if c then t ∷ [] else []) is
left-here n m t false is same = absurd (grind (arith, nat_tests))

left-there : (n m : ℕ) (t : Sight) (b : Bool) → (n == m) ≡ b → n ≢ m → left_of m (C.Left n t ∷ []) ≡ []
left-there n m t true is apart = absurd (let same : n ≡ m = grind (arith, nat_tests) in apart same)
left-there n m t false is apart = ap (λ (c : Bool). if c then t ∷ [] else []) is

-- what the word of a generation says that a pass more has left
tells-left : (log : List Change) (t : Sight) (n w : ℕ) → TellsNext log n w
    → TellsNext (log ++ C.Left n t ∷ []) n (w + 2 ^ 32)
tells-left log t n w told =
    let e = C.Left n t in
    let next : next_in (w + 2 ^ 32) ≡ next_in w = add-mod_right w (2 ^ 32) in
    let same : newest_of (log ++ e ∷ []) ≡ newest_of log = newest-append 0 log (e ∷ []) in
    let more : left_of n (log ++ e ∷ []) ≡ left_of n log ++ t ∷ [] =
    left-append n log (e ∷ []) ∙ ap (λ l. left_of n log ++ l) (left-here n n t (n == n) refl refl) in
    record {
      newest = λ none. same ∙ told.newest (sym next ∙ none);
      next = λ some.
          let some' : 0 < next_in w = omega (arith, some, next) in (
            let above = (told.next some').0 in omega (arith, above, next),
            subst (WasNewest (log ++ e ∷ [])) (sym next)
                (was-later log (log ++ e ∷ []) (next_in w) (e ∷ [], refl) (told.next some').1),
          );
      left =
          let up : left_in (w + 2 ^ 32) ≡ left_in w + 1 = add-div_right w (omega arith) in
          let long = ap length more in
          let split = length-append (left_of n log) (t ∷ []) in
          let before = told.left in
          omega (arith, up, long, split, before);
    }

-- what the words of generations say then
told-left : (g : ℕ) (labels nexts : List Cell) (log : List Change) (t : Sight) (n w x : ℕ)
    → Holds log g labels nexts → n < length nexts → (cell nexts n).0 ≡ w → WasNewest log x → (b : Bool) → (n == x) ≡ b
    → ((cell (slice_set nexts n (w + 2 ^ 32, true)) x).1 ≡ true)
    × TellsNext (log ++ C.Left n t ∷ []) x (cell (slice_set nexts n (w + 2 ^ 32, true)) x).0
told-left g labels nexts log t n w x h inside at was true is =
    let same : n ≡ x = grind (arith, nat_tests) in
    let nexts' = slice_set nexts n (w + 2 ^ 32, true) in
    let P : ℕ → Type 0 = λ k. ((cell nexts' k).1 ≡ true) × TellsNext (log ++ C.Left n t ∷ []) k (cell nexts' k).0 in
    subst P same (subst (λ c. (c.1 ≡ true) × TellsNext (log ++ C.Left n t ∷ []) n c.0)
    (sym (get_or-set_same nexts n (w + 2 ^ 32, true) (0, false) inside)) (
      refl,
      tells-left log t n w (subst (TellsNext log n) at
          (subst (λ k. TellsNext log k (cell nexts k).0) (sym same) (h.told x was).1)),
    ))
told-left g labels nexts log t n w x h inside at was false is =
    let apart : n ≢ x = λ same. grind (arith, nat_tests) in
    let e = C.Left n t in
    let told = h.told x was in
    subst (λ c. (c.1 ≡ true) × TellsNext (log ++ e ∷ []) x c.0)
    (sym (get_or-set_other nexts n x (w + 2 ^ 32, true) (0, false) (λ same. apart (sym same)))) (
      told.0,
      tells-same log e x (cell nexts x).0 (newest-append 0 log (e ∷ [])) (left-there n x t (n == x) refl apart)
          told.1,
    )

-- those that have left a generation are then in one schedule with the pass
left-together : (log : List Change) (t : Sight) (n x : ℕ) (queue : Made) → IsMade log n queue
    → AreInOne queue (left_of n log ++ t ∷ []) → EachLeftTogether log → (b : Bool) → (n == x) ≡ b
    → left_of x (log ++ C.Left n t ∷ []) ≢ [] → HaveLeftTogether (log ++ C.Left n t ∷ []) x
left-together log t n x queue here one each true is some =
    let e = C.Left n t in
    let same : n ≡ x = grind (arith, nat_tests) in
    let more : left_of n (log ++ e ∷ []) ≡ left_of n log ++ t ∷ [] =
    left-append n log (e ∷ []) ∙ ap (λ l. left_of n log ++ l) (left-here n n t (n == n) refl refl) in
    subst (HaveLeftTogether (log ++ e ∷ [])) same (
      queue,
      made-later log (log ++ e ∷ []) n queue (e ∷ [], refl) here,
      subst (AreInOne queue) (sym more) one,
    )
left-together log t n x queue here one each false is some =
    let apart : n ≢ x = λ same. grind (arith, nat_tests) in
    together-same log (C.Left n t) x (left-there n x t (n == x) refl apart) each some

-- the rule once a pass has left a generation that is the newest no more
left-holds : (g : ℕ) (labels nexts : List Cell) (log : List Change) (t : Sight) (n w : ℕ) (queue : Made)
    → Holds log g labels nexts → n < length nexts → n < newest_of log → (cell nexts n).0 ≡ w
    → IsMade log n queue → AreInOne queue (left_of n log ++ t ∷ [])
    → Holds (log ++ C.Left n t ∷ []) g labels (slice_set nexts n (w + 2 ^ 32, true))
left-holds g labels nexts log t n w queue h inside over at here one =
    let e = C.Left n t in
    let same : newest_of (log ++ e ∷ []) ≡ newest_of log = newest-append 0 log (e ∷ []) in
    record {
      count = ap length (made-append log (e ∷ []) ∙ append-nil (made log)) ∙ h.count;
      each = length-set nexts n (w + 2 ^ 32, true) ∙ h.each;
      newest = subst (λ k. k ≤ g) (sym same) h.newest;
      risen = risen-more log e (omega (arith, same)) h.risen;
      small = h.small;
      told = λ x was. told-left g labels nexts log t n w x h inside at (was-less log e x same was) (n == x) refl;
      placed = λ x some was below.
          let p = h.placed x some (was-less log e x same was) (subst (λ k. x < k) same below) in
          (p.0, p.1, contains-later log (log ++ e ∷ []) (C.Placed x p.0) (e ∷ [], refl) p.2);
      newest_there = λ x i is. was-later log (log ++ e ∷ []) x (e ∷ [], refl)
          (there-same g labels nexts log e (λ y j is. absurd cc) h x i is);
      labelled = labelled-same g labels nexts log e (λ x i is. absurd cc) h;
      gone = λ s is. subst (λ k. s.number < k) (sym same) (gone-same g labels nexts log e (λ t is. absurd cc) h s is);
      stayed = λ x up.
          let apart : n ≢ x = λ at. omega (arith, at, up, over, same) in
          left-stays x log e (left-there n x t (n == x) refl apart) ∙ h.stayed x (subst (λ k. k ≤ x) same up);
      together = λ x. left-together log t n x queue here one h.together (n == x) refl;
      one = one-stays g log e h.count same h.one;
    }

left-number : (n m : ℕ) (s t : Sight) → C.Left n s ≡ C.Left m t → (n ≡ m) × (s ≡ t)
left-number n m s t is = (cc, cc)

-- what the step tells where it found the word as it was
left-told : (v log : List Change) (t : Sight) (n w : ℕ) → IsPrefix v log → TellsNext log n w
    → (s : Sight) (m : ℕ) (before : List Change) → C.Left n t ≡ C.Left m s → IsPrefix before v
    → length (left_of m before) ≡ left_in w → left_of m (log ++ C.Left n t ∷ []) ≡ left_of m before ++ s ∷ []
left-told v log t n w pre told s m before asked begins many =
    let is = left-number n m t s asked in
    let e = C.Left n t in
    let told' : TellsNext log m w = subst (λ k. TellsNext log k w) is.0 told in
    let same : left_of m log ≡ left_of m before =
    left-as-many m before log (prefix-trans before v log begins pre) (many ∙ told'.left) in
    left-append m log (e ∷ []) ∙ ap (λ l. l ++ left_of m (e ∷ [])) same
    ∙ ap (λ l. left_of m before ++ l) (left-here n m t (n == m) refl is.0 ∙ ap (λ (x : Sight). x ∷ []) is.1)

depart-goes : (v log : List Change) (p : Nib) (t : Sight) (n w g : ℕ) (labels nexts : List Cell)
    → length labels ≡ place_count → n < length nexts → IsPrefix v log → WasNewest log n → n < newest_of log
    → IsNextToLeave v n (left_in w) t → Holds log g labels nexts → (b : Bool) → ((cell nexts n).0 == w) ≡ b
    → Goes IsKept shown moved (key_of n) (v, (p, None)) (λ k. either (k == w) (w + 2 ^ 32) k)
    (Leaves (step (key_of n) w (w + 2 ^ 32) (C.Left n t)) (v, (p, None))) (words-of g labels nexts) log
depart-goes v log p t n w g labels nexts all inside pre was over (before, queue, begins, many, here, one) h true found =
    let e = C.Left n t in
    let at : (cell nexts n).0 ≡ w = grind (arith, nat_tests) in
    let told = h.told n was in
    let same : left_of n log ≡ left_of n before = left-as-many n before log (prefix-trans before v log begins pre)
    (many ∙ ap left_in (sym at) ∙ told.1.left) in
    goes-by (key_of n) v p (λ k. either (k == w) (w + 2 ^ 32) k)
    (Leaves (step (key_of n) w (w + 2 ^ 32) e) (v, (p, None)))
    (words-of g labels nexts) (words-of g labels (slice_set nexts n (w + 2 ^ 32, true))) log (e ∷ []) (cell nexts n)
    keeps (next-at g labels nexts n all) (rw found (set-next g labels nexts n (w + 2 ^ 32, true) all)) tt
    (kept-of g labels (slice_set nexts n (w + 2 ^ 32, true)) (log ++ e ∷ []) all
    (left-holds g labels nexts log t n w queue h inside over at (made-later v log n queue pre here)
    (subst (λ l. AreInOne queue (l ++ t ∷ [])) (sym same) one)))
    (λ s m before asked key same begins many.
    left-told v log t n w pre (subst (TellsNext log n) at told.1) s m before asked begins many)
depart-goes v log p t n w g labels nexts all inside pre was over next h false found =
    let none : log ++ [] ≡ log = append-nil log in
    let other : (cell nexts n).0 ≢ w = λ same. grind (arith, nat_tests) in
    let told = h.told n was in
    goes-by (key_of n) v p (λ k. either (k == w) (w + 2 ^ 32) k)
    (Leaves (step (key_of n) w (w + 2 ^ 32) (C.Left n t)) (v, (p, None)))
    (words-of g labels nexts) (words-of g labels nexts) log [] (cell nexts n) keeps (next-at g labels nexts n all)
    (rw found (set-next g labels nexts n ((cell nexts n).0, true) all ∙ ap (words-of g labels)
    (load-same nexts n told.0))) tt
    (subst (IsKept (words-of g labels nexts)) (sym none) (kept-of g labels nexts log all h))
    (λ s m before asked key same begins many. absurd (other same))

-- the next to leave after so many stays that as more of the history is seen
pub next-later : (xs ys : List Change) (n count w : ℕ) (t : Sight) → IsPrefix xs ys → count ≡ left_in w
    → IsNextToLeave xs n count t → IsNextToLeave ys n (left_in w) t
next-later xs ys n count w t pre same (before, queue, begins, many, here, one) =
    (before, queue, prefix-trans before xs ys begins pre, many ∙ same, made-later xs ys n queue pre here, one)

-- a pass leaves a generation that is the newest no more, or nothing happens
pub depart-moves : (v : List Change) (p : Nib) (t : Sight) (n w : ℕ) → WasNewest v n → n < newest_of v
    → IsNextToLeave v n (left_in w) t
    → Moves IsKept shown moved (key_of n) (v, (p, None)) (λ k. either (k == w) (w + 2 ^ 32) k)
    (Leaves (step (key_of n) w (w + 2 ^ 32) (C.Left n t)) (v, (p, None)))
depart-moves v p t n w was over next cs log kept pre away =
    let g = kept.greatest in
    let P : List Cell → Type 0 = λ c. (key_of n < length c) × ((cell c (key_of n)).1 ≡ true)
    × Goes IsKept shown moved (key_of n) (v, (p, None)) (λ k. either (k == w) (w + 2 ^ 32) k)
    (Leaves (step (key_of n) w (w + 2 ^ 32) (C.Left n t)) (v, (p, None))) c log in
    let later : WasNewest log n = was-later v log n pre was in
    let inside = within g kept.labels kept.nexts log n kept.holds later in
    let up = risen-from v log pre kept.holds.risen in
    subst P (sym kept.words) (
      next-within g kept.labels kept.nexts n kept.all inside,
      ap (λ c. c.1) (next-at g kept.labels kept.nexts n kept.all) ∙ (kept.holds.told n later).0,
      depart-goes v log p t n w g kept.labels kept.nexts kept.all inside pre later (omega (arith, over, up)) next
          kept.holds
          ((cell kept.nexts n).0 == w) refl,
    )
