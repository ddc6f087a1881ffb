-- Steps that make a generation, or make one the newest, keep the rule of the history.
use Rattle.std.proofs.Common.{◌≡◌, ◌≢◌, ◌+◌, ◌<◌, ◌≤◌, ◌⊎◌, ◌^◌, ◌==◌, ⊎_elim, ℕ, suc, Bool, true, false, List, []}
use Rattle.std.proofs.Common.{◌∷◌, ◌++◌}
use Rattle.std.proofs.Common.{length, None, Some, slice_get, slice_set, refl, sym, ap, ◌∙◌, subst, arith, inl, inr}
use Rattle.std.proofs.Common.{append_assoc, length-append}
use Rattle.std.proofs.lemmas.Bool.{false≢true}
use Rattle.std.proofs.lemmas.Bool.{cases_lt}
use Rattle.std.proofs.lemmas.Bool.Decides.{nat_tests}
use Rattle.std.proofs.Math.Nat.{div-eq_of_lt, mod-eq_of_lt}
use Rattle.std.proofs.lemmas.List.{append-nil, get_or_append_left, get_or-set_other, get_or-set_same, length-set}
use mathlib.Core.List.{IsPrefix}
use prog.Atomic.{either}
use Rattle.logbook.specs.Pages.{Away, Cell, Goes, Moves, Nib, adds, cell, gives, keeps, may_make, may_write, nib, step}
use Rattle.kfifo_renewing.specs.declared.change.Change.{Change}
use Rattle.kfifo_renewing.specs.declared.change.Change.TheVariants as C
use Rattle.kfifo_renewing.specs.declared.change.Made.{Made}
use Rattle.kfifo_renewing.specs.History.{GivesNumber, Holds, IsKept, IsPlaced}
use Rattle.kfifo_renewing.specs.History.{Renews, TellsNext, WasNewest, key_of, made, opens_more}
use Rattle.kfifo_renewing.specs.History.{newest_of, next_in, place_count}
use Rattle.kfifo_renewing.proofs.Histories.{contains-later, get-last, made-append, newest-append, one-stays, opens-more}
use Rattle.kfifo_renewing.proofs.Histories.{risen-more, risen-was, was-later, was-less}
use Rattle.kfifo_renewing.proofs.Histories.{was-more, was-now}
use Rattle.kfifo_renewing.proofs.Keeping.{goes-by, gone-same, kept-of, labelled-same, left-stays, load-same, moved}
use Rattle.kfifo_renewing.proofs.Keeping.{together-same}
use Rattle.kfifo_renewing.proofs.Keeping.{there-same}
use Rattle.kfifo_renewing.proofs.Keeping.{made-same, next-at, next-within, set-next, shown, tells-same}
use Rattle.kfifo_renewing.proofs.Keeping.{within, words-of}

-- the pen of a word that is not at home
away-next : (g : ℕ) (labels nexts : List Cell) (n : ℕ) → length labels ≡ place_count
    → Away (nib may_write (key_of n) 0) (words-of g labels nexts)
    → (n < length nexts) × ((cell nexts n).1 ≡ false)
away-next g labels nexts n all away =
    let a = away refl in
    let long = length-append labels nexts in
    (let below = a.0 in omega (arith, below, long, all), sym (ap (λ c. c.1) (next-at g labels nexts n all)) ∙ a.1)

-- a word more, of a generation that was never the newest
holds-made : (g : ℕ) (labels nexts : List Cell) (log : List Change) (t : Made) → g + 1 < 2 ^ 32
    → Holds log g labels nexts
    → Holds (log ++ C.Made t true ∷ []) (g + 1) labels (nexts ++ (0, false) ∷ [])
holds-made g labels nexts log t room h =
    let e = C.Made t true in
    let same : newest_of (log ++ e ∷ []) ≡ newest_of log = newest-append 0 log (e ∷ []) in
    let first : (n : ℕ) → n < length nexts → cell (nexts ++ (0, false) ∷ []) n ≡ cell nexts n =
    λ n inside. get_or_append_left nexts ((0, false) ∷ []) (0, false) n inside in
    record {
      count = ap length (made-append log (e ∷ [])) ∙ length-append (made log) (t ∷ []) ∙ ap (λ n. n + 1) h.count;
      each = length-append nexts ((0, false) ∷ []) ∙ ap (λ n. n + 1) h.each;
      newest = let newest = h.newest in omega (arith, same, newest);
      risen = risen-more log e (omega (arith, same)) h.risen;
      small = room;
      told = λ n was.
          let before = was-less log e n same was in
          let t = h.told n before in
          subst (λ c. (c.1 ≡ true) × TellsNext (log ++ e ∷ []) n c.0)
          (sym (first n (within g labels nexts log n h before)))
          (t.0, tells-same log e n (cell nexts n).0 same refl t.1);
      placed = λ n some was below.
          let p = h.placed n some (was-less log e n same was) (subst (λ k. n < k) same below) in
          (p.0, p.1, contains-later log (log ++ e ∷ []) (C.Placed n p.0) (e ∷ [], refl) p.2);
      newest_there = λ n i is. was-later log (log ++ e ∷ []) n (e ∷ [], refl)
          (there-same g labels nexts log e (λ m j at. absurd cc) h n i is);
      labelled = labelled-same g labels nexts log e (λ n i is. absurd cc) h;
      gone = λ s is. subst (λ k. s.number < k) (sym same) (gone-same g labels nexts log e (λ t is. absurd cc) h s is);
      stayed = λ n up. left-stays n log e refl ∙ h.stayed n (subst (λ k. k ≤ n) same up);
      together = λ n. together-same log e n refl h.together;
      one = one-stays g log e h.count same h.one;
    }

numbers-goes : (v log : List Change) (p : Nib) (t : Made) (old g : ℕ) (labels nexts : List Cell)
    → length labels ≡ place_count
    → Holds log g labels nexts → old + 1 < 2 ^ 32 → (b : Bool) → (g == old) ≡ b
    → Goes IsKept shown moved 0 (v, (p, None)) (λ n. either (n == old) (old + 1) n)
    (GivesNumber (step 0 old (old + 1) (C.Made t true)) (v, (p, None))) (words-of g labels nexts) log
numbers-goes v log p t old g labels nexts all h room true found =
    let here : g ≡ old = grind (arith, nat_tests) in
    let e = C.Made t true in
    let made-is : made (log ++ e ∷ []) ≡ made log ++ t ∷ [] = made-append log (e ∷ []) in
    let at : old + 1 ≡ length (made log) = let count = h.count in omega (arith, here, count) in
    let long = length-append labels nexts in
    let key : suc (length (labels ++ nexts)) ≡ key_of (old + 1) = let each = h.each in
    omega (arith, each, here, long, all) in
    let behind : words-of (g + 1) labels nexts ++ (0, false) ∷ [] ≡ words-of (g + 1) labels (nexts ++ (0, false) ∷ []) =
    ap (λ l. (g + 1, true) ∷ l) (append_assoc labels nexts ((0, false) ∷ [])) in
    goes-by 0 v p (λ n. either (n == old) (old + 1) n) (GivesNumber (step 0 old (old + 1) e) (v, (p, None)))
    (words-of g labels nexts)
    (words-of (g + 1) labels nexts) log (e ∷ []) (g, true) adds refl
    (rw found (ap (λ n. words-of n labels nexts) (let up : old + 1 ≡ g + 1 = omega (arith, here) in up))) tt
    (subst (λ l. IsKept l (log ++ e ∷ [])) (sym behind)
    (kept-of (g + 1) labels (nexts ++ (0, false) ∷ []) (log ++ e ∷ []) all
    (holds-made g labels nexts log t (omega (arith, room, here)) h)))
    (λ is. (
      ap (λ k. nib may_make k 0) key,
      λ q m asked. subst (λ l. slice_get l (old + 1) ≡ Some q) (sym made-is)
          (subst (λ n. slice_get (made log ++ t ∷ []) n ≡ Some q) (sym at)
          (get-last (made log) t ∙ ap Some (made-same t q true m asked))),
    ))
numbers-goes v log p t old g labels nexts all h room false found =
    let none : log ++ [] ≡ log = append-nil log in
    let other : g ≡ old → ⊥ = λ is. grind (arith, nat_tests) in
    goes-by 0 v p (λ n. either (n == old) (old + 1) n) (GivesNumber (step 0 old (old + 1) (C.Made t true)) (
      v,
      (p, None),
    ))
    (words-of g labels nexts) (words-of g labels nexts) log [] (g, true) keeps refl (rw found refl) tt
    (subst (IsKept (words-of g labels nexts)) (sym none) (kept-of g labels nexts log all h)) (λ is. absurd (other is))

-- a generation is made, with the next number, or nothing happens
pub numbers-moves : (v : List Change) (p : Nib) (t : Made) (old : ℕ) → old + 1 < 2 ^ 32
    → Moves IsKept shown moved 0 (v, (p, None)) (λ n. either (n == old) (old + 1) n)
    (GivesNumber (step 0 old (old + 1) (C.Made t true)) (v, (p, None)))
numbers-moves v p t old room cs log kept pre away =
    let P : List Cell → Type 0 = λ c. (0 < length c) × ((cell c 0).1 ≡ true)
    × Goes IsKept shown moved 0 (v, (p, None)) (λ n. either (n == old) (old + 1) n)
    (GivesNumber (step 0 old (old + 1) (C.Made t true)) (v, (p, None))) c log in
    subst P (sym kept.words) (
      omega arith,
      refl,
      numbers-goes v log p t old kept.greatest kept.labels kept.nexts kept.all kept.holds room (kept.greatest == old)
          refl,
    )

-- the words once generation m has become the newest after n
abbrev renewed : List Cell → ℕ → ℕ → List Cell
renewed nexts n m = slice_set (slice_set nexts n (m, true)) m (0, true)

tells-before : (g : ℕ) (labels nexts : List Cell) (log : List Change) (n m x : ℕ) → Holds log g labels nexts
    → newest_of log ≡ n → n < m
    → WasNewest (log ++ C.Newest m ∷ []) m → m < 2 ^ 32 → x < length nexts → WasNewest log x → (b : Bool) → (x == n) ≡ b
    → ((cell (slice_set nexts n (m, true)) x).1 ≡ true)
    × TellsNext (log ++ C.Newest m ∷ []) x (cell (slice_set nexts n (m, true)) x).0
tells-before g labels nexts log n m x h is above later small inside was true e =
    let same : x ≡ n = grind (arith, nat_tests) in
    let at : cell (slice_set nexts n (m, true)) n ≡ (m, true) =
    get_or-set_same nexts n (m, true) (0, false) (omega (arith, same, inside)) in
    subst (λ k. ((cell (slice_set nexts n (m, true)) k).1 ≡ true)
    × TellsNext (log ++ C.Newest m ∷ []) k (cell (slice_set nexts n (m, true)) k).0) (sym same)
    (subst (λ c. (c.1 ≡ true) × TellsNext (log ++ C.Newest m ∷ []) n c.0) (sym at) (
      refl,
      record {
        newest = λ none. let at = mod-eq_of_lt small in absurd (omega (arith, none, above, at));
        next = λ some.
            let at = mod-eq_of_lt small in
            (omega (arith, at, above), subst (WasNewest (log ++ C.Newest m ∷ [])) (sym at) later);
        left = div-eq_of_lt small ∙ ap length (sym (left-stays n log (C.Newest m) refl
            ∙ h.stayed n (omega (arith, is))));
      },
    ))
tells-before g labels nexts log n m x h is above later small inside was false e =
    let apart : x ≢ n = λ same. grind (arith, nat_tests) in
    let at : cell (slice_set nexts n (m, true)) x ≡ cell nexts x =
    get_or-set_other nexts n x (m, true) (0, false) apart in
    let t = h.told x was in
    subst (λ c. (c.1 ≡ true) × TellsNext (log ++ C.Newest m ∷ []) x c.0) (sym at) (
      t.0,
      record {
        newest = λ none. absurd (apart (sym (t.1.newest none) ∙ is));
        next = λ some. (
          (t.1.next some).0,
          was-later log (log ++ C.Newest m ∷ []) (next_in (cell nexts x).0) (C.Newest m ∷ [], refl) (t.1.next some).1,
        );
        left = t.1.left ∙ ap length (sym (left-stays x log (C.Newest m) refl));
      },
    )

tells-renewed : (g : ℕ) (labels nexts : List Cell) (log : List Change) (n m x : ℕ) → Holds log g labels nexts
    → newest_of log ≡ n → n < m
    → m < length nexts → newest_of (log ++ C.Newest m ∷ []) ≡ m → WasNewest (log ++ C.Newest m ∷ []) x
    → ((cell (renewed nexts n m) x).1 ≡ true) × TellsNext (log ++ C.Newest m ∷ []) x (cell (renewed nexts n m) x).0
tells-renewed g labels nexts log n m x h is above made-it now was =
    let P : Cell → Type 0 = λ c. (c.1 ≡ true) × TellsNext (log ++ C.Newest m ∷ []) x c.0 in
    let each = h.each in
    let small = h.small in
    let later : WasNewest (log ++ C.Newest m ∷ []) m =
    subst (WasNewest (log ++ C.Newest m ∷ [])) now (was-now (log ++ C.Newest m ∷ [])) in
    let long : length (slice_set nexts n (m, true)) ≡ length nexts = length-set nexts n (m, true) in
    ⊎_elim
    (λ before.
    let below = risen-was log x h.risen before in
    let apart : x ≢ m = λ same. omega (arith, same, below, is, above) in
    let first : cell (renewed nexts n m) x ≡ cell (slice_set nexts n (m, true)) x =
    get_or-set_other (slice_set nexts n (m, true)) m x (0, true) (0, false) apart in
    subst P (sym first) (tells-before g labels nexts log n m x h is above later (omega (arith, made-it, each, small))
    (within g labels nexts log x h before) before (x == n) refl))
    (λ last.
    let at : x ≡ m = last ∙ now in
    let here : cell (renewed nexts n m) m ≡ (0, true) =
    get_or-set_same (slice_set nexts n (m, true)) m (0, true) (0, false) (omega (arith, long, made-it)) in
    subst (λ k. ((cell (renewed nexts n m) k).1 ≡ true) × TellsNext (log ++ C.Newest m ∷ []) k
    (cell (renewed nexts n m) k).0) (sym at)
    (subst (λ c. (c.1 ≡ true) × TellsNext (log ++ C.Newest m ∷ []) m c.0) (sym here) (
      refl,
      record {
        newest = λ none. now;
        next = λ some. absurd (omega (arith, some));
        left = ap length (sym (left-stays m log (C.Newest m) refl ∙ h.stayed m (omega (arith, is, above))));
      },
    )))
    (was-more log (C.Newest m) x was)

-- each generation that was the newest before n is in a place, and so is n
placed-before : (g : ℕ) (labels nexts : List Cell) (log : List Change) (n m i x : ℕ) → Holds log g labels nexts
    → newest_of log ≡ n → i < place_count → IsPlaced log n i → 0 < x → WasNewest log x → (x < n) ⊎ (n ≤ x)
    → (j : ℕ) × (j < place_count) × IsPlaced (log ++ C.Newest m ∷ []) x j
placed-before g labels nexts log n m i x h is inside there some was (inl below) =
    let p = h.placed x some was (omega (arith, below, is)) in
    (p.0, p.1, contains-later log (log ++ C.Newest m ∷ []) (C.Placed x p.0) (C.Newest m ∷ [], refl) p.2)
placed-before g labels nexts log n m i x h is inside there some was (inr above) =
    let up = risen-was log x h.risen was in
    let same : n ≡ x = omega (arith, above, up, is) in
    subst (λ k. (j : ℕ) × (j < place_count) × IsPlaced (log ++ C.Newest m ∷ []) k j) same
    (i, inside, contains-later log (log ++ C.Newest m ∷ []) (C.Placed n i) (C.Newest m ∷ [], refl) there)

-- the rule once generation m has become the newest after n, which is in a place
renewed-holds : (g : ℕ) (labels nexts : List Cell) (log : List Change) (n m i : ℕ) → Holds log g labels nexts
    → newest_of log ≡ n → n < m
    → m < length nexts → i < place_count → IsPlaced log n i → opens_more log ≡ true
    → Holds (log ++ C.Newest m ∷ []) g labels (renewed nexts n m)
renewed-holds g labels nexts log n m i h is above made-it inside there opens =
    let e = C.Newest m in
    let more : IsPrefix log (log ++ e ∷ []) = (e ∷ [], refl) in
    let now : newest_of (log ++ e ∷ []) ≡ m = newest-append 0 log (e ∷ []) in
    let each = h.each in
    record {
      count = ap length (made-append log (e ∷ []) ∙ append-nil (made log)) ∙ h.count;
      each = length-set (slice_set nexts n (m, true)) m (0, true) ∙ length-set nexts n (m, true) ∙ each;
      newest = omega (arith, now, made-it, each);
      risen = risen-more log e (omega (arith, now, is, above)) h.risen;
      small = h.small;
      told = λ x was. tells-renewed g labels nexts log n m x h is above made-it now was;
      placed = λ x some was below.
          let before : WasNewest log x = ⊎_elim (λ b. b) (λ last. absurd (omega (arith, below, last)))
          (was-more log e x was) in
          placed-before g labels nexts log n m i x h is inside there some before (cases_lt x n);
      newest_there = λ x j is. was-later log (log ++ e ∷ []) x more
          (there-same g labels nexts log e (λ y k at. absurd cc) h x j is);
      labelled = labelled-same g labels nexts log e (λ x j is. absurd cc) h;
      gone = λ s gone.
          let below = gone-same g labels nexts log e (λ t is. absurd cc) h s gone in
          omega (arith, below, is, above, now);
      stayed = λ x up. left-stays x log e refl ∙ h.stayed x (omega (arith, up, now, is, above));
      together = λ x. together-same log e x refl h.together;
      one = λ none. absurd (false≢true (sym none ∙ opens-more log (log ++ e ∷ []) more opens));
    }

renews-goes : (v log : List Change) (n m i g : ℕ) (a : Change) (labels nexts : List Cell) → length labels ≡ place_count
    → WasNewest log n → n < m
    → i < place_count → IsPlaced log n i → m < length nexts → opens_more log ≡ true → Holds log g labels nexts
    → (b : Bool)
    → ((cell nexts n).0 == 0) ≡ b
    → Goes IsKept shown moved (key_of n) (v, (nib may_write (key_of m) 0, None)) (λ k. either (k == 0) m k)
    (Renews (step (key_of n) 0 m a) (v, (nib may_write (key_of m) 0, None))) (words-of g labels nexts) log
renews-goes v log n m i g a labels nexts all was above inside there made-it opens h true found =
    let p = nib may_write (key_of m) 0 in
    let told = h.told n was in
    let none : (cell nexts n).0 ≡ 0 = grind (arith, nat_tests) in
    let newest : newest_of log ≡ n = told.1.newest (ap next_in none) in
    let e = C.Newest m in
    let now : newest_of (log ++ e ∷ []) ≡ m = newest-append 0 log (e ∷ []) in
    goes-by (key_of n) v p (λ k. either (k == 0) m k) (Renews (step (key_of n) 0 m a) (v, (p, None)))
    (words-of g labels nexts)
    (words-of g labels (slice_set nexts n (m, true))) log (e ∷ []) (cell nexts n) gives (next-at g labels nexts n all)
    (rw found (set-next g labels nexts n (m, true) all)) refl
    (subst (λ l. IsKept l (log ++ e ∷ [])) (sym (set-next g labels (slice_set nexts n (m, true)) m (0, true) all))
    (kept-of g labels (renewed nexts n m) (log ++ e ∷ []) all
    (renewed-holds g labels nexts log n m i h newest above made-it inside there opens))) (
      λ same. subst (WasNewest (log ++ e ∷ [])) now (was-now (log ++ e ∷ [])),
      λ other.
          absurd (other (grind (arith, nat_tests))),
    )
renews-goes v log n m i g a labels nexts all was above inside there made-it opens h false found =
    let p = nib may_write (key_of m) 0 in
    let none : log ++ [] ≡ log = append-nil log in
    let other : (cell nexts n).0 ≡ 0 → ⊥ = λ same. grind (arith, nat_tests) in
    let told = h.told n was in
    goes-by (key_of n) v p (λ k. either (k == 0) m k) (Renews (step (key_of n) 0 m a) (v, (p, None)))
    (words-of g labels nexts)
    (words-of g labels nexts) log [] (cell nexts n) keeps (next-at g labels nexts n all)
    (rw found (set-next g labels nexts n ((cell nexts n).0, true) all ∙ ap (words-of g labels)
    (load-same nexts n told.0))) tt
    (subst (IsKept (words-of g labels nexts)) (sym none) (kept-of g labels nexts log all h))
    (λ same. absurd (other same), λ apart. refl)

-- a generation becomes the newest after n, which is in a place, or nothing happens
pub renews-moves : (v : List Change) (n m i : ℕ) (a : Change) → WasNewest v n → n < m → i < place_count → IsPlaced v n i
    → opens_more v ≡ true
    → Moves IsKept shown moved (key_of n) (v, (nib may_write (key_of m) 0, None)) (λ k. either (k == 0) m k)
    (Renews (step (key_of n) 0 m a) (v, (nib may_write (key_of m) 0, None)))
renews-moves v n m i a was above inside there opens cs log kept pre away =
    let g = kept.greatest in
    let p = nib may_write (key_of m) 0 in
    let P : List Cell → Type 0 = λ c. (key_of n < length c) × ((cell c (key_of n)).1 ≡ true)
    × Goes IsKept shown moved (key_of n) (v, (p, None)) (λ k. either (k == 0) m k)
    (Renews (step (key_of n) 0 m a) (v, (p, None))) c log in
    let then : WasNewest log n = was-later v log n pre was in
    let out = away-next g kept.labels kept.nexts m kept.all (subst (Away p) kept.words away) in
    subst P (sym kept.words) (
      next-within g kept.labels kept.nexts n kept.all (within g kept.labels kept.nexts log n kept.holds then),
      ap (λ c. c.1) (next-at g kept.labels kept.nexts n kept.all) ∙ (kept.holds.told n then).0,
      renews-goes v log n m i g a kept.labels kept.nexts kept.all then above inside
          (contains-later v log (C.Placed n i) pre there) out.0 (opens-more v log pre opens) kept.holds
          ((cell kept.nexts n).0 == 0) refl,
    )
