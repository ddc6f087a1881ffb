-- Steps of the history keep its rule.
use Rattle.std.proofs.Common.{◌≡◌, ◌≢◌, ◌+◌, ◌-◌, ◌/◌, ◌%◌, ◌<◌, ◌≤◌, ◌^◌, ◌==◌, ⊎_elim, ℕ, zero, suc, Bool, true}
use Rattle.std.proofs.Common.{false, List}
use Rattle.std.proofs.Common.{[], ◌∷◌, ◌++◌, length, MatchBool, None, Option, Some, replicate, slice_set, refl, sym, ap}
use Rattle.std.proofs.Common.{◌∙◌, subst, arith, inl, inr, length-append}
use Rattle.std.proofs.lemmas.Bool.Decides.{nat_tests}
use Rattle.std.proofs.lemmas.List.{append-nil, get_or_append_left, get_or-append-add, get_or-replicate}
use Rattle.std.proofs.lemmas.List.{get_or-set_other, get_or-set_same, length-replicate, length-set}
use Rattle.std.proofs.lemmas.List.{replicate-append-replicate, set-append_left, set-append_right, set-get_or}
use Rattle.std.proofs.lemmas.List.Elements.{Contains-push}
use Rattle.std.proofs.Math.Nat.{div-add-mod}
use Rattle.std.proofs.lemmas.Nat.{mod_below}
use Rattle.std.specs.List.{Contains}
use mathlib.Core.List.{IsPrefix}
use prog.Atomic.{either}
use Rattle.logbook.specs.Pages.{Act, Cell, Goes, Moves, Nib, Valid, View, cell, cells_after, keeps, nib_after, no_nib}
use Rattle.logbook.specs.Pages.{step}
use Rattle.kfifo_renewing.specs.declared.change.Change.{Change}
use Rattle.kfifo_renewing.specs.declared.change.Change.TheVariants as C
use Rattle.kfifo_renewing.specs.declared.change.Made.{Made}
use Rattle.kfifo_renewing.specs.declared.change.Sealed.{Sealed}
use Rattle.kfifo_renewing.specs.declared.change.Sight.{Sight}
use Rattle.kfifo_renewing.specs.History.{AreInOne, EachLeftTogether, HaveLeftTogether}
use Rattle.kfifo_renewing.specs.History.{Finds, FindsThere, HasRisen, Holds, IsGone, IsKept, IsPlaced}
use Rattle.kfifo_renewing.specs.History.{Looks, LooksThere, Fills, TellsNext, TellsPlace, WasNewest}
use Rattle.kfifo_renewing.specs.History.{key_of, left_of, made, newest_of, next_in, place_count, label_of}
use Rattle.kfifo_renewing.specs.History.{shows}
use Rattle.kfifo_renewing.proofs.Histories.{contains-later, contains-more, gone-later, left-append, made-append}
use Rattle.kfifo_renewing.proofs.Histories.{made-later}
use Rattle.kfifo_renewing.proofs.Histories.{newest-append, one-stays, risen-more, risen-none}
use Rattle.kfifo_renewing.proofs.Histories.{risen-was, was-later, was-less}
use Rattle.kfifo_renewing.proofs.Histories.{was-made}

abbrev pub shown : List Change → List Change
shown log = []

abbrev pub moved : List Change → List Change → ℕ → Type 0
moved xs ys n = Unit {0}

-- the words of a book
abbrev pub words-of : ℕ → List Cell → List Cell → List Cell
words-of g labels nexts = (g, true) ∷ (labels ++ nexts)

pub kept-of : (g : ℕ) (labels nexts : List Cell) (log : List Change) → length labels ≡ place_count
    → Holds log g labels nexts
    → IsKept (words-of g labels nexts) log
kept-of g labels nexts log all h = record {
  greatest = g;
  labels = labels;
  nexts = nexts;
  words = refl;
  all = all;
  holds = h;
}

-- the word of a place, and that of a generation, among all

pub label-at : (g : ℕ) (labels nexts : List Cell) (i : ℕ) → i < length labels
    → cell (words-of g labels nexts) (label_of i) ≡ cell labels i
label-at g labels nexts i inside = get_or_append_left labels nexts (0, false) i inside

pub next-at : (g : ℕ) (labels nexts : List Cell) (n : ℕ) → length labels ≡ place_count
    → cell (words-of g labels nexts) (key_of n) ≡ cell nexts n
next-at g labels nexts n all =
    subst (λ k. cell (labels ++ nexts) (k + n) ≡ cell nexts n) all (get_or-append-add labels nexts n (0, false))

pub set-label : (g : ℕ) (labels nexts : List Cell) (i : ℕ) (c : Cell) → i < length labels
    → slice_set (words-of g labels nexts) (label_of i) c ≡ words-of g (slice_set labels i c) nexts
set-label g labels nexts i c inside = ap (λ l. (g, true) ∷ l) (set-append_left labels nexts i c inside)

pub set-next : (g : ℕ) (labels nexts : List Cell) (n : ℕ) (c : Cell) → length labels ≡ place_count
    → slice_set (words-of g labels nexts) (key_of n) c ≡ words-of g labels (slice_set nexts n c)
set-next g labels nexts n c all =
    let less : place_count + n - place_count ≡ n = omega arith in
    ap (λ l. (g, true) ∷ l) (set-append_right labels nexts place_count (place_count + n) c all (omega arith)
    ∙ ap (λ k. labels ++ slice_set nexts k c) less)

pub label-within : (g : ℕ) (labels nexts : List Cell) (i : ℕ) → length labels ≡ place_count → i < place_count
    → label_of i < length (words-of g labels nexts)
label-within g labels nexts i all inside =
    let long = length-append labels nexts in
    omega (arith, all, inside, long)

pub next-within : (g : ℕ) (labels nexts : List Cell) (n : ℕ) → length labels ≡ place_count → n < length nexts
    → key_of n < length (words-of g labels nexts)
next-within g labels nexts n all inside =
    let long = length-append labels nexts in
    omega (arith, all, inside, long)

within-home : (l : List Cell) (k : ℕ) → (cell l k).1 ≡ true → k < length l
within-home [] k home = absurd cc
within-home (c ∷ l) zero home = omega arith
within-home (c ∷ l) (suc k) home = let below = within-home l k home in omega (arith, below)

-- a word that is written stays at home
pub home-set : (l : List Cell) (i x k : ℕ) → (cell l k).1 ≡ true → (b : Bool) → (k == i) ≡ b
    → (cell (slice_set l i (x, true)) k).1 ≡ true
home-set l i x k home true e =
    let same : k ≡ i = grind (arith, nat_tests) in
    let below = within-home l k home in
    subst (λ j. (cell (slice_set l i (x, true)) j).1 ≡ true) (sym same)
    (ap (λ c. c.1) (get_or-set_same l i (x, true) (0, false) (omega (arith, same, below))))
home-set l i x k home false e =
    let apart : k ≢ i = λ same. grind (arith, nat_tests) in
    ap (λ c. c.1) (get_or-set_other l i k (x, true) (0, false) apart) ∙ home

-- a load leaves the words as they are
pub load-same : (cells : List Cell) (k : ℕ) → (cell cells k).1 ≡ true → slice_set cells k ((cell cells k).0, true)
    ≡ cells
load-same cells k home = ap (λ b. slice_set cells k ((cell cells k).0, b)) (sym home) ∙ set-get_or cells k (0, false)

-- a step at a word that is this one, with what becomes of the words
pub goes-by : (k : ℕ) (v : List Change) (p : Nib) (f : ℕ → ℕ) (then : ℕ → View Change ℕ → Type 0) (cs after : List Cell)
    (log more : List Change)
    (c : Cell) (a : Act) → cell cs k ≡ c → slice_set cs k (f c.0, true) ≡ after → Valid a p
    → IsKept (cells_after a p after) (log ++ more)
    → then c.0 (log ++ more, (nib_after a p cs, None)) → Goes IsKept shown moved k (v, (p, None)) f then cs log
goes-by k v p f then cs after log more c a at set valid kept told = (
  a,
  more,
  None,
  valid,
  subst (λ l. IsKept (cells_after a p l) (log ++ more)) (sym (ap (λ w. slice_set cs k (f w.0, true)) at ∙ set)) kept,
  inl (refl, refl),
  subst (λ w. then w.0 (log ++ more, (nib_after a p cs, None))) (sym at) told,
)

first-only : (t : Made) (b : Bool) (e : Change) → Contains (C.Made t b ∷ []) e → (e ≡ C.Made t b → ⊥) → ⊥
first-only t b e has other = ⊎_elim (λ none. absurd (omega (arith, none.1))) other (contains-more [] (C.Made t b) e has)

-- an even number
abbrev pub IsEven : ℕ → Type 0
IsEven n = (half : ℕ) × (n ≡ half + half)

pub even-by : (n : ℕ) → n % 2 ≡ 0 → IsEven n
even-by n even = (n / 2, let whole = div-add-mod n 2 in omega (arith, whole, even))

-- no generation was shown in a place
first-place : (t : Made) (b : Bool) (i : ℕ) → TellsPlace (C.Made t b ∷ []) i 0
first-place t b i = record {
  there = λ n is. absurd (omega (arith, is));
  stays = λ n is. absurd (first-only t b (C.Placed n i) is (λ same. absurd cc));
  small = omega arith;
}

-- the rule of a queue with one generation
first-holds : (t : Made) (b : Bool) → Holds (C.Made t b ∷ []) 0 (replicate place_count (0, true)) ((0, true) ∷ [])
first-holds t b = record {
  count = refl;
  each = refl;
  newest = omega arith;
  risen = risen-more [] (C.Made t b) (omega arith) risen-none;
  small = omega arith;
  told = λ n was. subst
      (λ k. ((cell ((0, true) ∷ []) k).1 ≡ true) × TellsNext (C.Made t b ∷ []) k (cell ((0, true) ∷ []) k).0)
      (sym (was-made t b n was))
      (refl, record { newest = λ none. refl; next = λ some. absurd (omega (arith, some)); left = refl });
  placed = λ n some was below. let first = was-made t b n was in absurd (omega (arith, some, first));
  newest_there = λ n i is. absurd (first-only t b (C.Placed n i) is (λ same. absurd cc));
  labelled = λ i inside. subst (λ (c : Cell). (c.1 ≡ true) × TellsPlace (C.Made t b ∷ []) i c.0)
      (sym (get_or-replicate place_count i (0, true) (0, false) inside)) (refl, first-place t b i);
  gone = λ s is. absurd (first-only t b (C.Gone s) is (λ same. absurd cc));
  stayed = λ n up. refl;
  together = λ n some. absurd (some refl);
  one = λ none. refl;
}

pub kept_first : (t : Made) (b : Bool) → IsKept (replicate (place_count + 2) (0, true)) (C.Made t b ∷ [])
kept_first t b =
    let words : replicate (place_count + 2) (0, true) ≡ words-of 0 (replicate place_count (0, true)) ((0, true) ∷ []) =
    ap (λ k. replicate k (0, true)) (let e : place_count + 2 ≡ 1 + (place_count + 1) = refl in e)
    ∙ sym (replicate-append-replicate 1 (place_count + 1) (0, true))
    ∙ ap (λ l. (0, true) ∷ l) (sym (replicate-append-replicate place_count 1 (0, true))) in
    subst (λ l. IsKept l (C.Made t b ∷ [])) (sym words)
    (kept-of 0 (replicate place_count (0, true)) ((0, true) ∷ []) (C.Made t b ∷ [])
    (length-replicate {A = Cell} place_count (0, true)) (first-holds t b))

pub kept-risen : (cells : List Cell) (log : List Change) → IsKept cells log → HasRisen log
kept-risen cells log kept = kept.holds.risen

-- a generation that was the newest, but the first one and the newest, is in a place
pub kept-placed : (cells : List Cell) (log : List Change) (n : ℕ) → IsKept cells log → 0 < n → WasNewest log n
    → n < newest_of log → (i : ℕ) × (i < place_count) × IsPlaced log n i
kept-placed cells log n kept some was below = kept.holds.placed n some was below

pub kept-below : (cells : List Cell) (log : List Change) (n : ℕ) → IsKept cells log → IsGone log n → n < newest_of log
kept-below cells log n kept gone =
    subst (λ k. k < newest_of log) gone.number (kept.holds.gone gone.sealed gone.told)

pub was-newest : (g : ℕ) (labels nexts : List Cell) (log : List Change) (n : ℕ) → Holds log g labels nexts
    → WasNewest log n → n ≤ newest_of log
was-newest g labels nexts log n h was = risen-was log n h.risen was

pub within : (g : ℕ) (labels nexts : List Cell) (log : List Change) (n : ℕ) → Holds log g labels nexts → WasNewest log n
    → n < length nexts
within g labels nexts log n h was =
    let below = risen-was log n h.risen was in
    let newest = h.newest in
    let each = h.each in
    omega (arith, below, newest, each)

-- an entry more by which none leaves a generation
pub left-stays : (n : ℕ) (log : List Change) (e : Change) → left_of n (e ∷ []) ≡ []
    → left_of n (log ++ e ∷ []) ≡ left_of n log
left-stays n log e none =
    left-append n log (e ∷ []) ∙ ap (λ l. left_of n log ++ l) none ∙ append-nil (left_of n log)

-- nor has another joined those that have left one
pub together-same : (log : List Change) (e : Change) (n : ℕ) → left_of n (e ∷ []) ≡ [] → EachLeftTogether log
    → left_of n (log ++ e ∷ []) ≢ [] → HaveLeftTogether (log ++ e ∷ []) n
together-same log e n none each some =
    let same = left-stays n log e none in
    let (queue, here, one) = each n (λ empty. some (same ∙ empty)) in
    (queue, made-later log (log ++ e ∷ []) n queue (e ∷ [], refl) here, subst (AreInOne queue) (sym same) one)

-- what a word says stays so while an entry more leaves the newest generation as it is
pub tells-same : (log : List Change) (e : Change) (n w : ℕ) → newest_of (log ++ e ∷ []) ≡ newest_of log
    → left_of n (e ∷ []) ≡ [] → TellsNext log n w
    → TellsNext (log ++ e ∷ []) n w
tells-same log e n w same none t = record {
  newest = λ zero. same ∙ t.newest zero;
  next = λ some. (
    (t.next some).0,
    was-later log (log ++ e ∷ []) (next_in w) (e ∷ [], refl) (t.next some).1,
  );
  left = t.left ∙ ap length (sym (left-stays n log e none));
}

-- what the word of a place says stays so while an entry more shows none there
place-same : (log : List Change) (e : Change) (i w : ℕ) → ((n : ℕ) → e ≢ C.Placed n i) → TellsPlace log i w
    → TellsPlace (log ++ e ∷ []) i w
place-same log e i w other t =
    let more : IsPrefix log (log ++ e ∷ []) = (e ∷ [], refl) in
    record {
      there = λ n is. contains-later log (log ++ e ∷ []) (C.Placed n i) more (t.there n is);
      stays = λ n is. ⊎_elim
          (λ before. ⊎_elim inl (λ gone. inr (gone-later log (log ++ e ∷ []) n more gone)) (t.stays n before))
          (λ last. absurd (other n (sym last)))
          (contains-more log e (C.Placed n i) is);
      small = t.small;
    }

-- An entry more that makes no generation and leaves the newest one as it is. The words of generations that were the
-- newest stay, and the others do what is said of them
pub holds-entry : (g : ℕ) (labels nexts labels' nexts' : List Cell) (log : List Change) (e : Change)
    → made (e ∷ []) ≡ []
    → newest_of (log ++ e ∷ []) ≡ newest_of log → Holds log g labels nexts → length nexts' ≡ length nexts
    → ((n : ℕ) → WasNewest log n → cell nexts' n ≡ cell nexts n)
    → ((n i : ℕ) → IsPlaced (log ++ e ∷ []) n i → WasNewest log n)
    → ((i : ℕ) → i < place_count → ((cell labels' i).1 ≡ true) × TellsPlace (log ++ e ∷ []) i (cell labels' i).0)
    → ((s : Sealed) → Contains (log ++ e ∷ []) (C.Gone s) → s.number < newest_of log)
    → ((n : ℕ) → left_of n (e ∷ []) ≡ [])
    → Holds (log ++ e ∷ []) g labels' nexts'
holds-entry g labels nexts labels' nexts' log e none same h long words there labelled gone left = record {
  count = ap length (made-append log (e ∷ []) ∙ ap (λ l. made log ++ l) none ∙ append-nil (made log)) ∙ h.count;
  each = long ∙ h.each;
  newest = subst (λ n. n ≤ g) (sym same) h.newest;
  risen = risen-more log e (omega (arith, same)) h.risen;
  small = h.small;
  told = λ n was.
      let before = was-less log e n same was in
      let t = h.told n before in
      subst (λ c. (c.1 ≡ true) × TellsNext (log ++ e ∷ []) n c.0) (sym (words n before))
      (t.0, tells-same log e n (cell nexts n).0 same (left n) t.1);
  placed = λ n some was below.
      let p = h.placed n some (was-less log e n same was) (subst (λ k. n < k) same below) in
      (p.0, p.1, contains-later log (log ++ e ∷ []) (C.Placed n p.0) (e ∷ [], refl) p.2);
  newest_there = λ n i is. was-later log (log ++ e ∷ []) n (e ∷ [], refl) (there n i is);
  labelled = labelled;
  gone = λ s is. subst (λ k. s.number < k) (sym same) (gone s is);
  stayed = λ n up. left-stays n log e (left n) ∙ h.stayed n (subst (λ k. k ≤ n) same up);
  together = λ n. together-same log e n (left n) h.together;
  one = one-stays g log e h.count same h.one;
}

-- what was said of generations that have gone is still said, where the entry more is of none
pub gone-same : (g : ℕ) (labels nexts : List Cell) (log : List Change) (e : Change) → ((s : Sealed) → e ≢ C.Gone s)
    → Holds log g labels nexts
    → (s : Sealed) → Contains (log ++ e ∷ []) (C.Gone s) → s.number < newest_of log
gone-same g labels nexts log e other h s is =
    ⊎_elim (λ before. h.gone s before) (λ last. absurd (other s (sym last))) (contains-more log e (C.Gone s) is)

-- what is in a place was the newest, where the entry more shows none
pub there-same : (g : ℕ) (labels nexts : List Cell) (log : List Change) (e : Change)
    → ((n i : ℕ) → e ≢ C.Placed n i) → Holds log g labels nexts
    → (n i : ℕ) → IsPlaced (log ++ e ∷ []) n i → WasNewest log n
there-same g labels nexts log e other h n i is =
    ⊎_elim (λ before. h.newest_there n i before) (λ last. absurd (other n i (sym last)))
    (contains-more log e (C.Placed n i) is)

pub labelled-same : (g : ℕ) (labels nexts : List Cell) (log : List Change) (e : Change) → ((n i : ℕ) → e ≢ C.Placed n i)
    → Holds log g labels nexts
    → (i : ℕ) → i < place_count → ((cell labels i).1 ≡ true) × TellsPlace (log ++ e ∷ []) i (cell labels i).0
labelled-same g labels nexts log e other h i inside =
    ((h.labelled i inside).0, place-same log e i (cell labels i).0 (λ n. other n i) (h.labelled i inside).1)

pub sight-same : (n t : Sight) → C.Look n ≡ C.Look t → n ≡ t
sight-same n t e = cc

pub made-same : (t q : Made) (a b : Bool) → C.Made t a ≡ C.Made q b → t ≡ q
made-same t q a b e = cc

-- what a word says is what a look finds
found-next : (v log : List Change) (sight : Sight) (n w : ℕ) → IsPrefix v log → HasRisen log → TellsNext log n w
    → Finds sight n (next_in w) v (log ++ C.Look sight ∷ [])
found-next v log sight n w pre risen t =
    let e = C.Look sight in
    let same : newest_of (log ++ e ∷ []) ≡ newest_of log = newest-append 0 log (e ∷ []) in
    record {
      number = newest_of log;
      was = (pre.0, [], ap (λ l. l ++ e ∷ []) (sym pre.1), ap newest_of pre.1);
      same = λ none. t.newest none;
      other = λ some is.
          let above = (t.next some).0 in
          let below = risen-was log (next_in w) risen (t.next some).1 in
          omega (arith, above, below, is);
      next = λ some. was-later log (log ++ e ∷ []) (next_in w) (e ∷ [], refl) (t.next some).1;
      small = mod_below w (2 ^ 32) (omega arith);
      risen = risen-more log e (omega (arith, same)) risen;
    }

-- an entry for a look
look-holds : (g : ℕ) (labels nexts : List Cell) (log : List Change) (sight : Sight) → Holds log g labels nexts
    → Holds (log ++ C.Look sight ∷ []) g labels nexts
look-holds g labels nexts log sight h =
    let e = C.Look sight in
    holds-entry g labels nexts labels nexts log e refl (newest-append 0 log (e ∷ [])) h refl (λ n was. refl)
    (there-same g labels nexts log e (λ n i is. absurd cc) h)
    (labelled-same g labels nexts log e (λ n i is. absurd cc) h)
    (gone-same g labels nexts log e (λ n is. absurd cc) h) (λ n. refl)

looks-goes : (v log : List Change) (sight : Sight) (n g : ℕ) (labels nexts : List Cell) → length labels ≡ place_count
    → IsPrefix v log → WasNewest log n
    → Holds log g labels nexts → Goes IsKept shown moved (key_of n) (v, (no_nib, None)) (λ n. n)
    (Looks (step (key_of n) 0 0 (C.Look sight)) (v, (no_nib, None))) (words-of g labels nexts) log
looks-goes v log sight n g labels nexts all pre was h =
    let e = C.Look sight in
    let told = h.told n was in
    goes-by (key_of n) v no_nib (λ n. n) (Looks (step (key_of n) 0 0 e) (v, (no_nib, None))) (words-of g labels nexts)
    (words-of g labels nexts) log (e ∷ []) (cell nexts n) keeps (next-at g labels nexts n all)
    (set-next g labels nexts n ((cell nexts n).0, true) all ∙ ap (words-of g labels) (load-same nexts n told.0)) tt
    (kept-of g labels nexts (log ++ e ∷ []) all (look-holds g labels nexts log sight h))
    (λ t m asked at.
    let sight-is : sight ≡ t = sight-same sight t asked in
    let number-is : n ≡ m = omega (arith, at) in
    subst (λ k. Finds k m (next_in (cell nexts n).0) v (log ++ e ∷ [])) sight-is
    (subst (λ k. Finds sight k (next_in (cell nexts n).0) v (log ++ e ∷ [])) number-is
    (found-next v log sight n (cell nexts n).0 pre h.risen told.1)))

-- a look at the word of a generation that was the newest
pub looks-moves : (v : List Change) (sight : Sight) (n : ℕ) → WasNewest v n
    → Moves IsKept shown moved (key_of n) (v, (no_nib, None)) (λ n. n)
    (Looks (step (key_of n) 0 0 (C.Look sight)) (v, (no_nib, None)))
looks-moves v sight n was cs log kept pre away =
    let g = kept.greatest in
    let P : List Cell → Type 0 = λ c. (key_of n < length c) × ((cell c (key_of n)).1 ≡ true)
    × Goes IsKept shown moved (key_of n) (v, (no_nib, None)) (λ n. n)
    (Looks (step (key_of n) 0 0 (C.Look sight)) (v, (no_nib, None))) c log in
    let then : WasNewest log n = was-later v log n pre was in
    subst P (sym kept.words) (
      next-within g kept.labels kept.nexts n kept.all (within g kept.labels kept.nexts log n kept.holds then),
      ap (λ c. c.1) (next-at g kept.labels kept.nexts n kept.all) ∙ (kept.holds.told n then).0,
      looks-goes v log sight n g kept.labels kept.nexts kept.all pre then kept.holds,
    )

there-goes : (v log : List Change) (i g : ℕ) (e : Change) (labels nexts : List Cell) → length labels ≡ place_count
    → i < place_count → IsPrefix v log
    → Holds log g labels nexts → Goes IsKept shown moved (label_of i) (v, (no_nib, None)) (λ n. n)
    (LooksThere (step (label_of i) 0 0 e) (v, (no_nib, None))) (words-of g labels nexts) log
there-goes v log i g e labels nexts all inside pre h =
    let none : log ++ [] ≡ log = append-nil log in
    let told = h.labelled i inside in
    let below : i < length labels = omega (arith, inside, all) in
    goes-by (label_of i) v no_nib (λ n. n) (LooksThere (step (label_of i) 0 0 e) (v, (no_nib, None)))
    (words-of g labels nexts)
    (words-of g labels nexts) log [] (cell labels i) keeps (label-at g labels nexts i below)
    (set-label g labels nexts i ((cell labels i).0, true) below ∙ ap (λ l. words-of g l nexts)
    (load-same labels i told.0)) tt
    (subst (IsKept (words-of g labels nexts)) (sym none) (kept-of g labels nexts log all h))
    (λ place at.
    let same : i ≡ place = omega (arith, at) in (
      subst (λ k. TellsPlace (log ++ []) k (cell labels i).0) same
          (subst (λ l. TellsPlace l i (cell labels i).0) (sym none) told.1),
      subst (IsPrefix v) (sym none) pre,
      (words-of g labels nexts, subst (IsKept (words-of g labels nexts)) (sym none) (kept-of g labels nexts log all h)),
    ))

-- a look at the word of a place
pub there-moves : (v : List Change) (i : ℕ) (e : Change) → i < place_count
    → Moves IsKept shown moved (label_of i) (v, (no_nib, None)) (λ n. n)
    (LooksThere (step (label_of i) 0 0 e) (v, (no_nib, None)))
there-moves v i e inside cs log kept pre away =
    let g = kept.greatest in
    let P : List Cell → Type 0 = λ c. (label_of i < length c) × ((cell c (label_of i)).1 ≡ true)
    × Goes IsKept shown moved (label_of i) (v, (no_nib, None)) (λ n. n)
    (LooksThere (step (label_of i) 0 0 e) (v, (no_nib, None))) c log in
    subst P (sym kept.words) (
      label-within g kept.labels kept.nexts i kept.all inside,
      ap (λ c. c.1) (label-at g kept.labels kept.nexts i (let all = kept.all in omega (arith, inside, all)))
          ∙ (kept.holds.labelled i inside).0,
      there-goes v log i g e kept.labels kept.nexts kept.all inside pre kept.holds,
    )

-- what became of the word of a place that was written, and those of the others
pub label-written : (g : ℕ) (labels nexts : List Cell) (log : List Change) (e : Change) (i w : ℕ)
    → length labels ≡ place_count
    → ((n j : ℕ) → j ≢ i → e ≢ C.Placed n j) → Holds log g labels nexts → TellsPlace (log ++ e ∷ []) i w → (j : ℕ)
    → j < place_count
    → (b : Bool) → (j == i) ≡ b
    → ((cell (slice_set labels i (w, true)) j).1 ≡ true)
    × TellsPlace (log ++ e ∷ []) j (cell (slice_set labels i (w, true)) j).0
label-written g labels nexts log e i w all other h here j inside true is =
    let same : j ≡ i = grind (arith, nat_tests) in
    subst (λ k. ((cell (slice_set labels i (w, true)) k).1 ≡ true) × TellsPlace (log ++ e ∷ []) k
    (cell (slice_set labels i (w, true)) k).0)
    (sym same) (subst (λ c. (c.1 ≡ true) × TellsPlace (log ++ e ∷ []) i c.0)
    (sym (get_or-set_same labels i (w, true) (0, false) (omega (arith, same, inside, all)))) (refl, here))
label-written g labels nexts log e i w all other h here j inside false is =
    let apart : j ≢ i = λ same. grind (arith, nat_tests) in
    subst (λ c. (c.1 ≡ true) × TellsPlace (log ++ e ∷ []) j c.0)
    (sym (get_or-set_other labels i j (w, true) (0, false) apart))
    ((h.labelled j inside).0, place-same log e j (cell labels j).0 (λ n. other n j apart) (h.labelled j inside).1)

-- a step at the word of a place that changes nothing
pub place-stays : (v log : List Change) (p : Nib) (i old new g : ℕ) (labels nexts : List Cell)
    (then : ℕ → View Change ℕ → Type 0)
    → length labels ≡ place_count → i < place_count → Holds log g labels nexts → ((cell labels i).0 == old) ≡ false
    → then (cell labels i).0 (log ++ [], (p, None))
    → Goes IsKept shown moved (label_of i) (v, (p, None)) (λ k. either (k == old) new k) then
    (words-of g labels nexts) log
place-stays v log p i old new g labels nexts then all inside h found told =
    let none : log ++ [] ≡ log = append-nil log in
    let below : i < length labels = omega (arith, inside, all) in
    goes-by (label_of i) v p (λ k. either (k == old) new k) then (words-of g labels nexts) (words-of g labels nexts)
    log []
    (cell labels i) keeps (label-at g labels nexts i below)
    (rw found (set-label g labels nexts i ((cell labels i).0, true) below ∙ ap (λ l. words-of g l nexts)
    (load-same labels i (h.labelled i inside).0)))
    tt (subst (IsKept (words-of g labels nexts)) (sym none) (kept-of g labels nexts log all h)) told

placed-same : (n m i j : ℕ) → C.Placed n i ≡ C.Placed m j → (n ≡ m) × (i ≡ j)
placed-same n m i j e = (cc, cc)

pub gone-number : (s t : Sealed) → C.Gone s ≡ C.Gone t → s.number ≡ t.number
gone-number s t e = cc

shows-goes : (v log : List Change) (p : Nib) (n i none g : ℕ) (a : Change) (labels nexts : List Cell)
    → length labels ≡ place_count → i < place_count
    → n < 2 ^ 32 → IsEven none → WasNewest log n → Holds log g labels nexts → (b : Bool)
    → ((cell labels i).0 == none) ≡ b
    → Goes IsKept shown moved (label_of i) (v, (p, None)) (λ k. either (k == none) (shows n) k)
    (Fills (step (label_of i) none (shows n) a) (v, (p, None))) (words-of g labels nexts) log
shows-goes v log p n i none g a labels nexts all inside few (half, even) was h true found =
    let e = C.Placed n i in
    let empty : (cell labels i).0 ≡ none = grind (arith, nat_tests) in
    let below : i < length labels = omega (arith, inside, all) in
    let same : newest_of (log ++ e ∷ []) ≡ newest_of log = newest-append 0 log (e ∷ []) in
    let here : TellsPlace (log ++ e ∷ []) i (shows n) = record {
      there = λ m is.
          let number : n ≡ m = omega (arith, is) in
          subst (λ k. IsPlaced (log ++ e ∷ []) k i) number (Contains-push log e);
      stays = λ m is. ⊎_elim
          (λ before. ⊎_elim
          (λ at. absurd (omega (arith, at, empty, even)))
          (λ gone. inr (gone-later log (log ++ e ∷ []) m (e ∷ [], refl) gone))
          ((h.labelled i inside).1.stays m before))
          (λ last. inl (ap shows (sym (placed-same m n i i last).0)))
          (contains-more log e (C.Placed m i) is);
      small = omega (arith, few);
    } in
    goes-by (label_of i) v p (λ k. either (k == none) (shows n) k)
    (Fills (step (label_of i) none (shows n) a) (v, (p, None)))
    (words-of g labels nexts) (words-of g (slice_set labels i (shows n, true)) nexts) log (e ∷ []) (cell labels i) keeps
    (label-at g labels nexts i below) (rw found (set-label g labels nexts i (shows n, true) below)) tt
    (kept-of g (slice_set labels i (shows n, true)) nexts (log ++ e ∷ []) (length-set labels i (shows n, true) ∙ all)
    (holds-entry g labels nexts (slice_set labels i (shows n, true)) nexts log e refl same h refl (λ m was. refl)
    (λ m j is. ⊎_elim (h.newest_there m j)
    (λ last. subst (WasNewest log) (sym (placed-same m n j i last).0) was) (contains-more log e (C.Placed m j) is))
    (λ j in-it. label-written g labels nexts log e i (shows n) all
    (λ m k apart at. absurd (apart (sym (placed-same n m i k at).1))) h here j in-it (j == i) refl)
    (gone-same g labels nexts log e (λ t is. absurd cc) h) (λ m. refl)))
    (λ m j number at is.
    let number-is : n ≡ m = omega (arith, number) in
    let place-is : i ≡ j = omega (arith, at) in
    subst (λ k. IsPlaced (log ++ e ∷ []) m k) place-is
    (subst (λ k. IsPlaced (log ++ e ∷ []) k i) number-is (Contains-push log e)))
shows-goes v log p n i none g a labels nexts all inside few even was h false found =
    place-stays v log p i none (shows n) g labels nexts (Fills (step (label_of i) none (shows n) a) (v, (p, None))) all
    inside h found
    (λ m j number at is.
    absurd (let other : (cell labels i).0 ≡ none → ⊥ = λ same. grind (arith, nat_tests) in other is))

-- a generation is shown in a place where none is, or nothing happens
pub shows-moves : (v : List Change) (p : Nib) (n i none : ℕ) (a : Change) → i < place_count → n < 2 ^ 32 → IsEven none
    → WasNewest v n
    → Moves IsKept shown moved (label_of i) (v, (p, None)) (λ k. either (k == none) (shows n) k)
    (Fills (step (label_of i) none (shows n) a) (v, (p, None)))
shows-moves v p n i none a inside few even was cs log kept pre away =
    let g = kept.greatest in
    let P : List Cell → Type 0 = λ c. (label_of i < length c) × ((cell c (label_of i)).1 ≡ true)
    × Goes IsKept shown moved (label_of i) (v, (p, None)) (λ k. either (k == none) (shows n) k)
    (Fills (step (label_of i) none (shows n) a) (v, (p, None))) c log in
    subst P (sym kept.words) (
      label-within g kept.labels kept.nexts i kept.all inside,
      ap (λ c. c.1) (label-at g kept.labels kept.nexts i (let all = kept.all in omega (arith, inside, all)))
          ∙ (kept.holds.labelled i inside).0,
      shows-goes v log p n i none g a kept.labels kept.nexts kept.all inside few even (was-later v log n pre was)
          kept.holds ((cell kept.labels i).0 == none) refl,
    )

-- what the word of a place says is what a look finds
pub found-there : (place found : ℕ) (answer : Option ℕ) (old new : List Change) → TellsPlace new place found
    → IsPrefix old new
    → ((n : ℕ) → answer ≡ Some n → found ≡ shows n) → ((n : ℕ) → found ≡ shows n → answer ≡ Some n)
    → FindsThere place answer old new
found-there place found answer old new t more same back = record {
  there = λ n is. t.there n (same n is);
  left = λ n is other. ⊎_elim (λ here. absurd (other (back n here))) (λ gone. gone)
      (t.stays n (contains-later old new (C.Placed n place) more is));
}

-- whether a look at a place found the generation with this number
pub has-found : (i n found : ℕ) (old new : List Change) → FindsThere i (Some found) old new → (b : Bool)
    → (found == n) ≡ b
    → MatchBool b (IsPlaced new n i) (IsPlaced old n i → IsGone new n)
has-found i n found old new finds true is =
    let same : found ≡ n = grind (arith, nat_tests) in
    finds.there n (ap Some same)
has-found i n found old new finds false is =
    let other : found ≢ n = λ same. grind (arith, nat_tests) in
    λ there. finds.left n there (λ same. other cc)

pub has-none : (i n : ℕ) (old new : List Change) → FindsThere i None old new → IsPlaced old n i → IsGone new n
has-none i n old new finds there = finds.left n there (λ same. absurd cc)
