-- Pairs of a list in another order, and lists that have each number below their length.
use Rattle.std.proofs.Common.{◌≡◌, ◌≢◌, ℕ, zero, suc, ◌<◌, List, [], ◌∷◌, ◌++◌, length, set, get_or, Bool, true, false}
use Rattle.std.proofs.Common.{refl, sym, ap, ◌∙◌, subst, inl, inr, arith, cond}
use Rattle.std.specs.Prelude.{IsPermutation, ◌==◌, ◌||◌}
use Rattle.std.specs.List.{swap, list_any, AllByRecursion}
use Rattle.std.proofs.lemmas.Bool.{cases_eq}
use Rattle.std.proofs.lemmas.Bool.Decides.{nat_tests}
use Rattle.std.proofs.lemmas.Grind.{get_or-set_at}
use Rattle.std.proofs.lemmas.List.{get_or-set_other, length-set}
use Rattle.std.proofs.lemmas.List.Sorted.{IsPermutation-keeps}
use Rattle.std.proofs.SliceLists.{swap_is}
use Rattle.kfifo_model.specs.Lists.{EachPair}

-- where an element came from when two have changed places
abbrev turned : ℕ → ℕ → ℕ → ℕ
turned i j n = cond (n == j) i (cond (n == i) j n)

turned_j : (i j n : ℕ) → n ≡ j → turned i j n ≡ i
turned_j i j n is = grind (arith, nat_tests)

turned_i : (i j n : ℕ) → n ≢ j → n ≡ i → turned i j n ≡ j
turned_i i j n ne is = grind (arith, nat_tests)

turned_none : (i j n : ℕ) → n ≢ j → n ≢ i → turned i j n ≡ n
turned_none i j n ne other = grind (arith, nat_tests)

turned_below : (i j n size : ℕ) → i < size → j < size → n < size → turned i j n < size
turned_below i j n size p q r = grind (arith, nat_tests)

turned_apart : (i j a b : ℕ) → a ≢ b → turned i j a ≢ turned i j b
turned_apart i j a b apart same = grind (arith, nat_tests)

module _ {X : Type 0} (d : X) (R : X → X → Type 0) where
  -- R holds of the elements at any two places
  abbrev pub AnyPair : List X → Type 0
  AnyPair l = (i j : ℕ) → i < length l → j < length l → i ≢ j → R (get_or l i d) (get_or l j d)

  -- what stands at a place when two elements have changed places
  reads_swapped : (l : List X) (i j n : ℕ) → i < length l → j < length l
      → get_or (swap l i j) n d ≡ get_or l (turned i j n) d
  reads_swapped l i j n p q =
      let w : List X = set l i (get_or l j d) in
      let long = length-set l i (get_or l j d) in
      let is : get_or (swap l i j) n d ≡ get_or (set w j (get_or l i d)) n d =
      ap (λ (x : List X). get_or x n d) (sym (swap_is l i j d p q)) in
      elim (cases_eq n j) [
        | inl at_j ↦ is ∙ get_or-set_at w j n (get_or l i d) d at_j (omega arith)
            ∙ ap (λ m. get_or l m d) (sym (turned_j i j n at_j))
        | inr not_j ↦ elim (cases_eq n i) [
          | inl at_i ↦ is ∙ get_or-set_other w j n (get_or l i d) d not_j ∙ get_or-set_at l i n (get_or l j d) d at_i p
              ∙ ap (λ m. get_or l m d) (sym (turned_i i j n not_j at_i))
          | inr not_i ↦ is ∙ get_or-set_other w j n (get_or l i d) d not_j
              ∙ get_or-set_other l i n (get_or l j d) d not_i
              ∙ ap (λ m. get_or l m d) (sym (turned_none i j n not_j not_i))
        ]
      ]

  swapped_pairs : (l : List X) (i j : ℕ) → i < length l → j < length l → AnyPair l → length (swap l i j) ≡ length l
      → AnyPair (swap l i j)
  swapped_pairs l i j p q pairs long a b low high apart =
      let m_low : turned i j a < length l = turned_below i j a (length l) p q (omega arith) in
      let m_high : turned i j b < length l = turned_below i j b (length l) p q (omega arith) in
      subst (λ (z : X × X). R z.0 z.1) (λ k. (sym (reads_swapped l i j a p q) k, sym (reads_swapped l i j b p q) k))
      (pairs (turned i j a) (turned i j b) m_low m_high (turned_apart i j a b apart))

  -- so it does of the list in any order
  pub pairs_shuffled : (xs ys : List X) → IsPermutation xs ys → AnyPair xs → AnyPair ys
  pairs_shuffled xs ys shuffled pairs =
      (IsPermutation-keeps xs (λ l. (length l ≡ length xs) × AnyPair l) (refl, pairs) (λ l i j p q h.
      let long : length (swap l i j) ≡ length l =
      ap (λ (x : List X). length x) (sym (swap_is l i j d p q)) ∙ length-set (set l i (get_or l j d)) j (get_or l i d)
      ∙ length-set l i (get_or l j d) in
      (long ∙ h.0, swapped_pairs l i j p q h.1 long)) ys shuffled).1

pub later : (a b : Bool) → a ≡ false → (a || b) ≡ true → b ≡ true
later true b off is = absurd (cc)
later false b off is = is

-- a list that has each number below its length has no number twice, and no other
without : (t : ℕ) (ts : List ℕ) → list_any (λ x. x == t) ts ≡ true → (us : List ℕ) × (vs : List ℕ) × (ts ≡ us ++ t ∷ vs)
without t [] is = absurd (cc)
without t (x ∷ xs) is = elim (cases_eq x t) [
  | inl same ↦ ([], xs, ap (λ y. y ∷ xs) same)
  | inr ne ↦
      let rest : list_any (λ y. y == t) xs ≡ true = later (x == t) (list_any (λ y. y == t) xs) (not_it (x == t) refl ne)
      is in
      let w = without t xs rest in
      (x ∷ w.0, w.1, ap (λ ys. x ∷ ys) w.2)
]
  where
    not_it : (b : Bool) → (x == t) ≡ b → x ≢ t → b ≡ false
    not_it b is ne = grind (arith, nat_tests)

AllByRecursion-insert : {X : Type 0} (P : X → Type 0) (us vs : List X) (x : X) → AllByRecursion P (us ++ vs) → P x
    → AllByRecursion P (us ++ x ∷ vs)
AllByRecursion-insert P [] vs x all mine = (mine, all)
AllByRecursion-insert P (u ∷ us) vs x all mine = (all.0, AllByRecursion-insert P us vs x all.1 mine)

EachPair-insert : {X : Type 0} (R : X → X → Type 0) (us vs : List X) (x : X) → EachPair R (us ++ vs)
    → AllByRecursion (λ y. R y x × R x y) (us ++ vs) → EachPair R (us ++ x ∷ vs)
EachPair-insert R [] vs x pairs all = (after vs all, pairs)
  where
    after : (ys : List _) → AllByRecursion (λ y. R y x × R x y) ys → AllByRecursion (R x) ys
    after [] all = tt
    after (y ∷ ys) all = (all.0.1, after ys all.1)
EachPair-insert R (u ∷ us) vs x pairs all =
    (AllByRecursion-insert (R u) us vs x pairs.0 all.0.0, EachPair-insert R us vs x pairs.1 all.1)

any_without : (t x : ℕ) (us vs : List ℕ) → x ≢ t → list_any (λ y. y == t) (us ++ x ∷ vs) ≡ true
    → list_any (λ y. y == t) (us ++ vs) ≡ true
any_without t x [] vs ne is = later (x == t) (list_any (λ y. y == t) vs) (off (x == t) refl) is
  where
    off : (b : Bool) → (x == t) ≡ b → b ≡ false
    off b is = grind (arith, nat_tests)
any_without t x (u ∷ us) vs ne is = either_way (u == t) (λ rest. any_without t x us vs ne rest) is
  where
    either_way : (b : Bool) → (list_any (λ y. y == t) (us ++ x ∷ vs) ≡ true → list_any (λ y. y == t) (us ++ vs) ≡ true)
        → (b || list_any (λ y. y == t) (us ++ x ∷ vs)) ≡ true → (b || list_any (λ y. y == t) (us ++ vs)) ≡ true
    either_way true rest is = refl
    either_way false rest is = rest is

pub all_once : (n : ℕ) (ts : List ℕ) → length ts ≡ n → ((t : ℕ) → t < n → list_any (λ y. y == t) ts ≡ true)
    → AllByRecursion (λ t. t < n) ts
    × EachPair (λ a b. a ≢ b) ts
all_once zero [] size each = (tt, tt)
all_once zero (t ∷ ts) size each = absurd (omega arith)
all_once (suc n) ts size each =
    let w = without n ts (each n (omega arith)) in
    let us = w.0 in
    let vs = w.1 in
    let total : length (us ++ n ∷ vs) ≡ suc n = ap (λ (l : List ℕ). length l) (sym w.2) ∙ size in
    let longer : length (us ++ n ∷ vs) ≡ suc (length (us ++ vs)) = longer_by_one us vs n in
    let rest = all_once n (us ++ vs) (omega arith)
    (λ t less. any_without t n us vs (λ same. absurd (omega arith))
    (subst (λ (l : List ℕ). list_any (λ y. y == t) l ≡ true) w.2 (each t (omega arith)))) in
    subst (λ (l : List ℕ). AllByRecursion (λ t. t < suc n) l × EachPair (λ a b. a ≢ b) l) (sym w.2) (
      AllByRecursion-insert (λ t. t < suc n) us vs n (weaker n (us ++ vs) rest.0) (omega arith),
      EachPair-insert (λ a b. a ≢ b) us vs n rest.1 (apart n (us ++ vs) rest.0),
    )
  where
    longer_by_one : (us vs : List ℕ) (x : ℕ) → length (us ++ x ∷ vs) ≡ suc (length (us ++ vs))
    longer_by_one [] vs x = refl
    longer_by_one (u ∷ us) vs x = ap suc (longer_by_one us vs x)

    weaker : (n : ℕ) (ys : List ℕ) → AllByRecursion (λ t. t < n) ys → AllByRecursion (λ t. t < suc n) ys
    weaker n [] all = tt
    weaker n (y ∷ ys) all = ((let h = all.0 in omega arith), weaker n ys all.1)

    apart : (n : ℕ) (ys : List ℕ) → AllByRecursion (λ t. t < n) ys → AllByRecursion (λ y. (y ≢ n) × (n ≢ y)) ys
    apart n [] all = tt
    apart n (y ∷ ys) all = (
      ((λ same. absurd (let h = all.0 in omega arith)), (λ same. absurd (let h = all.0 in omega arith))),
      apart n ys all.1,
    )
