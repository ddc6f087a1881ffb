-- Rivals counted block by block: none, all, or those that ended in time.
use Rattle.std.proofs.Common.{◌≡◌, ℕ, zero, suc, ◌+◌, ◌-◌, ◌<◌, ◌≤◌, Bool, true, false, ◌&&◌, ltb, List, [], ◌∷◌, ◌++◌}
use Rattle.std.proofs.Common.{length, map, take, get_or, Option, IsPermutation, refl, sym, ap, ◌∙◌, arith, cond}
use Rattle.std.proofs.Common.{count_by, drop}
use Rattle.std.specs.List.{flat_map, slice_range}
use Rattle.std.specs.Ordering.{nat_cmp, ord_max}
use Rattle.std.specs.List.Sorted.{IsPartitionPoint}
use Rattle.std.proofs.lemmas.Bool.{lt-ltb}
use Rattle.std.proofs.lemmas.List.Sorted.{sum_by-IsPermutation}
use Rattle.std.proofs.lemmas.List.Sums.{sum_by-append, sum_by-cons, count_by-le-length}
use Rattle.std.proofs.lemmas.Grind.{flat_map-append}
use Rattle.std.proofs.lemmas.Bool.Decides.{nat_tests}
use Rattle.std.proofs.lemmas.List.{append-nil, take_more, length-append, take-append-drop}
use Rattle.kfifo_model.proofs.Types.{Rival}
use Rattle.kfifo_model.specs.Rivals.{is_beaten, ends_before}
use Rattle.kfifo_model.specs.Blocks.{IsSpan}

-- what stands between two places follows what stands before the first
pub range_next : {A : Type 0} (xs : List A) (from to : ℕ) → from ≤ to → to ≤ length xs
    → take from xs ++ slice_range xs from to ≡ take to xs
range_next xs zero to le within = ap (λ n. take n xs) (let e : to - 0 ≡ to = omega arith in e)
range_next [] (suc from) to le within = absurd (omega arith)
range_next (x ∷ xs) (suc from) zero le within = absurd (omega arith)
range_next (x ∷ xs) (suc from) (suc to) le within =
    ap (λ n. x ∷ (take from xs ++ take n (drop from xs))) (let e : suc to - suc from ≡ to - from = omega arith in e)
    ∙ ap (λ ys. x ∷ ys) (range_next xs from to (omega arith) (omega arith))

pub from_max : (a b : ℕ) → (a ≤ ord_max nat_cmp a b) × (b ≤ ord_max nat_cmp a b)
from_max a b = (grind (arith, nat_tests), grind (arith, nat_tests))

-- a span that is wide enough for one more rival
pub span_more : (rivals : List Rival) (r : Rival) (a b a' b' : ℕ) → IsSpan rivals a b → a' ≤ a → b ≤ b'
    → a' ≤ r.put_first
    → r.put_first ≤ b' → IsSpan (rivals ++ r ∷ []) a' b'
span_more [] r a b a' b' s lo hi from to zero d lt = (from, to)
span_more [] r a b a' b' s lo hi from to (suc k) d lt = absurd (omega arith)
span_more (x ∷ xs) r a b a' b' s lo hi from to zero d lt = let p = s 0 d (omega arith) in let p0 = p.0 in
    let p1 = p.1 in
    (omega arith, omega arith)
span_more (x ∷ xs) r a b a' b' s lo hi from to (suc k) d lt =
    span_more xs r a b a' b' (λ j e below. s (suc j) e (omega arith)) lo hi from to k d (omega arith)

pub count-cons : {A : Type 0} (p : A → Bool) (x : A) (xs : List A)
    → count_by p (x ∷ xs) ≡ cond (p x) 1 0 + count_by p xs
count-cons p x xs = sum_by-cons (λ y. cond (p y) 1 0) x xs

count-append : {A : Type 0} (p : A → Bool) (xs ys : List A) → count_by p (xs ++ ys) ≡ count_by p xs + count_by p ys
count-append p xs ys = sum_by-append (λ y. cond (p y) 1 0) xs ys

pub count-permuted : {A : Type 0} (p : A → Bool) (xs ys : List A) → IsPermutation xs ys → count_by p ys ≡ count_by p xs
count-permuted p xs ys same = sum_by-IsPermutation (λ y. cond (p y) 1 0) xs ys same

-- none of them was put after
pub none_beats : (rivals : List Rival) (a b last : ℕ) (got : Option ℕ) → IsSpan rivals a b → b ≤ last
    → count_by (λ r. is_beaten last got r) rivals ≡ 0
none_beats [] a b last got s le = refl
none_beats (x ∷ xs) a b last got s le =
    let t : is_beaten last got x ≡ false = ap (λ c. c && ends_before x.got_last got)
    (not_below last x.put_first (let p = (s 0 x (omega arith)).1 in omega arith)) in
    count-cons (λ r. is_beaten last got r) x xs
    ∙ (λ i. cond (t i) 1 0 + none_beats xs a b last got (λ k d lt. s (suc k) d (omega arith)) le i)
  where
    not_below : (n m : ℕ) → m ≤ n → ltb n m ≡ false
    not_below n m le = grind (arith, nat_tests)

-- all of them were put after, so the steps at which they ended decide
pub later_beats : (rivals : List Rival) (a b last : ℕ) (got : Option ℕ) → IsSpan rivals a b → last < a
    → count_by (λ r. is_beaten last got r) rivals ≡ count_by (λ n. ends_before n got) (map (λ r. r.got_last) rivals)
later_beats [] a b last got s lt = refl
later_beats (x ∷ xs) a b last got s lt =
    let t : is_beaten last got x ≡ ends_before x.got_last got =
    ap (λ c. c && ends_before x.got_last got)
    (lt-ltb last x.put_first (let p = (s 0 x (omega arith)).0 in omega arith)) in
    count-cons (λ r. is_beaten last got r) x xs
    ∙ (λ i. cond (t i) 1 0 + later_beats xs a b last got (λ k d below. s (suc k) d (omega arith)) lt i)
    ∙ sym (count-cons (λ n. ends_before n got) x.got_last (map (λ r. r.got_last) xs))

pub count_all : {A : Type 0} (xs : List A) → count_by (λ x. true) xs ≡ length xs
count_all [] = refl
count_all (x ∷ xs) =
    let c = count-cons (λ y. true) x xs in
    let n = count_all xs in
    omega arith

-- of numbers in order those below a step are the first ones
pub count_below : (ns : List ℕ) (i first : ℕ) → i ≤ length ns
    → IsPartitionPoint (λ n. ltb n first ≡ true) (λ n. ltb n first ≡ false) ns i
    → count_by (λ n. ltb n first) ns ≡ i
count_below [] i first le p = omega arith
count_below (x ∷ xs) zero first le p =
    count-cons (λ n. ltb n first) x xs
    ∙ (λ j. cond (p.1 0 0 (omega arith) (omega arith) j) 1 0
    + count_below xs 0 first (omega arith) (
      λ k d lo hi. absurd (omega arith),
      λ k d lo hi. p.1 (suc k) d (omega arith)
          (omega arith),
    )
    j)
count_below (x ∷ xs) (suc i) first le p =
    let c = count-cons (λ n. ltb n first) x xs
    ∙ ap (λ t. cond t 1 0 + count_by (λ n. ltb n first) xs) (p.0 0 0 (omega arith) (omega arith)) in
    let n = count_below xs i first (omega arith)
    (λ k d lo hi. p.0 (suc k) d (omega arith) (omega arith), λ k d lo hi. p.1 (suc k) d (omega arith) (omega arith)) in
    omega arith

-- one block more
pub next_block : (t : Rival → Bool) (blocks : List (List Rival)) (i : ℕ) (d : List Rival) → i < length blocks
    → count_by t (flat_map (λ x. x) (take (i + 1) blocks)) ≡ count_by t (flat_map (λ x. x) (take i blocks)) + count_by t
    (get_or blocks i d)
next_block t blocks i d lt =
    let b = get_or blocks i d in
    ap (λ xs. count_by t (flat_map (λ x. x) xs)) (take_more blocks i d lt)
    ∙ ap (count_by t) (flat_map-append (λ x. x) (take i blocks) (b ∷ [])
    ∙ ap (λ ys. flat_map (λ x. x) (take i blocks) ++ ys) (append-nil b))
    ∙ count-append t (flat_map (λ x. x) (take i blocks)) b

-- it has no more rivals than there are
pub few_in : (t : Rival → Bool) (blocks : List (List Rival)) (i : ℕ)
    → count_by t (flat_map (λ x. x) (take i blocks)) ≤ length (flat_map (λ x. x) blocks)
few_in t blocks i =
    let some = count_by-le-length t (flat_map (λ x. x) (take i blocks)) in
    let whole : flat_map (λ x. x) (take i blocks) ++ flat_map (λ x. x) (drop i blocks) ≡ flat_map (λ x. x) blocks =
    sym (flat_map-append (λ x. x) (take i blocks) (drop i blocks))
    ∙ ap (flat_map (λ x. x)) (take-append-drop i blocks) in
    let n = sym (length-append (flat_map (λ x. x) (take i blocks)) (flat_map (λ x. x) (drop i blocks)))
    ∙ ap length whole in
    omega (arith, some, n)
