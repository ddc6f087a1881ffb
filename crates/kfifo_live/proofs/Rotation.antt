-- The items round the ring from any segment are those in the order of the table.
use Rattle.std.proofs.Common.{◌≡◌, ◌≢◌, ℕ, zero, suc, ◌+◌, ◌-◌, ◌*◌, ◌<◌, ◌≤◌, List, [], ◌∷◌, ◌++◌, get_or, refl, sym}
use Rattle.std.proofs.Common.{ap, ◌∙◌, inl, inr, arith}
use Rattle.std.proofs.lemmas.Bool.{cases_eq}
use Rattle.std.proofs.lemmas.Bool.Decides.{nat_tests}
use Rattle.kfifo_live.proofs.Types.{Shape}
use Rattle.kfifo_words.specs.Ring.{next_segment, slot_at}
use Rattle.kfifo_words.specs.Words.{head_of}
use Rattle.kfifo_live.specs.Left.{item_in, slots_left, segments_left, items_left}
use Rattle.kfifo_live.specs.Balance.{times}

-- the sum of so many terms from an index on
abbrev pub sum : (ℕ → ℕ) → ℕ → ℕ → ℕ
sum f i zero = 0
sum f i (suc m) = f i + sum f (suc i) m

pub sum-append : (f : ℕ → ℕ) (i a b : ℕ) → sum f i (a + b) ≡ sum f i a + sum f (i + a) b
sum-append f i zero b =
    let z : 0 + b ≡ b = omega arith in
    let y : i ≡ i + 0 = omega arith in
    ap (sum f i) z ∙ ap (λ x. sum f x b) y ∙ plain (sum f (i + 0) b)
  where
    plain : (x : ℕ) → x ≡ 0 + x
    plain x = omega arith
sum-append f i (suc a) b =
    let z : suc a + b ≡ suc (a + b) = omega arith in
    let y : suc i + a ≡ i + suc a = omega arith in
    ap (sum f i) z ∙ ap (λ x. f i + x) (sum-append f (suc i) a b) ∙ ap (λ x. f i + (sum f (suc i) a + sum f x b)) y
    ∙ plain (f i) (sum f (suc i) a) (sum f (i + suc a) b)
  where
    plain : (x y z : ℕ) → x + (y + z) ≡ x + y + z
    plain x y z = omega arith

pub sum-same : (f g : ℕ → ℕ) (i m : ℕ) → ((j : ℕ) → i ≤ j → j < i + m → g j ≡ f j) → sum g i m ≡ sum f i m
sum-same f g i zero same = refl
sum-same f g i (suc m) same =
    let here : g i ≡ f i = same i (omega arith) (omega arith) in
    let others : sum g (suc i) m ≡ sum f (suc i) m =
    sum-same f g (suc i) m (λ j low high. same j (omega arith) (omega arith)) in
    omega arith

-- one term changes
pub sum-change : (f g : ℕ → ℕ) (p i m : ℕ) → i ≤ p → p < i + m → ((j : ℕ) → j ≢ p → g j ≡ f j)
    → sum g i m + f p ≡ sum f i m + g p
sum-change f g p i zero low high same = absurd (omega arith)
sum-change f g p i (suc m) low high same =
    elim (cases_eq i p) [
      | inl here ↦
          let others : sum g (suc i) m ≡ sum f (suc i) m =
          sum-same f g (suc i) m (λ j l h. same j (λ e. absurd (omega arith))) in
          let a : g i ≡ g p = ap g here in
          let b : f i ≡ f p = ap f here in
          omega arith
      | inr apart ↦
          let others : sum g (suc i) m + f p ≡ sum f (suc i) m + g p =
          sum-change f g p (suc i) m (omega arith) (omega arith) same in
          let a : g i ≡ f i = same i apart in
          omega arith
    ]

pub times-append : (x : ℕ) (xs ys : List ℕ) → times x (xs ++ ys) ≡ times x xs + times x ys
times-append x [] ys = omega arith
times-append x (y ∷ xs) ys = let e = times-append x xs ys in omega arith

-- how often an item stands in the slot with an index
abbrev pub times_at : ℕ → List ℕ → ℕ → ℕ
times_at x words i = times x (item_in (get_or words i 0))

pub times-slots : (x : ℕ) (words : List ℕ) (i m : ℕ) → times x (slots_left words i m) ≡ sum (times_at x words) i m
times-slots x words i zero = refl
times-slots x words i (suc m) =
    times-append x (item_in (get_or words i 0)) (slots_left words (suc i) m)
    ∙ ap (λ y. times_at x words i + y) (times-slots x words (suc i) m)

-- and in a segment
abbrev pub times_in : ℕ → Shape → List ℕ → ℕ → ℕ
times_in x shape words s = times x (slots_left words (slot_at shape.k s 0) shape.k)

next-within : (n s : ℕ) → suc s < n → next_segment n s ≡ suc s
unfolding next_segment
next-within n s h = grind (arith, nat_tests)

next-last : (n s : ℕ) → suc s ≡ n → next_segment n s ≡ 0
unfolding next_segment
next-last n s h = grind (arith, nat_tests)

-- segments that do not reach the last
times-before : (x : ℕ) (shape : Shape) (words : List ℕ) (s m : ℕ) → s + m < shape.n
    → times x (segments_left shape words s m) ≡ sum (times_in x shape words) s m
times-before x shape words s zero h = refl
times-before x shape words s (suc m) h =
    let next : next_segment shape.n s ≡ suc s = next-within shape.n s (omega arith) in
    times-append x (slots_left words (slot_at shape.k s 0) shape.k)
    (segments_left shape words (next_segment shape.n s) m)
    ∙ ap (λ y. times_in x shape words s + times x (segments_left shape words y m)) next
    ∙ ap (λ y. times_in x shape words s + y) (times-before x shape words (suc s) m (omega arith))

-- segments up to the last, and then from the first
times-round : (x : ℕ) (shape : Shape) (words : List ℕ) (s a b : ℕ) → s + suc a ≡ shape.n
    → times x (segments_left shape words s (suc (a + b)))
    ≡ sum (times_in x shape words) s (suc a) + times x (segments_left shape words 0 b)
times-round x shape words s zero b h =
    let next : next_segment shape.n s ≡ 0 = next-last shape.n s (omega arith) in
    let z : 0 + b ≡ b = omega arith in
    let e : times x (segments_left shape words s (suc (0 + b)))
    ≡ times_in x shape words s + times x (segments_left shape words 0 b) =
    times-append x (slots_left words (slot_at shape.k s 0) shape.k)
    (segments_left shape words (next_segment shape.n s) (0 + b))
    ∙ ap (λ y. times_in x shape words s + times x (segments_left shape words y (0 + b))) next
    ∙ ap (λ y. times_in x shape words s + times x (segments_left shape words 0 y)) z in
    omega arith
times-round x shape words s (suc a) b h =
    let next : next_segment shape.n s ≡ suc s = next-within shape.n s (omega arith) in
    let z : suc a + b ≡ suc (a + b) = omega arith in
    let others = times-round x shape words (suc s) a b (omega arith) in
    times-append x (slots_left words (slot_at shape.k s 0) shape.k)
    (segments_left shape words (next_segment shape.n s) (suc a + b))
    ∙ ap (λ y. times_in x shape words s + times x (segments_left shape words y (suc a + b))) next
    ∙ ap (λ y. times_in x shape words s + times x (segments_left shape words (suc s) y)) z
    ∙ ap (λ y. times_in x shape words s + y) others
    ∙ plain (times_in x shape words s) (sum (times_in x shape words) (suc s) (suc a))
    (times x (segments_left shape words 0 b))
  where
    plain : (x y z : ℕ) → x + (y + z) ≡ x + y + z
    plain x y z = omega arith

-- all segments, in the order of the table
times-segments : (x : ℕ) (shape : Shape) (words : List ℕ) (m : ℕ)
    → sum (times_in x shape words) 0 m ≡ sum (times_at x words) 1 (m * shape.k)
times-segments x shape words zero = let z : 0 * shape.k ≡ 0 = omega arith in ap (sum (times_at x words) 1) (sym z)
times-segments x shape words (suc m) =
    let one : m + 1 ≡ suc m = omega arith in
    let size : suc m * shape.k ≡ m * shape.k + shape.k = omega arith in
    let first : slot_at shape.k m 0 ≡ 1 + m * shape.k = omega arith in
    let last : sum (times_in x shape words) 0 (m + 1) ≡ sum (times_in x shape words) 0 m + sum (times_in x shape words)
    (0 + m) 1 =
    sum-append (times_in x shape words) 0 m 1 in
    let at : 0 + m ≡ m = omega arith in
    let here : times_in x shape words m ≡ sum (times_at x words) (1 + m * shape.k) shape.k =
    times-slots x words (slot_at shape.k m 0) shape.k ∙ ap (λ i. sum (times_at x words) i shape.k) first in
    let there : sum (times_in x shape words) (0 + m) 1 ≡ times_in x shape words m + 0 =
    ap (λ s. sum (times_in x shape words) s 1) at in
    let before = times-segments x shape words m in
    let both : sum (times_at x words) 1 (m * shape.k + shape.k)
    ≡ sum (times_at x words) 1 (m * shape.k) + sum (times_at x words) (1 + m * shape.k) shape.k =
    sum-append (times_at x words) 1 (m * shape.k) shape.k in
    let left : sum (times_in x shape words) 0 (suc m) ≡ sum (times_in x shape words) 0 (m + 1) =
    ap (sum (times_in x shape words) 0) (sym one) in
    let right : sum (times_at x words) 1 (suc m * shape.k) ≡ sum (times_at x words) 1 (m * shape.k + shape.k) =
    ap (sum (times_at x words) 1) size in
    omega arith

-- the items that are left hold an item as often as the slots
pub times-left : (x : ℕ) (shape : Shape) (words : List ℕ) → head_of (get_or words 0 0) < shape.n
    → times x (items_left shape words) ≡ sum (times_at x words) 1 (shape.n * shape.k)
times-left x shape words h = from (head_of (get_or words 0 0)) h
  where
    from : (s : ℕ) → s < shape.n → times x (segments_left shape words s shape.n)
        ≡ sum (times_at x words) 1 (shape.n * shape.k)
    from s less =
        let a = shape.n - suc s in
        let size : shape.n ≡ suc (a + s) = omega arith in
        let after : s + suc a ≡ shape.n = omega arith in
        let round : times x (segments_left shape words s (suc (a + s)))
        ≡ sum (times_in x shape words) s (suc a) + times x (segments_left shape words 0 s) =
        times-round x shape words s a s after in
        let zero_on : 0 + s ≡ s = omega arith in
        let begin : times x (segments_left shape words 0 s) ≡ sum (times_in x shape words) 0 s =
        times-before x shape words 0 s (omega arith) in
        let split : sum (times_in x shape words) 0 (s + suc a)
        ≡ sum (times_in x shape words) 0 s + sum (times_in x shape words) (0 + s) (suc a) =
        sum-append (times_in x shape words) 0 s (suc a) in
        let mid : sum (times_in x shape words) (0 + s) (suc a) ≡ sum (times_in x shape words) s (suc a) =
        ap (λ i. sum (times_in x shape words) i (suc a)) zero_on in
        let whole : sum (times_in x shape words) 0 (s + suc a) ≡ sum (times_in x shape words) 0 shape.n =
        ap (sum (times_in x shape words) 0) after in
        let all = times-segments x shape words shape.n in
        let here : times x (segments_left shape words s shape.n) ≡ times x (segments_left shape words s (suc (a + s))) =
        ap (λ m. times x (segments_left shape words s m)) size in
        omega arith
