-- The segments between head and tail stay filled while calls come one at a time.
use Rattle.std.proofs.Common.{◌≡◌, ◌≢◌, ◌⊎◌, ℕ, suc, ◌+◌, ◌*◌, ◌%◌, ◌<◌, ◌≤◌, refl, sym, ap, subst, inl, inr, arith}
use Rattle.std.proofs.Math.Nat.{mod-lt, mul-le-mul_right}
use Rattle.std.proofs.lemmas.Bool.{cases_lt}
use Rattle.kfifo_machine.proofs.Types.{Shape}
use Rattle.kfifo_words.specs.Words.{value_of}
use Rattle.kfifo_words.specs.Ring.{next_segment, distance}
use Rattle.kfifo_machine.specs.Program.{scan_index}
use Rattle.kfifo_machine.proofs.Versions.{next_segment-below}
use Rattle.kfifo_machine.proofs.Ahead.{distance-value, distance-below, distance-tail_on, distance-full}
use Rattle.kfifo_machine.proofs.Ahead.{distance-head_on}
use Rattle.kfifo_machine.proofs.Filled.{holds, filled_from, filled-same, filled-change, filled-cyclic}

-- the items of a segment, and of all slots
abbrev pub items_of : Shape → (ℕ → ℕ) → ℕ → ℕ
items_of shape w s = filled_from w (1 + s * shape.k) shape.k

abbrev pub all_items : Shape → (ℕ → ℕ) → ℕ
all_items shape w = filled_from w 1 (shape.n * shape.k)

-- each segment strictly between these ends has `probes` items at least
abbrev pub Between : Shape → (ℕ → ℕ) → ℕ → ℕ → Type 0
Between shape w h t = (s : ℕ) → s < shape.n → 0 < distance shape.n h s → distance shape.n h s < distance shape.n h t
    → shape.probes ≤ items_of shape w s

pub distance-injective : (n h s t : ℕ) → h < n → s < n → t < n → distance n h s ≡ distance n h t → s ≡ t
distance-injective n h s t h_in s_in t_in same =
    let a = distance-value n h s h_in s_in in
    let b = distance-value n h t h_in t_in in
    omega arith

-- the tail moves on, off a segment with so many items
pub between-tail_on : (shape : Shape) (w : ℕ → ℕ) (h t : ℕ) → h < shape.n → t < shape.n → next_segment shape.n t ≢ h
    → (0 < distance shape.n h t → shape.probes ≤ items_of shape w t)
    → Between shape w h t → Between shape w h (next_segment shape.n t)
between-tail_on shape w h t h_in t_in room full old s s_in above below =
    let k = distance-tail_on shape.n h t h_in t_in room in
    let more : distance shape.n h (next_segment shape.n t) ≡ distance shape.n h t + 1 = k.0 in
    elim (cases_lt (distance shape.n h s) (distance shape.n h t)) [
      | inl less ↦ old s s_in above less
      | inr ge ↦
          let same : s ≡ t = distance-injective shape.n h s t h_in s_in t_in (omega arith) in
          let there : 0 < distance shape.n h t = (let e : distance shape.n h s
          ≡ distance shape.n h t = ap (distance shape.n h) same in omega arith) in
          subst (λ x. shape.probes ≤ items_of shape w x) (sym same) (full there)
    ]

-- the head moves on
pub between-head_on : (shape : Shape) (w : ℕ → ℕ) (h t : ℕ) → h < shape.n → t < shape.n → t ≢ h → Between shape w h t
    → Between shape w (next_segment shape.n h) t
between-head_on shape w h t h_in t_in apart old s s_in above below =
    let on : next_segment shape.n h < shape.n = next_segment-below shape.n h h_in in
    let far : distance shape.n (next_segment shape.n h) h + 1 ≡ shape.n =
    distance-full shape.n (next_segment shape.n h) h on h_in refl in
    let t_far : distance shape.n (next_segment shape.n h) t + 1 ≡ distance shape.n h t =
    distance-head_on shape.n h t h_in t_in apart in
    let t_low : distance shape.n h t < shape.n = distance-below shape.n h t h_in t_in in
    let ne : s ≢ h = λ e. absurd (let d : distance shape.n (next_segment shape.n h) s
    ≡ distance shape.n (next_segment shape.n h) h = ap (distance shape.n (next_segment shape.n h)) e in omega arith) in
    let s_far : distance shape.n (next_segment shape.n h) s + 1 ≡ distance shape.n h s =
    distance-head_on shape.n h s h_in s_in ne in
    old s s_in (omega arith) (omega arith)

-- words that stay where slots are
pub items-same : (shape : Shape) (w v : ℕ → ℕ) (s : ℕ) → ((i : ℕ) → 0 < i → v i ≡ w i)
    → items_of shape v s ≡ items_of shape w s
items-same shape w v s same = filled-same w v (1 + s * shape.k) shape.k (λ j low high. same j (omega arith))

pub all-same : (shape : Shape) (w v : ℕ → ℕ) → ((i : ℕ) → 0 < i → v i ≡ w i) → all_items shape v ≡ all_items shape w
all-same shape w v same = filled-same w v 1 (shape.n * shape.k) (λ j low high. same j (omega arith))

pub between-same : (shape : Shape) (w v : ℕ → ℕ) (h t : ℕ)
    → ((s : ℕ) → s < shape.n → 0 < distance shape.n h s → items_of shape w s ≤ items_of shape v s) → Between shape w h t
    → Between shape v h t
between-same shape w v h t more old s s_in above below =
    let a : shape.probes ≤ items_of shape w s = old s s_in above below in
    let b : items_of shape w s ≤ items_of shape v s = more s s_in above in
    omega arith

-- an index of a segment's slot
pub record InSegment (shape : Shape) (s index : ℕ) : Type 0 where
  pub low : 1 + s * shape.k ≤ index
  pub high : index < 1 + s * shape.k + shape.k

pub scan-in : (shape : Shape) (s start offset : ℕ) → InSegment shape s (scan_index shape s start offset)
unfolding scan_index
scan-in shape s start offset = let m : (start + offset) % shape.k < shape.k = mod-lt (start + offset) shape.some_slot in
    record { low = omega arith; high = omega arith }

other_segment : (shape : Shape) (s r index : ℕ) → InSegment shape r index → s ≢ r → (index < 1 + s * shape.k)
    ⊎ (1 + s * shape.k + shape.k ≤ index)
other_segment shape s r index at ne =
    let low = at.low in
    let high = at.high in
    elim (cases_lt s r) [
      | inl less ↦ let m : suc s * shape.k ≤ r * shape.k = mul-le-mul_right shape.k less in inr (omega arith)
      | inr ge ↦ let m : suc r * shape.k ≤ s * shape.k = mul-le-mul_right shape.k (let l : r < s = omega arith in l) in
          inl (omega arith)
    ]

-- one slot changes
module _ (shape : Shape) (w v : ℕ → ℕ) (r index : ℕ) (r_in : r < shape.n) (at : InSegment shape r index)
    (same : (j : ℕ) → j ≢ index → v j ≡ w j) where
  pub all-change : all_items shape v + holds (w index) ≡ all_items shape w + holds (v index)
  all-change =
      let low = at.low in
      let high = at.high in
      let m : suc r * shape.k ≤ shape.n * shape.k = mul-le-mul_right shape.k r_in in
      filled-change w v index 1 (shape.n * shape.k) (omega arith) (omega arith) same

  pub items-change : items_of shape v r + holds (w index) ≡ items_of shape w r + holds (v index)
  items-change = filled-change w v index (1 + r * shape.k) shape.k at.low at.high same

  pub items-other : (s : ℕ) → s ≢ r → items_of shape v s ≡ items_of shape w s
  items-other s ne = filled-same w v (1 + s * shape.k) shape.k
      (λ j low high. same j (λ e. elim (other_segment shape s r index at ne)
      [ inl less ↦ absurd (omega arith) | inr more ↦ absurd (omega arith) ]))

-- what an enqueue's probes say of the segment
pub probed_items : (shape : Shape) (w : ℕ → ℕ) (s start : ℕ) → start < shape.k
    → ((j : ℕ) → j < shape.probes → value_of (w (scan_index shape s start j)) ≢ 0) → shape.probes ≤ items_of shape w s
unfolding scan_index
probed_items shape w s start start_in all = filled-cyclic w (1 + s * shape.k) shape.k start shape.probes start_in
    shape.few_probes all
