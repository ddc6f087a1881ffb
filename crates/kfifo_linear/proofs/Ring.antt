-- Numbers round the ring, and the parts of words.
use Rattle.std.proofs.Common.{◌≡◌, ℕ, ◌+◌, ◌-◌, ◌%◌, ◌<◌, ◌≤◌, ◌⊎◌, inl, inr, arith}
use Rattle.std.proofs.Math.Nat.{mod-eq_of_lt, mod-eq-sub-mod, mod-lt}
use Rattle.std.proofs.lemmas.Bool.{cases_lt}
use Rattle.kfifo_words.specs.Ring.{distance}
use Rattle.kfifo_words.specs.Words.{ends_word, head_of, slot_word, tail_of, value_of, version_of}
use Rattle.kfifo_machine.proofs.Ring.{ring_add, ring_window, same_place}

-- a number of a's place that is less than a round above it is not above it
pub place_below : (n a v : ℕ) → v < a + n → v % n ≡ a % n → v ≤ a
place_below n a v h e = elim (cases_lt a v) [
  | inl lt ↦ let s : v ≡ a = same_place n a v (omega arith) h e in omega arith
  | inr ge ↦ ge
]

-- the distance from the window's begin
pub distance-mod : (n a v : ℕ) → a ≤ v → v < a + n → distance n (a % n) (v % n) ≡ v - a
unfolding distance
distance-mod n a v l h =
    let below : a % n < n = mod-lt a (omega arith) in
    elim (ring_window n a v l h) [
      | inl p ↦
          let s : (v % n + n - a % n) % n ≡ (v % n + n - a % n - n) % n = mod-eq-sub-mod (omega arith) in
          let u : (v % n + n - a % n - n) % n ≡ v % n + n - a % n - n = mod-eq_of_lt (omega arith) in
          omega arith
      | inr p ↦
          let s : (v % n + n - a % n) % n ≡ v % n + n - a % n = mod-eq_of_lt (omega arith) in
          omega arith
    ]

-- the number of the window at this distance
pub at_distance : (n a s : ℕ) → s < n → ((a + distance n (a % n) s) % n ≡ s) × (distance n (a % n) s < n)
unfolding distance
at_distance n a s h =
    let below : a % n < n = mod-lt a (omega arith) in
    let d_below : (s + n - a % n) % n < n = mod-lt (s + n - a % n) (omega arith) in
    let r : ((a % n + (s + n - a % n) % n < n) × ((a + (s + n - a % n) % n) % n ≡ a % n + (s + n - a % n) % n))
    ⊎ ((n ≤ a % n + (s + n - a % n) % n) × ((a + (s + n - a % n) % n) % n + n ≡ a % n + (s + n - a % n) % n)) =
    ring_add n a ((s + n - a % n) % n) d_below in
    elim (cases_lt (s + n - a % n) n) [
      | inl lt ↦
          let u : (s + n - a % n) % n ≡ s + n - a % n = mod-eq_of_lt lt in
          (omega arith, d_below)
      | inr ge ↦
          let t : (s + n - a % n) % n ≡ (s + n - a % n - n) % n = mod-eq-sub-mod ge in
          let u : (s + n - a % n - n) % n ≡ s + n - a % n - n = mod-eq_of_lt (omega arith) in
          (omega arith, d_below)
    ]

-- the parts of words
pub value-slot_word : (value version : ℕ) → value < 16777216 → value_of (slot_word value version) ≡ value
unfolding value_of slot_word
value-slot_word value version h = omega arith

-- a word of the next version is above
pub slot_word-above : (word value : ℕ) → value < 16777216 → word < slot_word value (version_of word + 1)
unfolding version_of slot_word
slot_word-above word value h = omega arith

pub head-ends_word : (head tail version : ℕ) → head < 4096 → tail < 4096 → head_of (ends_word head tail version) ≡ head
unfolding head_of ends_word
head-ends_word head tail version h t = omega arith

pub tail-ends_word : (head tail version : ℕ) → head < 4096 → tail < 4096 → tail_of (ends_word head tail version) ≡ tail
unfolding tail_of ends_word
tail-ends_word head tail version h t = omega arith

pub ends_word-above : (word head tail : ℕ) → head < 4096 → tail < 4096
    → word < ends_word head tail (version_of word + 1)
unfolding version_of ends_word
ends_word-above word head tail h t = omega arith
