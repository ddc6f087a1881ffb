-- How far the tail is ahead of the head, step by step round the ring.
use Rattle.std.proofs.Common.{◌≡◌, ◌≢◌, ◌⊎◌, ℕ, ◌+◌, ◌-◌, ◌%◌, ◌<◌, ◌≤◌, inl, inr, arith}
use Rattle.std.proofs.Math.Nat.{mod-eq_of_lt, mod-eq-sub-mod}
use Rattle.std.proofs.lemmas.Bool.{cases_lt, cases_eq}
use Rattle.std.proofs.lemmas.Bool.Decides.{nat_tests}
use Rattle.kfifo_words.specs.Ring.{next_segment, distance}

pub distance-value : (n h t : ℕ) → h < n → t < n → ((h ≤ t) × (distance n h t + h ≡ t))
    ⊎ ((t < h) × (distance n h t + h ≡ t + n))
unfolding distance
distance-value n h t h_in t_in =
    elim (cases_lt t h) [
      | inl lt ↦ let e : (t + n - h) % n ≡ t + n - h = mod-eq_of_lt (omega arith) in inr (lt, omega arith)
      | inr ge ↦
          let e : (t + n - h) % n ≡ (t + n - h - n) % n = mod-eq-sub-mod (omega arith) in
          let f : (t + n - h - n) % n ≡ t + n - h - n = mod-eq_of_lt (omega arith) in
          inl (ge, omega arith)
    ]

next-value : (n s : ℕ) → s < n → ((s + 1 ≡ n) × (next_segment n s ≡ 0)) ⊎ ((s + 1 < n) × (next_segment n s ≡ s + 1))
unfolding next_segment
next-value n s h = elim (cases_eq (s + 1) n) [
  | inl e ↦ inl (e, grind (arith, nat_tests))
  | inr ne ↦ inr (omega arith, grind (arith, nat_tests))
]

pub distance-below : (n h t : ℕ) → h < n → t < n → distance n h t < n
distance-below n h t h_in t_in = elim (distance-value n h t h_in t_in)
    [ inl k ↦ (let e = k.1 in omega arith) | inr k ↦ (let e = k.1 in let l = k.0 in omega arith) ]

-- the tail moves on, unless the ring is full
pub distance-tail_on : (n h t : ℕ) → h < n → t < n → next_segment n t ≢ h
    → (distance n h (next_segment n t) ≡ distance n h t + 1)
    × (distance n h t + 1 < n)
distance-tail_on n h t h_in t_in room =
    elim (next-value n t t_in) [
      | inl k ↦ let d = distance-value n h t h_in t_in in
          let e = distance-value n h (next_segment n t) h_in (let z = k.1 in omega arith) in
          go k.0 k.1 d e
      | inr k ↦ let d = distance-value n h t h_in t_in in let e =
          distance-value n h (next_segment n t) h_in (let z = k.1 in let l = k.0 in omega arith) in go_on k.0 k.1 d e
    ]
  where
    go : t + 1 ≡ n → next_segment n t ≡ 0 → ((h ≤ t) × (distance n h t + h ≡ t))
        ⊎ ((t < h) × (distance n h t + h ≡ t + n))
        → ((h ≤ next_segment n t) × (distance n h (next_segment n t) + h ≡ next_segment n t))
        ⊎ ((next_segment n t < h) × (distance n h (next_segment n t) + h ≡ next_segment n t + n))
        → (distance n h (next_segment n t) ≡ distance n h t + 1) × (distance n h t + 1 < n)
    go last next d e = (omega arith, omega arith)

    go_on : t + 1 < n → next_segment n t ≡ t + 1 → ((h ≤ t) × (distance n h t + h ≡ t))
        ⊎ ((t < h) × (distance n h t + h ≡ t + n))
        → ((h ≤ next_segment n t) × (distance n h (next_segment n t) + h ≡ next_segment n t))
        ⊎ ((next_segment n t < h) × (distance n h (next_segment n t) + h ≡ next_segment n t + n))
        → (distance n h (next_segment n t) ≡ distance n h t + 1) × (distance n h t + 1 < n)
    go_on more next d e = (omega arith, omega arith)

-- the ring is full
pub distance-full : (n h t : ℕ) → h < n → t < n → next_segment n t ≡ h → distance n h t + 1 ≡ n
distance-full n h t h_in t_in full =
    let d = distance-value n h t h_in t_in in
    let k = next-value n t t_in in
    omega arith

-- the head moves on, unless it is where the tail is
pub distance-head_on : (n h t : ℕ) → h < n → t < n → t ≢ h → distance n (next_segment n h) t + 1 ≡ distance n h t
distance-head_on n h t h_in t_in apart =
    elim (next-value n h h_in) [
      | inl k ↦ go k.0 k.1 (distance-value n h t h_in t_in)
          (distance-value n (next_segment n h) t (let z = k.1 in omega arith) t_in)
      | inr k ↦ go_on k.0 k.1 (distance-value n h t h_in t_in)
          (distance-value n (next_segment n h) t (let z = k.1 in let l = k.0 in omega arith) t_in)
    ]
  where
    go : h + 1 ≡ n → next_segment n h ≡ 0 → ((h ≤ t) × (distance n h t + h ≡ t))
        ⊎ ((t < h) × (distance n h t + h ≡ t + n))
        → ((next_segment n h ≤ t) × (distance n (next_segment n h) t + next_segment n h ≡ t))
        ⊎ ((t < next_segment n h) × (distance n (next_segment n h) t + next_segment n h ≡ t + n))
        → distance n (next_segment n h) t + 1 ≡ distance n h t
    go last next d e = omega arith

    go_on : h + 1 < n → next_segment n h ≡ h + 1 → ((h ≤ t) × (distance n h t + h ≡ t))
        ⊎ ((t < h) × (distance n h t + h ≡ t + n))
        → ((next_segment n h ≤ t) × (distance n (next_segment n h) t + next_segment n h ≡ t))
        ⊎ ((t < next_segment n h) × (distance n (next_segment n h) t + next_segment n h ≡ t + n))
        → distance n (next_segment n h) t + 1 ≡ distance n h t
    go_on more next d e = omega arith

-- the next segment is another
pub next-apart : (n s : ℕ) → 2 ≤ n → s < n → next_segment n s ≢ s
next-apart n s two s_in same = let k = next-value n s s_in in absurd (omega arith)
