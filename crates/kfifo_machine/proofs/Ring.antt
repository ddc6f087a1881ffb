-- Numbers round the ring: a number's place is what it leaves when divided by the number of segments.
use Rattle.std.proofs.Common.{◌≡◌, ℕ, ◌+◌, ◌-◌, ◌%◌, ◌<◌, ◌≤◌, ◌⊎◌, inl, inr, sym, ◌∙◌, ap, arith}
use Rattle.std.proofs.Math.Nat.{mod-add-mod, add-mod_right, mod-eq_of_lt, mod-eq-sub-mod, mod-lt}
use Rattle.std.proofs.lemmas.Bool.{cases_lt}
use Rattle.std.proofs.lemmas.Bool.Decides.{nat_tests}
use Rattle.kfifo_words.specs.Ring.{next_segment}

-- d steps on from a number's place in the ring of n: past its end, or not
pub ring_add : (n a d : ℕ) → d < n → ((a % n + d < n) × ((a + d) % n ≡ a % n + d))
    ⊎ ((n ≤ a % n + d) × ((a + d) % n + n ≡ a % n + d))
ring_add n a d h =
    let below : a % n < n = mod-lt a (omega arith) in
    let e : (a % n + d) % n ≡ (a + d) % n = mod-add-mod a n d in
    elim (cases_lt (a % n + d) n) [
      | inl lt ↦ let s : (a % n + d) % n ≡ a % n + d = mod-eq_of_lt lt in inl (lt, cc)
      | inr ge ↦
          let s : (a % n + d) % n ≡ (a % n + d - n) % n = mod-eq-sub-mod ge in
          let u : (a % n + d - n) % n ≡ a % n + d - n = mod-eq_of_lt (omega arith) in
          inr (ge, omega arith)
    ]

-- the same of any number v of the window that begins at a
pub ring_window : (n a v : ℕ) → a ≤ v → v < a + n → ((a % n + (v - a) < n) × (v % n ≡ a % n + (v - a)))
    ⊎ ((n ≤ a % n + (v - a)) × (v % n + n ≡ a % n + (v - a)))
ring_window n a v l h = let e : a + (v - a) ≡ v = omega arith in rw e at (ring_add n a (v - a) (omega arith))

pub next-mod : (n a : ℕ) → 2 ≤ n → next_segment n (a % n) ≡ (a + 1) % n
unfolding next_segment
next-mod n a h =
    let below : a % n < n = mod-lt a (omega arith) in
    let r : ((a % n + 1 < n) × ((a + 1) % n ≡ a % n + 1)) ⊎ ((n ≤ a % n + 1) × ((a + 1) % n + n ≡ a % n + 1)) =
    ring_add n a 1 (omega arith) in
    grind (arith, nat_tests)

-- two numbers of one place, less than a round apart, are one
pub same_place : (n a v : ℕ) → a ≤ v → v < a + n → v % n ≡ a % n → v ≡ a
same_place n a v l h e =
    let below : a % n < n = mod-lt a (omega arith) in
    elim (ring_window n a v l h) [ inl p ↦ omega arith | inr p ↦ omega arith ]

-- the next place is the window's begin exactly at its end
pub next_place : (n a b : ℕ) → 2 ≤ n → a ≤ b → b < a + n → (next_segment n (b % n) ≡ a % n) → b + 1 ≡ a + n
next_place n a b h l u e =
    let s : (b + 1) % n ≡ a % n = sym (next-mod n b h) ∙ e in
    elim (cases_lt (b + 1) (a + n)) [
      | inl lt ↦ let z : b + 1 ≡ a = same_place n a (b + 1) (omega arith) lt s in absurd (omega arith)
      | inr ge ↦ omega arith
    ]

pub not_next_place : (n a b : ℕ) → 2 ≤ n → a ≤ b → b < a + n → (next_segment n (b % n) ≡ a % n → ⊥) → b + 1 < a + n
not_next_place n a b h l u ne =
    elim (cases_lt (b + 1) (a + n)) [
      | inl lt ↦ lt
      | inr ge ↦
          let e : b + 1 ≡ a + n = omega arith in
          let s : (a + n) % n ≡ a % n = add-mod_right a n in
          absurd (ne (next-mod n b h ∙ ap (λ x. x % n) e ∙ s))
    ]
