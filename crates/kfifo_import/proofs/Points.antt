-- How many calls have begun or ended by a time: a walk stops at the first that has not.
use Rattle.std.proofs.Common.{ℕ, ◌<◌, ◌≤◌, List, length, get_or, arith}
use Rattle.std.specs.List.{AllWithin}
use Rattle.std.specs.List.Sorted.{IsNonDecreasingBy, IsPartitionPoint}

pub up_to_here : {X : Type 0} (n : X → ℕ) (xs : List X) (t i : ℕ) → IsNonDecreasingBy n xs
    → AllWithin (λ y. n y ≤ t) xs 0 i
    → ((d : X) → i < length xs → t < n (get_or xs i d)) → IsPartitionPoint (λ y. n y ≤ t) (λ y. t < n y) xs i
up_to_here n xs t i rise passed stops = (
  passed,
  λ k d le lt.
      let a = stops d (omega arith) in
      let b = rise i k d le lt in
      omega (arith, a, b),
)

pub below_here : {X : Type 0} (n : X → ℕ) (xs : List X) (t i : ℕ) → IsNonDecreasingBy n xs
    → AllWithin (λ y. n y < t) xs 0 i
    → ((d : X) → i < length xs → t ≤ n (get_or xs i d)) → IsPartitionPoint (λ y. n y < t) (λ y. t ≤ n y) xs i
below_here n xs t i rise passed stops = (
  passed,
  λ k d le lt.
      let a = stops d (omega arith) in
      let b = rise i k d le lt in
      omega (arith, a, b),
)
