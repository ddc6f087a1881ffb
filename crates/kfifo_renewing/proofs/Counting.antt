-- What is counted in one generation more, and in all of them.
use Rattle.std.proofs.Common.{◌≡◌, ◌≤◌, ◌+◌, ◌*◌, ◌++◌, ◌∷◌, [], ℕ, min, List, length, map, arith, ap, ◌∙◌}
use Rattle.std.proofs.Math.Nat.{add-mul, min-le_left}
use Rattle.std.proofs.lemmas.List.{length-append, length-map}

pub counts-more : (sum a b most others slots : ℕ) → sum ≡ min (a + b) most → a ≤ others * slots → b ≤ slots
    → sum ≤ (others + 1) * slots
counts-more sum a b most others slots is few fits =
    omega (arith, is, min-le_left (a + b) most, few, fits, add-mul others 1 slots)

pub length-more : {A B : Type 0} (f : A → B) (xs : List A) (y : B) → length (map f xs ++ y ∷ []) ≡ length xs + 1
length-more f xs y = length-append (map f xs) (y ∷ []) ∙ ap (λ n. n + 1) (length-map xs f)
