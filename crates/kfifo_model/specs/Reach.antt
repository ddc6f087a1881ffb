-- What the calls of a beginning of an order came to.
use Rattle.std.specs.Prelude.{ℕ, Bool, List}

-- which calls are done, by their numbers, and the items that they left
pub record Reach : Type 0 where
  pub done : List Bool
  pub items : List ℕ

abbrev pub reach : List Bool → List ℕ → Reach
reach done items = record { done = done; items = items }
