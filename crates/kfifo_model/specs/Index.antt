-- Items by the calls that put and got them.
use Rattle.std.specs.Prelude.{ℕ, ◌≡◌, ◌<◌, List, Option, length}
use Rattle.std.specs.Option.{MatchOption}
use Rattle.kfifo_model.specs.declared.calls.Call.{Call}
use Rattle.kfifo_model.specs.declared.effects.Side.{Side}
use Rattle.kfifo_model.specs.declared.effects.Side.TheVariants.{In, Out}
use Rattle.kfifo_model.specs.declared.effects.Effect.{Effect}
use Rattle.kfifo_model.specs.declared.effects.Effect.TheVariants.{Adds, Takes}
use Rattle.kfifo_model.specs.Histories.{call, does}

abbrev pub side_effect : Side → ℕ → Effect
side_effect In x = Adds x
side_effect Out x = Takes x

-- two calls of the side have one item
abbrev pub HasTwo : List Call → Side → Type 0
HasTwo h side = (x : ℕ) × (i : ℕ) × (j : ℕ) × (i < j) × (j < length h) × (does h i ≡ side_effect side x)
    × (does h j ≡ side_effect side x)

-- The first step of each item's call of the side, of the first n calls, which have each item once.
pub record IsIndex (h : List Call) (side : Side) (n : ℕ) (first_of : ℕ → Option ℕ) : Type 0 where
  pub finds : (x : ℕ) → MatchOption (first_of x) ((j : ℕ) → j < n → does h j ≡ side_effect side x → ⊥)
      (λ f. (j : ℕ) × (j < n) × (does h j ≡ side_effect side x) × ((call h j).first ≡ f))
  pub once : (x i j : ℕ) → i < n → j < n → does h i ≡ side_effect side x → does h j ≡ side_effect side x → i ≡ j
