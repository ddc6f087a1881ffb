-- How a stretch of numbers is written on the command line.
use Rattle.std.specs.Prelude.{◌≡◌, ℕ, ◌≤◌, List, ◌∷◌, ◌++◌}
use Rattle.kfifo_cli_texts.specs.declared.stretch.Stretch.{Stretch}
use Rattle.kfifo_cli_texts.specs.Words.{WritesNumber}

-- two numbers joined by a hyphen write a stretch: the first and the last of its numbers, which is no less
pub record WritesStretch (text : List ℕ) (stretch : Stretch) : Type 0 where
  pub first : List ℕ
  pub last : List ℕ
  pub split : text ≡ first ++ 45 ∷ last
  pub first_written : WritesNumber first stretch.first
  pub last_written : WritesNumber last stretch.last
  pub rises : stretch.first ≤ stretch.last
