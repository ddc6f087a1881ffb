-- What gates say of the calls that pass them.
use Rattle.std.specs.Prelude.{ℕ}

-- what an open gate says of its calls: nothing
abbrev pub SaysNothing : ℕ → ℕ → Type 0
SaysNothing thread call = Unit {0}
