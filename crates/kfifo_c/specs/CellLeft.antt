-- What is left of a closed queue of cells, as clauses see it.
use Rattle.std.specs.Prelude.{ℕ, List}

-- the numbers of the cells that were not handed out yet, those of the oldest generation first
abbrev pub LeftSeated : Type 0
LeftSeated = List ℕ
