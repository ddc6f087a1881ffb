-- What a handle of a queue of cells stands for, as clauses see it.
use Rattle.kfifo_renewing.specs.Renewing.{Generations}

-- the generations that its handle of a queue that does not wear out has joined
abbrev pub CellSeated : Type 0
CellSeated = Generations (Unit {0})
