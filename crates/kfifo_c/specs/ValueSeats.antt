-- What a handle of a queue of values stands for, as clauses see it.
use Rattle.std.specs.Prelude.{ℕ}
use Rattle.kfifo_renewing.specs.Renewing.{Generations}

-- the generations that its handle of a queue that does not wear out has joined
abbrev pub ValueSeated : Type 0
ValueSeated = Generations ℕ
