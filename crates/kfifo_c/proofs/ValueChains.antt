-- A give and a take leave what the generations of a queue of values are opened with.
use Rattle.std.proofs.Common.{◌≡◌, ℕ, arith}
use Rattle.kfifo_live.specs.declared.payload.Given.{Given}
use Rattle.kfifo_live.specs.declared.payload.Taken.{Taken}
use Rattle.kfifo_renewing.specs.Renewing.{Generations, GivesToNewest, TakesFromOldest}

pub gives_opened : (value : ℕ) (answer : Given ℕ) (old new : Generations ℕ) → GivesToNewest value answer old new
    → new.opened ≡ old.opened
gives_opened value answer old new gives = grind arith

pub takes_opened : (answer : Taken ℕ) (old new : Generations ℕ) → TakesFromOldest answer old new
    → new.opened ≡ old.opened
takes_opened answer old new takes = grind arith
