-- Why a text records no history.
use Rattle.std.specs.Prelude.{ℕ, List}
use Rattle.kfifo_judge.specs.declared.record.StreamFault.{StreamFault}
use Rattle.kfifo_judge.specs.declared.record.StreamFault.TheVariants.{Input, NotJson, Record, Search, RepeatedItem}
use Rattle.kfifo_judge.specs.declared.record.StreamFault.TheVariants.{Memory, Output}
use Rattle.kfifo_judge.specs.Inputs.{IsNoJson, IsFaultyText}

abbrev pub IsTextFault : List ℕ → StreamFault → Type 0
IsTextFault bytes NotJson = IsNoJson bytes
IsTextFault bytes (Record f) = IsFaultyText bytes f
IsTextFault bytes Memory = Unit {0}
IsTextFault bytes Input = ⊥
IsTextFault bytes (Search f) = ⊥
IsTextFault bytes RepeatedItem = ⊥
IsTextFault bytes Output = ⊥
