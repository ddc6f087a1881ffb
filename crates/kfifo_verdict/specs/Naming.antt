-- What evidence names.
use Rattle.std.specs.Prelude.{ℕ, List, Option, Some, None}
use Rattle.kfifo_verdict.specs.declared.verdicts.Evidence.{Evidence}
use Rattle.kfifo_verdict.specs.declared.verdicts.Evidence.TheVariants.{NeverPut, TakenTwice, NotEmpty, TooYoung}
use Rattle.kfifo_verdict.specs.declared.verdicts.Evidence.TheVariants.{TakenTooSoon, ItemsLeft, OlderLeft}

-- the call that got an item or found none
abbrev pub call_in : Evidence → ℕ
call_in (NeverPut get) = get
call_in (TakenTwice get) = get
call_in (NotEmpty empty puts) = empty
call_in (TooYoung get puts) = get
call_in (TakenTooSoon get) = get
call_in (ItemsLeft empty) = empty
call_in (OlderLeft get puts) = get

-- the puts, of a kind that names any
abbrev pub puts_in : Evidence → Option (List ℕ)
puts_in (NeverPut get) = None
puts_in (TakenTwice get) = None
puts_in (NotEmpty empty puts) = Some puts.items
puts_in (TooYoung get puts) = Some puts.items
puts_in (TakenTooSoon get) = None
puts_in (ItemsLeft empty) = None
puts_in (OlderLeft get puts) = Some puts.items

-- the kinds 4 and 7 are about one k
abbrev pub IsForEachK : Evidence → Type 0
IsForEachK (NeverPut get) = Unit {0}
IsForEachK (TakenTwice get) = Unit {0}
IsForEachK (NotEmpty empty puts) = Unit {0}
IsForEachK (TooYoung get puts) = ⊥
IsForEachK (TakenTooSoon get) = Unit {0}
IsForEachK (ItemsLeft empty) = Unit {0}
IsForEachK (OlderLeft get puts) = ⊥
