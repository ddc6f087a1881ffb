-- What a thread does with the answer of a take.
use Rattle.std.specs.Prelude.{◌≡◌, ◌↔◌, ◌+◌, ◌%◌, ◌^◌, ℕ}
use Rattle.kfifo_live.specs.declared.payload.Taken.{Taken}
use Rattle.kfifo_live.specs.declared.payload.Taken.TheVariants as K
use Rattle.kfifo_renewing.specs.Renewing.{Generations, TakesFromOldest}

module _ {T : Type 0} where
  -- how many texts came out: one more where the take got one
  abbrev pub count_after : Taken T → ℕ → ℕ
  count_after (K.Got text) count = (count + 1) % 2 ^ 64
  count_after taken count = count

  -- one take of a handle: what it got is counted, and it fails where the take returned Worn
  pub record TakesOne (fails : Type 0) (before after : ℕ) (old new : Generations T) : Type 0 where
    pub taken : Taken T
    pub takes : TakesFromOldest taken old new
    pub counted : after ≡ count_after taken before
    pub worn : fails ↔ (taken ≡ K.Worn)
