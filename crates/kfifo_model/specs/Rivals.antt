-- Calls that got an item which a call put, and the items that they overtake.
use Rattle.std.specs.Prelude.{ℕ, zero, suc, ◌&&◌, Bool, true, ltb, List, [], ◌++◌, Option, Some, None}
use Rattle.std.specs.Option.{option_map, option_to_list}
use Rattle.kfifo_model.specs.declared.calls.End.{End}
use Rattle.kfifo_model.specs.declared.calls.Call.{Call}
use Rattle.kfifo_model.specs.declared.rivals.Rival.{Rival}
use Rattle.kfifo_model.specs.declared.effects.Effect.{Effect}
use Rattle.kfifo_model.specs.declared.effects.Effect.TheVariants.{Adds, Takes, FindsNone, Refused, Wrong}
use Rattle.kfifo_model.specs.Histories.{call, does}

abbrev pub last_of : Option End → ℕ
last_of (Some end) = end.last
last_of None = 0

-- where a call got an item that a call put: the first step of that one, and the last of this
abbrev pub rival_of : (ℕ → Option ℕ) → Effect → ℕ → Option Rival
rival_of put_of (Takes y) last = option_map (λ f. record { put_first = f; got_last = last }) (put_of y)
rival_of put_of (Adds y) last = None
rival_of put_of FindsNone last = None
rival_of put_of Refused last = None
rival_of put_of Wrong last = None

abbrev pub rival_at : List Call → (ℕ → Option ℕ) → ℕ → Option Rival
rival_at h put_of d = rival_of put_of (does h d) (last_of (call h d).end)

-- the rivals among the first n calls
abbrev pub rivals_below : List Call → (ℕ → Option ℕ) → ℕ → List Rival
rivals_below h put_of zero = []
rivals_below h put_of (suc n) = rivals_below h put_of n ++ option_to_list (rival_at h put_of n)

abbrev pub ends_before : ℕ → Option ℕ → Bool
ends_before last None = true
ends_before last (Some first) = ltb last first

-- an item put by a call that ended at `last`, and got by one that began at `taken`, if any, is overtaken by the rival
abbrev pub is_beaten : ℕ → Option ℕ → Rival → Bool
is_beaten last taken r = ltb last r.put_first && ends_before r.got_last taken
