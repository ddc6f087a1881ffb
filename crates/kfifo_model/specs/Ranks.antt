-- The ranks of an order: how many older items a dequeue passes over.
use Rattle.std.specs.Prelude.{ℕ, Bool, true, false, List, [], ◌∷◌, ◌++◌, Option, Some, None, map, count_by}
use Rattle.kfifo_model.specs.declared.calls.Call.{Call}
use Rattle.kfifo_model.specs.Lists.{place}
use Rattle.kfifo_model.specs.declared.effects.Effect.{Effect}
use Rattle.kfifo_model.specs.declared.effects.Effect.TheVariants.{Adds, Takes, FindsNone, Refused, Wrong}
use Rattle.kfifo_model.specs.Relaxed.{next}
use Rattle.kfifo_model.specs.Histories.{does}

-- a Got's rank: the least place of its item
abbrev pub rank : List ℕ → Effect → List ℕ
rank items (Takes x) = place items x ∷ []
rank items (Adds x) = []
rank items FindsNone = []
rank items Refused = []
rank items Wrong = []

-- the ranks of the Gots in turn, each in the list that those before it leave
abbrev pub ranks_at : ℕ → Option (List ℕ) → List Effect → List ℕ
ranks_at k None es = []
ranks_at k (Some items) [] = []
ranks_at k (Some items) (e ∷ es) = rank items e ++ ranks_at k (next k items e) es

abbrev pub ranks_of : ℕ → List Call → List ℕ → List ℕ
ranks_of k h order = ranks_at k (Some []) (map (does h) order)

-- how many calls of an order got an item
abbrev pub is_got : Effect → Bool
is_got (Takes x) = true
is_got (Adds x) = false
is_got FindsNone = false
is_got Refused = false
is_got Wrong = false

abbrev pub gots_in : List Call → List ℕ → ℕ
gots_in h order = count_by (λ c. is_got (does h c)) order
