-- The k-relaxed queue: a list of items, the oldest first, empty at first. A dequeue may give any of the k oldest: the
-- out-of-order relaxation of Henzinger, Kirsch, Payer, Sezgin and Sokolova, "Quantitative relaxation of concurrent data
-- structures", POPL 2013. With k = 1 it is a plain queue.
use Rattle.std.specs.Prelude.{ℕ, ◌≡◌, ◌<◌, ◌&&◌, cond, ltb, length, List, [], ◌∷◌, ◌++◌, Option, Some, None, slice_get}
use Rattle.std.specs.List.{remove}
use Rattle.kfifo_model.specs.Lists.{place}
use Rattle.kfifo_model.specs.declared.effects.Effect.{Effect}
use Rattle.kfifo_model.specs.declared.effects.Effect.TheVariants.{Adds, Takes, FindsNone, Refused, Wrong}
use Rattle.kfifo_model.specs.declared.calls.Op.{Op}
use Rattle.kfifo_model.specs.declared.calls.Op.TheVariants.{Enqueue, Dequeue}
use Rattle.kfifo_model.specs.declared.calls.Answer.{Answer}
use Rattle.kfifo_model.specs.declared.calls.Answer.TheVariants.{Done, Full, Got, Empty, Busy, Worn}

-- what a call with its answer does to the list; an answer of the other operation is wrong
abbrev pub effect : Op → Answer → Effect
effect (Enqueue x) Done = Adds x
effect (Enqueue x) Full = Refused
effect (Enqueue x) Busy = Refused
effect (Enqueue x) Worn = Refused
effect (Enqueue x) (Got y) = Wrong
effect (Enqueue x) Empty = Wrong
effect Dequeue (Got x) = Takes x
effect Dequeue Empty = FindsNone
effect Dequeue Busy = Refused
effect Dequeue Worn = Refused
effect Dequeue Done = Wrong
effect Dequeue Full = Wrong

-- the effect is legal in the list of items, and leaves the list after. Of equal items among the first k any may go
abbrev pub Leaves : ℕ → List ℕ → Effect → List ℕ → Type 0
Leaves k items (Adds x) after = after ≡ items ++ x ∷ []
Leaves k items (Takes x) after = (i : ℕ) × (i < k) × (slice_get items i ≡ Some x) × (after ≡ remove items i)
Leaves k items FindsNone after = (items ≡ []) × (after ≡ [])
Leaves k items Refused after = after ≡ items
Leaves k items Wrong after = ⊥

-- effects, each legal in the list that those before it leave
abbrev pub IsRun : ℕ → List ℕ → List Effect → Type 0
IsRun k items [] = Unit {0}
IsRun k items (e ∷ es) = (after : List ℕ) × Leaves k items e after × IsRun k after es

-- the list that a legal effect leaves where the first of equal items goes
abbrev pub next : ℕ → List ℕ → Effect → Option (List ℕ)
next k items (Adds x) = Some (items ++ x ∷ [])
next k items (Takes x) = cond (ltb (place items x) k && ltb (place items x) (length items))
    (Some (remove items (place items x))) None
next k [] FindsNone = Some []
next k (x ∷ items) FindsNone = None
next k items Refused = Some items
next k items Wrong = None
