-- How many items are left at the end of a history.
use Rattle.std.specs.Prelude.{ℕ, ◌≡◌, leb, eqb, false, Bool, List, Option, Some, None, length}
use Rattle.kfifo_model.specs.declared.calls.Call.{Call}
use Rattle.kfifo_model.specs.declared.calls.End.{End}
use Rattle.kfifo_model.specs.declared.effects.Effect.{Effect}
use Rattle.kfifo_model.specs.declared.effects.Effect.TheVariants.{Adds}
use Rattle.kfifo_model.specs.Histories.{call, effect_of}
use Rattle.kfifo_verdict.specs.declared.tallies.ByItem.{ByItem}
use Rattle.kfifo_verdict.specs.Evidence.{count_below, gets_of}
use Rattle.kfifo_verdict.specs.Finding.{tally_in}

abbrev pub item_added : Effect → Option ℕ
item_added (Adds x) = Some x
item_added _ = None

abbrev pub item_done : Option End → Effect → Option ℕ
item_done (Some end) e = item_added e
item_done None e = None

-- the item of an enqueue that returned Done; an unfinished one gives none
abbrev pub done_item : Call → Option ℕ
done_item c = item_done c.end (effect_of c)

abbrev pub is_item : ℕ → Option ℕ → Bool
is_item x (Some y) = eqb x y
is_item x None = false

-- how many calls below n are enqueues of x that returned Done
abbrev pub done_puts : List Call → ℕ → ℕ → ℕ
done_puts h x n = count_below (λ c. is_item x (done_item (call h c))) n

-- Whether the item that call c put is left: before c it was put as often as it is got in all, or more often. So each
-- item is left as often as it was put more than got.
abbrev pub is_left : List Call → ℕ → Option ℕ → Bool
is_left h c (Some x) = leb (gets_of h x) (done_puts h x c)
is_left h c None = false

-- how many items put by calls below n are left
abbrev pub left_below : List Call → ℕ → ℕ
left_below h n = count_below (λ c. is_left h c (done_item (call h c))) n

-- how many items are left at the end
abbrev pub items_left : List Call → ℕ
items_left h = left_below h (length h)

-- how often an item was counted
abbrev pub count_in : ByItem → ℕ → ℕ
count_in m x = (tally_in m x).count

-- the enqueues below n that returned Done, counted by their items
abbrev pub AreDonePuts : List Call → ℕ → ByItem → Type 0
AreDonePuts h n m = (x : ℕ) → count_in m x ≡ done_puts h x n
