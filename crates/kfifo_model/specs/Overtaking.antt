-- How often an item is overtaken: by each dequeue that gets an item enqueued after it, before it is dequeued itself. In
-- a plain queue never; it is how far a queue out of order departs from that (the lateness of Henzinger and others,
-- 2013).
use Rattle.std.specs.Prelude.{ℕ, ◌≡◌, Bool, false, not, ◌&&◌, ◌||◌, eqb, ltb, List, [], ◌∷◌, Option, Some, None, length}
use Rattle.std.specs.List.{filter, range_with_len}
use Rattle.kfifo_model.specs.declared.calls.End.{End}
use Rattle.kfifo_model.specs.declared.calls.Call.{Call}
use Rattle.kfifo_model.specs.Lists.{IsIn, place}
use Rattle.kfifo_model.specs.declared.effects.Effect.{Effect}
use Rattle.kfifo_model.specs.declared.effects.Effect.TheVariants.{Adds, Takes}
use Rattle.kfifo_model.specs.Histories.{call, does}

-- the test passes some number
abbrev pub some : (ℕ → Bool) → List ℕ → Bool
some test [] = false
some test (x ∷ xs) = test x || some test xs

abbrev pub adds : ℕ → Effect → Bool
adds x (Adds y) = eqb x y
adds x _ = false

abbrev pub takes : ℕ → Effect → Bool
takes x (Takes y) = eqb x y
takes x _ = false

-- d takes an item y; an enqueue of y comes after c, which adds x; and d comes before each call that takes x
abbrev pub overtakes_at : (ℕ → Effect) → (ℕ → ℕ → Bool) → List ℕ → ℕ → ℕ → Effect → Effect → Bool
overtakes_at act before numbers c d (Adds x) (Takes y) =
    some (λ e. adds y (act e) && before c e) numbers && not (some (λ t. takes x (act t) && not (before d t)) numbers)
overtakes_at act before numbers c d _ _ = false

abbrev pub overtakes : (ℕ → Effect) → (ℕ → ℕ → Bool) → List ℕ → ℕ → ℕ → Bool
overtakes act before numbers c d = overtakes_at act before numbers c d (act c) (act d)

-- how many of the calls overtake the item of c
abbrev pub overtaken_count : (ℕ → Effect) → (ℕ → ℕ → Bool) → List ℕ → ℕ → ℕ
overtaken_count act before numbers c = length (filter (overtakes act before numbers c) numbers)

-- c stands before d in the order
abbrev pub stands_before : List ℕ → ℕ → ℕ → Bool
stands_before order c d = ltb (place order c) (place order d)

abbrev pub ends_below : Option End → ℕ → Bool
ends_below (Some end) step = ltb end.last step
ends_below None step = false

-- c returned before d was called, as a test
abbrev pub precedes : List Call → ℕ → ℕ → Bool
precedes h c d = ends_below (call h c).end (call h d).first

-- the numbers of a history's calls
abbrev pub numbers_of : List Call → List ℕ
numbers_of h = range_with_len 0 (length h)

-- how often the item of c is overtaken in an order
abbrev pub overtaken_in : List Call → List ℕ → ℕ → ℕ
overtaken_in h order c = overtaken_count (does h) (stands_before order) order c

-- the overtakings of the item of c that the history makes certain
abbrev pub certainly_overtaken : List Call → ℕ → ℕ
certainly_overtaken h c = overtaken_count (does h) (precedes h) (numbers_of h) c

-- no two of these calls add one item
abbrev pub AddsAreDistinct : (ℕ → Effect) → List ℕ → Type 0
AddsAreDistinct act numbers = (x c d : ℕ) → IsIn c numbers → IsIn d numbers → act c ≡ Adds x → act d ≡ Adds x → c ≡ d

-- no two of these calls take one item
abbrev pub TakesAreDistinct : (ℕ → Effect) → List ℕ → Type 0
TakesAreDistinct act numbers = (x c d : ℕ) → IsIn c numbers → IsIn d numbers → act c ≡ Takes x → act d ≡ Takes x → c ≡ d
