-- What is left at a get, where items repeat: puts and gets of each item by their numbers, and how many ended sooner.
use Rattle.std.specs.Prelude.{ℕ, ◌≡◌, ◌<◌, ◌≤◌, ◌↔◌, true, List, Option, Some, None, length, slice_index_or}
use Rattle.kfifo_model.specs.declared.calls.Call.{Call}
use Rattle.kfifo_model.specs.Overtaking.{adds}
use Rattle.kfifo_model.specs.Histories.{call, does, IsFinished}
use Rattle.kfifo_model.specs.declared.effects.Side.{Side}
use Rattle.kfifo_model.specs.declared.effects.Side.TheVariants.{In, Out}
use Rattle.kfifo_verdict.specs.declared.presences.Presence.{Presence}
use Rattle.kfifo_verdict.specs.declared.older.Listed.{Listed}
use Rattle.kfifo_verdict.specs.Evidence.{Puts, Gets, count_below, gets_before, IsOlderCopy}
use Rattle.kfifo_verdict.specs.Finding.{has_item, IsStart, no_presence}
use Rattle.kfifo_verdict.specs.declared.steps.Key.TheVariants.{Outer, Inner, Number}
use Rattle.kfifo_verdict.specs.Steps.{AreSorted}

-- The calls of a history by their items.
pub record AreListed (h : List Call) (l : Listed) : Type 0 where
  pub puts : AreSorted Number h In l.puts.items
  pub gets : AreSorted Number h Out l.gets.items
  pub ended_puts : AreSorted Inner h In l.ended_puts.items
  pub ended_gets : AreSorted Outer h Out l.ended_gets.items

-- the call of a side that has item x and before which so many of them begin
abbrev pub IsNth : List Call → Side → ℕ → ℕ → Option ℕ → Type 0
IsNth h side x count (Some c) =
    (c < length h) × (has_item side h x c ≡ true) × (count_below (has_item side h x) c ≡ count)
IsNth h side x count None = (m : ℕ) → m ≤ length h → count_below (has_item side h x) m ≤ count

-- from which call on what p puts is older than the put there, and until which call it is certainly left
abbrev pub IsCopy : List Call → ℕ → Presence → Type 0
IsCopy h p s = (g put after : ℕ) → put < length h → IsFinished h g → IsStart h (call h g).end after
    → IsOlderCopy h g put p ↔ ((s.start ≤ put) × (after ≤ s.gone))

abbrev pub AreCopies : List Call → ℕ → List Presence → Type 0
AreCopies h n ps = (length ps ≡ n) × ((p : ℕ) → p < n → IsCopy h p (slice_index_or ps p no_presence))

-- q puts what g gets, and before q begin as many puts of it as gets of it precede g
abbrev pub IsPutOfGet : List Call → ℕ → ℕ → Type 0
IsPutOfGet h g q = (x : ℕ) × Gets h x g × Puts h x q
    × (count_below (λ c. adds x (does h c)) q ≡ gets_before h x g) × (q < length h)
