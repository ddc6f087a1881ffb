-- From when to when the item of a put counts towards the lower bound of k.
use Rattle.std.specs.Prelude.{ℕ, ◌≡◌, ◌+◌, ◌<◌, ◌≤◌, ◌&&◌, leb, eqb, Bool, List, length, slice_index_or}
use Rattle.kfifo_model.specs.declared.calls.Call.{Call}
use Rattle.kfifo_model.specs.Histories.{call}
use Rattle.kfifo_verdict.specs.declared.presences.Presence.{Presence}
use Rattle.kfifo_verdict.specs.declared.bound.Changes.{Changes}
use Rattle.kfifo_verdict.specs.Evidence.{Gets, count_below, IsSingle}
use Rattle.kfifo_verdict.specs.Finding.{IsStart, no_presence}

-- Call g gets the single item of put q, and precedes the calls from `end` on.
pub record IsEndOfGet (h : List Call) (q g end : ℕ) : Type 0 where
  pub item : ℕ
  pub single : IsSingle h item q
  pub gets : Gets h item g
  pub start : IsStart h (call h g).end end

-- where the get of put q's single item ends, or a number above all such
pub record IsOwnEnd (h : List Call) (q end : ℕ) : Type 0 where
  pub bound : end ≤ length h + 1
  pub attained : end ≤ length h → (g : ℕ) × IsEndOfGet h q g end
  pub only : (x g : ℕ) → IsSingle h x q → Gets h x g → IsEndOfGet h q g end

-- where the first get ends of the single items of put q and later ones, or a number above all such
pub record IsSoonest (h : List Call) (q end : ℕ) : Type 0 where
  pub bound : end ≤ length h + 1
  pub attained : end ≤ length h → (r : ℕ) × (q ≤ r) × ((g : ℕ) × IsEndOfGet h r g end)
  pub least : (r x g : ℕ) → q ≤ r → IsSingle h x r → Gets h x g → (other : ℕ) × IsEndOfGet h r g other × (end ≤ other)

abbrev pub AreSoonest : List Call → List ℕ → Type 0
AreSoonest h soonest = (length soonest ≡ length h + 1)
    × ((q : ℕ) → q ≤ length h → IsSoonest h q (slice_index_or soonest q 0))

-- the moment from which on the item of put p counts: its put precedes a put whose item is got by then
abbrev pub since : List ℕ → List Presence → ℕ → ℕ
since soonest ps p = slice_index_or soonest (slice_index_or ps p no_presence).start 0

-- the moment until which it counts
abbrev pub until : List Presence → ℕ → ℕ
until ps p = (slice_index_or ps p no_presence).gone

-- whether the item of put p counts at a moment
abbrev pub counts_at : List ℕ → List Presence → ℕ → ℕ → Bool
counts_at soonest ps moment p = leb (since soonest ps p) moment && leb moment (until ps p)

abbrev pub counts_from : List ℕ → List Presence → ℕ → ℕ → Bool
counts_from soonest ps moment p = eqb (since soonest ps p) moment && leb moment (until ps p)

abbrev pub counts_until : List ℕ → List Presence → ℕ → ℕ → Bool
counts_until soonest ps moment p = leb (since soonest ps p) moment && eqb moment (until ps p)

-- for each moment how many of the first n puts have items that count from it on, and until it
pub record AreChanges (soonest : List ℕ) (ps : List Presence) (n : ℕ) (c : Changes) : Type 0 where
  pub sized : (length c.from.items ≡ length soonest) × (length c.until.items ≡ length soonest)
  pub from : (m : ℕ) → m < length soonest → slice_index_or c.from.items m 0 ≡ count_below (counts_from soonest ps m) n
  pub until : (m : ℕ) → m < length soonest → slice_index_or c.until.items m 0
      ≡ count_below (counts_until soonest ps m) n

-- the most items that count at a moment
pub record IsMostAtOnce (soonest : List ℕ) (ps : List Presence) (most : ℕ) : Type 0 where
  pub above : (m : ℕ) → m < length soonest → count_below (counts_at soonest ps m) (length ps) ≤ most
  pub attained : 0 < most → (m : ℕ) × (m < length soonest) × (count_below (counts_at soonest ps m) (length ps) ≡ most)
