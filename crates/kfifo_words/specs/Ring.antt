-- The ring of n segments of k slots, and where the table keeps its words.
use Rattle.std.specs.Prelude.{ℕ, ◌+◌, ◌-◌, ◌*◌, ◌%◌, ◌==◌, if◌then◌else◌}

-- the next segment round the ring
unfoldable pub next_segment : ℕ → ℕ → ℕ
next_segment n segment = if segment + 1 == n then 0 else segment + 1

-- how many steps forward round the ring lead from one segment to another, 0 to n - 1
unfoldable pub distance : ℕ → ℕ → ℕ → ℕ
distance n from to = (to + n - from) % n

-- the index of a slot's word: the ends word stands first, then the slots, segment by segment
abbrev pub slot_at : ℕ → ℕ → ℕ → ℕ
slot_at k segment slot = 1 + segment * k + slot

-- the index of the clock, behind the slots
abbrev pub clock_at : ℕ → ℕ → ℕ
clock_at k n = 1 + n * k
