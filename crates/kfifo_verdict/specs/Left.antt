-- Which items are certainly left as calls begin: puts are counted by their ends, gets by their beginnings.
use Rattle.std.specs.Prelude.{ℕ, ◌≡◌, ◌<◌, ◌≤◌, ◌-◌, ◌↔◌, ◌&&◌, ◌||◌, eqb, ltb, Bool, List}
use Rattle.std.specs.Prelude.{length}
use Rattle.std.specs.Prelude.{slice_index_or}
use Rattle.std.specs.List.{count_by}
use Rattle.kfifo_model.specs.declared.calls.Call.{Call}
use Rattle.kfifo_model.specs.Histories.{call}
use Rattle.kfifo_model.specs.declared.effects.Side.{Side}
use Rattle.kfifo_verdict.specs.declared.presences.Presence.{Presence}
use Rattle.kfifo_verdict.specs.Evidence.{puts_ended, gets_begun, IsLeft}
use Rattle.kfifo_verdict.specs.Finding.{has_item, first_of}
use Rattle.kfifo_verdict.specs.Plain.{place}
use Rattle.kfifo_verdict.specs.Steps.{counts_at, passes, is_below}

-- whether call c is one of the side that has item x, and counts at a step
abbrev pub has_at : Side → List Call → ℕ → ℕ → ℕ → Bool
has_at side h x step c = has_item side h x c && counts_at side (call h c) step

-- whether an entry is of this item, and counts at a step
abbrev pub is_at : Side → ℕ → ℕ → ℕ × ℕ × ℕ → Bool
is_at side x step e = eqb x e.0 && passes side e.1 step

-- whether an entry is of a lower item, or of this one and counts at a step
abbrev pub is_up_to : Side → ℕ → ℕ → ℕ × ℕ × ℕ → Bool
is_up_to side x step e = ltb e.0 x || is_at side x step e

-- the number of entries of the same item that stand before the one at place i
abbrev pub rank : List (ℕ × ℕ × ℕ) → ℕ → ℕ
rank steps i = i - count_by (is_below (place steps i).0) steps

-- The calls that begin while more puts of x have ended than r, and no more gets of it than r have begun.
abbrev pub IsSpan : List Call → ℕ → ℕ → Presence → Type 0
IsSpan h x r s = (c : ℕ) → c < length h
    → ((s.start ≤ c) × (c < s.gone)) ↔ ((r < puts_ended h x (first_of h c)) × (gets_begun h x (first_of h c) ≤ r))

-- a span from call c or an earlier one on until call `gone`
abbrev pub HasSpan : List Call → ℕ → ℕ → Type 0
HasSpan h c gone = (x : ℕ) × (r : ℕ) × (s : Presence) × IsSpan h x r s × (s.start ≤ c) × (s.gone ≡ gone)

-- a span of this item and rank does not last longer than what stands for the call from which on it is
abbrev pub IsKept : List Call → List ℕ → ℕ → ℕ → Type 0
IsKept h far x r = (s : Presence) × IsSpan h x r s × (s.start < length h → s.gone ≤ slice_index_or far s.start 0)

-- For each call, until when an item is left of those entries below n that are left from that call on.
pub record AreEnds (h : List Call) (puts : List (ℕ × ℕ × ℕ)) (n : ℕ) (far : List ℕ) : Type 0 where
  pub sized : length far ≡ length h
  pub real : (c : ℕ) → c < length h → 0 < slice_index_or far c 0 → HasSpan h c (slice_index_or far c 0)
  pub kept : (i : ℕ) → i < n → IsKept h far (place puts i).0 (rank puts i)

-- some item is certainly left as call c begins
abbrev pub IsSomeLeft : List Call → ℕ → Type 0
IsSomeLeft h c = (x : ℕ) × IsLeft h x (first_of h c)

-- For each call, until when some item is certainly left at each call that begins.
pub record AreFar (h : List Call) (far : List ℕ) : Type 0 where
  pub sized : length far ≡ length h
  pub real : (c d : ℕ) → c < length h → c ≤ d → d < slice_index_or far c 0 → d < length h → IsSomeLeft h d
  pub found : (c : ℕ) → c < length h → IsSomeLeft h c → c < slice_index_or far c 0
