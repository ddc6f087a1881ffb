-- Which calls of a history a picture has, and why there is none.
use Rattle.std.specs.Prelude.{ℕ, ◌≡◌, ◌+◌, ◌<◌, ◌≤◌, ◌⊎◌, ◌↔◌, List, length}
use Rattle.std.specs.List.{Any}
use Rattle.kfifo_draw.specs.declared.picture.TheConstants.{MAX_DRAWN}
use Rattle.kfifo_model.specs.declared.calls.Call.{Call}
use Rattle.kfifo_model.specs.Lists.{EachPair, IsIn}
use Rattle.kfifo_model.specs.Histories.{Precedes, call}
use Rattle.kfifo_model.specs.declared.logged.LoggedCall.{LoggedCall}
use Rattle.kfifo_model.specs.Logged.{line_of}
use Rattle.kfifo_draw.specs.declared.part.Reach.{Reach}
use Rattle.kfifo_draw.specs.Reach.{AreReached, IsReached}
use Rattle.kfifo_draw.specs.declared.part.Part.{Part}
use Rattle.kfifo_draw.specs.declared.part.Part.TheVariants.{All, Calls, Lines, Near}
use Rattle.kfifo_draw.specs.declared.picture.DrawFault.{DrawFault}
use Rattle.kfifo_draw.specs.declared.picture.DrawFault.TheVariants.{TooMany, Memory}

-- the most calls of a picture
abbrev pub most_drawn : ℕ
most_drawn = MAX_DRAWN

-- neither call precedes the other
abbrev pub Overlap : List Call → ℕ → ℕ → Type 0
Overlap h c d = (¬ (Precedes h c d)) × (¬ (Precedes h d c))

-- there are at most so many numbers from one to the other
abbrev pub AreWithin : ℕ → ℕ → ℕ → Type 0
AreWithin around c d = (c ≤ d + around) × (d ≤ c + around)

-- d is a call that c overlaps, or c stands within so many calls of d
abbrev pub IsNear : List Call → ℕ → ℕ → ℕ → Type 0
IsNear h around c d = (d < length h) × (Overlap h c d ⊎ AreWithin around c d)

-- the call c is near none that a reach has
abbrev pub IsFarFrom : List Call → ℕ → ℕ → Reach → Type 0
IsFarFrom h around c s = (d : ℕ) → IsReached h s d → (¬ (IsNear h around c d))

-- the call c belongs to a part of a history
abbrev pub IsInPart : List Call → List LoggedCall → Part → ℕ → Type 0
IsInPart h logged All c = Unit {0}
IsInPart h logged (Calls first last) c = (first ≤ c) × (c ≤ last)
IsInPart h logged (Lines first last) c = (first ≤ line_of logged c) × (line_of logged c ≤ last)
IsInPart h logged (Near named around) c = Any (IsNear h around c) named.now

-- a reach has the calls that a part names
abbrev pub Reaches : List Call → Reach → Part → Type 0
Reaches h s All = Unit {0}
Reaches h s (Calls first last) = Unit {0}
Reaches h s (Lines first last) = Unit {0}
Reaches h s (Near named around) = AreReached h s named.now

-- The numbers below n for which P holds, each once, in ascending order.
pub record AreThoseBelow (P : ℕ → Type 0) (n : ℕ) (numbers : List ℕ) : Type 0 where
  pub rising : EachPair (λ c d. c < d) numbers
  pub each : (c : ℕ) → IsIn c numbers ↔ ((c < n) × P c)

-- P holds of so many numbers below n
abbrev pub CountsThose : (ℕ → Type 0) → ℕ → ℕ → Type 0
CountsThose P n count = (numbers : List ℕ) × AreThoseBelow P n numbers × (length numbers ≡ count)

-- P holds of at most so many of the numbers below n as a picture may have calls
abbrev pub AreFew : (ℕ → Type 0) → ℕ → Type 0
AreFew P n = (count : ℕ) × CountsThose P n count × (count ≤ most_drawn)

-- P holds of more of them
abbrev pub AreMany : (ℕ → Type 0) → ℕ → Type 0
AreMany P n = (count : ℕ) × CountsThose P n count × (most_drawn < count)

-- the calls of a history that belong to a part
abbrev pub AreDrawn : List Call → List LoggedCall → Part → List ℕ → Type 0
AreDrawn h logged part drawn = AreThoseBelow (IsInPart h logged part) (length h) drawn

-- a part of a history is refused for the number of its calls alone, or because an allocation failed
abbrev pub IsDrawFault : List Call → List LoggedCall → Part → DrawFault → Type 0
IsDrawFault h logged part TooMany = AreMany (IsInPart h logged part) (length h)
IsDrawFault h logged part Memory = AreFew (IsInPart h logged part) (length h)

-- the number of a fault, 0 where an allocation failed
abbrev pub draw_fault_number : DrawFault → ℕ
draw_fault_number TooMany = 1
draw_fault_number Memory = 0
