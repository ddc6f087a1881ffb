-- What named calls reach.
use Rattle.std.specs.Prelude.{ℕ, ◌<◌, ◌≤◌, ◌^◌, List, length}
use Rattle.std.specs.List.{All}
use Rattle.kfifo_model.specs.declared.calls.Call.{Call}
use Rattle.kfifo_model.specs.Histories.{EndsBelow, call}
use Rattle.kfifo_draw.specs.declared.part.Reach.{Reach}

-- the reach s has the number of the call d, and its steps
pub record IsReached (h : List Call) (s : Reach) (d : ℕ) : Type 0 where
  pub least : s.least ≤ d
  pub most : d ≤ s.most
  pub first : s.first ≤ (call h d).first
  pub last : (x : ℕ) → x < 2 ^ 64 → s.last < x → EndsBelow (call h d).end x

-- what one reach has, another has too
abbrev pub IsWider : List Call → Reach → Reach → Type 0
IsWider h s t = (d : ℕ) → IsReached h s d → IsReached h t d

-- a reach has each of these calls that the history has
abbrev pub AreReached : List Call → Reach → List ℕ → Type 0
AreReached h s named = All (λ d. d < length h → IsReached h s d) named
