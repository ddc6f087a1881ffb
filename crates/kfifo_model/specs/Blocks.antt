-- Rivals in blocks, with what is kept of each block beside them.
use Rattle.std.specs.Prelude.{ℕ, ◌≤◌, List, map, All, IsPermutation}
use Rattle.std.specs.List.Sorted.{IsNonDecreasingBy}
use Rattle.kfifo_model.specs.declared.rivals.Rival.{Rival}

-- each of the rivals' items was put between these steps
abbrev pub IsSpan : List Rival → ℕ → ℕ → Type 0
IsSpan rivals earliest latest = All (λ r. (earliest ≤ r.put_first) × (r.put_first ≤ latest)) rivals

-- what is kept of a block: the span, and the last steps of its rivals in order
pub record IsBlock (rivals : List Rival) (earliest latest : ℕ) (ends : List ℕ) : Type 0 where
  pub span : IsSpan rivals earliest latest
  pub ends_are : IsPermutation (map (λ r. r.got_last) rivals) ends
  pub sorted : IsNonDecreasingBy (λ (n : ℕ). n) ends
