-- Texts of decimal digits.
use Rattle.std.specs.Prelude.{ℕ, List, EachIndex, slice_index}
use Rattle.std.specs.Int.{IsInRange}

-- each byte is a decimal digit
abbrev pub IsDigits : List ℕ → Type 0
IsDigits text = EachIndex text (λ i. IsInRange 48 57 (slice_index text i))
