-- What calls of a source and a sink do.
use Rattle.std.specs.Prelude.{ℕ, zero, suc, ◌≡◌, ◌+◌, ◌-◌, ◌^◌, ◌<◌, List, ◌++◌, Option, Result, Ok, Err}
use Rattle.std.specs.Io.KnownBytes.{Appends}

-- so many calls can be counted
abbrev pub countable : ℕ
countable = 2 ^ 64 - 1

-- one more call failed, where so many can be counted
abbrev pub CountsOne : ℕ → ℕ → Type 0
CountsOne before after = before < countable → after ≡ before + 1

-- a read fails where it returns an error
abbrev pub CountsRead : {E : Type 0} → Result ℕ E → ℕ → ℕ → Type 0
CountsRead (Ok n) before after = after ≡ before
CountsRead (Err e) before after = CountsOne before after

-- a write fails where it returns an error, or takes no byte though there are some
abbrev pub CountsWrite : {E : Type 0} → Result ℕ E → ℕ → ℕ → ℕ → Type 0
CountsWrite (Ok zero) offered before after = (0 < offered → CountsOne before after) × (offered ≡ 0 → after ≡ before)
CountsWrite (Ok (suc n)) offered before after = after ≡ before
CountsWrite (Err e) offered before after = CountsOne before after

-- a beginning of the text was appended
abbrev pub AppendsPart : Option (List ℕ) → Option (List ℕ) → List ℕ → Type 0
AppendsPart before after text = (written : List ℕ) × (rest : List ℕ) × (text ≡ written ++ rest)
    × Appends before after written
