-- Whether the items of a history repeat.
use Rattle.std.specs.Prelude.{ℕ, ◌≡◌, ◌⊎◌, List, [], codes}
use Rattle.kfifo_model.specs.declared.calls.Call.{Call}
use Rattle.kfifo_model.specs.Measures.{HasDistinctItems}

-- what is said of a history where two calls put one item or two got one, and nothing elsewhere
abbrev pub IsRepeatNote : List Call → List ℕ → Type 0
IsRepeatNote h note = ((note ≡ []) × HasDistinctItems h) ⊎ ((note ≡ codes "; items repeat") × (HasDistinctItems h → ⊥))
