-- How the entries of each item are counted up to a step.
use Rattle.std.specs.Prelude.{ℕ, ◌&&◌, ◌||◌, eqb, leb, ltb, Bool, List}
use Rattle.kfifo_model.specs.declared.calls.Call.{Call}
use Rattle.kfifo_model.specs.Histories.{call}
use Rattle.kfifo_model.specs.declared.effects.Side.{Side}
use Rattle.kfifo_verdict.specs.Finding.{has_item}
use Rattle.kfifo_verdict.specs.Steps.{outer_step}

-- whether call c is one of the side that has item x, and its outer step is no later than this one
abbrev pub has_by : Side → List Call → ℕ → ℕ → ℕ → Bool
has_by side h x step c = has_item side h x c && leb (outer_step side (call h c)) step

-- the same of an entry
abbrev pub is_by : ℕ → ℕ → ℕ × ℕ × ℕ → Bool
is_by x step e = eqb x e.0 && leb e.1 step

-- whether an entry is of a lower item, or of this one and its step no later than this one
abbrev pub is_until : ℕ → ℕ → ℕ × ℕ × ℕ → Bool
is_until x step e = ltb e.0 x || is_by x step e
