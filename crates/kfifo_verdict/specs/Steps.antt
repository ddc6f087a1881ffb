-- The calls of a side in a list: each with its item, with what counts of it, and with its number.
use Rattle.std.specs.Prelude.{ℕ, ◌≡◌, ◌&&◌, eqb, leb, ltb, false, Bool, List, Option, Some, None, length}
use Rattle.std.specs.List.{count_by}
use Rattle.std.specs.List.Sorted.{IsSortedBy}
use Rattle.kfifo_model.specs.declared.calls.Call.{Call}
use Rattle.kfifo_model.specs.Histories.{call}
use Rattle.kfifo_model.specs.Overtaking.{ends_below}
use Rattle.kfifo_model.specs.declared.effects.Side.{Side}
use Rattle.kfifo_model.specs.declared.effects.Side.TheVariants.{In, Out}
use Rattle.kfifo_verdict.specs.declared.steps.Key.{Key}
use Rattle.kfifo_verdict.specs.declared.steps.Key.TheVariants.{Outer, Inner, Number}
use Rattle.kfifo_verdict.specs.Evidence.{count_below, last_step}
use Rattle.kfifo_verdict.specs.Finding.{has_item}
use Rattle.kfifo_verdict.specs.Plain.{lower}

-- the outer step of a call: of a put its first, of a get its last
abbrev pub outer_step : Side → Call → ℕ
outer_step In c = c.first
outer_step Out c = last_step c.end

-- whether a call counts at a step by its inner one: a put that ended before it, a get that began by it
abbrev pub counts_at : Side → Call → ℕ → Bool
counts_at In c step = ends_below c.end step
counts_at Out c step = leb c.first step

-- whether call n counts at t: by its outer step up to t, by its inner step, or by its number below t
abbrev pub counts : Key → Side → ℕ → Call → ℕ → Bool
counts Outer side n c t = leb (outer_step side c) t
counts Inner side n c t = counts_at side c t
counts Number side n c t = ltb n t

-- whether an inner step is before another step, of a get also at it
abbrev pub passes : Side → ℕ → ℕ → Bool
passes In s step = ltb s step
passes Out s step = leb s step

-- whether an entry with this key counts at t
abbrev pub is_within : Key → Side → ℕ → ℕ → Bool
is_within Outer side s t = leb s t
is_within Inner side s t = passes side s t
is_within Number side s t = ltb s t

-- the key of call n: its entry counts where the call does; or none, where the call never counts
abbrev pub IsKey : Key → Side → ℕ → Call → Option ℕ → Type 0
IsKey key side n c (Some s) = (t : ℕ) → counts key side n c t ≡ is_within key side s t
IsKey key side n c None = (t : ℕ) → counts key side n c t ≡ false

-- whether call c is one of the side that has item x, and counts at t
abbrev pub has_key : Key → List Call → Side → ℕ → ℕ → ℕ → Bool
has_key key h side x t c = has_item side h x c && counts key side c (call h c) t

-- the same of an entry: an item, the key of a call that has it, and the number of the call
abbrev pub is_keyed : Key → Side → ℕ → ℕ → ℕ × ℕ × ℕ → Bool
is_keyed key side x t e = eqb x e.0 && is_within key side e.1 t

-- among the entries as many of each item count at each t as among the calls below n
abbrev pub AreKeyed : Key → List Call → Side → ℕ → List (ℕ × ℕ × ℕ) → Type 0
AreKeyed key h side n steps =
    (x t : ℕ) → count_by (is_keyed key side x t) steps ≡ count_below (has_key key h side x t) n

-- the entries of all calls of a side, sorted
pub record AreSorted (key : Key) (h : List Call) (side : Side) (steps : List (ℕ × ℕ × ℕ)) : Type 0 where
  pub counted : AreKeyed key h side (length h) steps
  pub sorted : IsSortedBy lower steps

-- whether an entry is of a lower item
abbrev pub is_below : ℕ → ℕ × ℕ × ℕ → Bool
is_below x e = ltb e.0 x
