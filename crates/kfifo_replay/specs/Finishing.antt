-- The picks with which threads go on to the ends of their scripts.
use Rattle.std.specs.Prelude.{◌≡◌, ◌≢◌, ℕ, zero, suc, ◌⊎◌, List, [], ◌++◌, replicate}
use Rattle.kfifo_words.specs.declared.shape.Shape.{Shape}
use Rattle.kfifo_machine.specs.declared.event.Begin.{Begin}
use Rattle.kfifo_replay.specs.Player.{Player, StandsFor, IsRefused}

-- after earlier picks a thread makes all events that its script still has: so many picks of it, after which one more is
-- refused
pub record GoesToEnd (shape : Shape) (scripts : List (List Begin)) (thread : ℕ) (earlier own : List ℕ) : Type 0 where
  pub count : ℕ
  pub picks : own ≡ replicate count thread
  pub ended : IsRefused shape scripts (earlier ++ own) thread

-- a thread does so, unless it is the stopped one, which makes no event
abbrev pub GoesUnless : ℕ → Shape → List (List Begin) → ℕ → List ℕ → List ℕ → Type 0
GoesUnless stopped shape scripts thread earlier own = ((thread ≡ stopped) × (own ≡ []))
    ⊎ ((thread ≢ stopped) × GoesToEnd shape scripts thread earlier own)

-- By rising number each thread below this one does so
abbrev pub Finishes : ℕ → Shape → List (List Begin) → ℕ → List ℕ → List ℕ → Type 0
Finishes stopped shape scripts zero earlier more = more ≡ []
Finishes stopped shape scripts (suc thread) earlier more =
    (before : List ℕ) × (own : List ℕ) × (more ≡ before ++ own) × Finishes stopped shape scripts thread earlier before
    × GoesUnless stopped shape scripts thread (earlier ++ before) own

-- such picks of a thread, or of all threads below a number, were made
abbrev pub Ended : Shape → List (List Begin) → ℕ → List ℕ → Player → Type 0
Ended shape scripts thread earlier p = (own : List ℕ) × GoesToEnd shape scripts thread earlier own
    × StandsFor shape scripts (earlier ++ own) p

abbrev pub Finished : ℕ → Shape → List (List Begin) → ℕ → List ℕ → Player → Type 0
Finished stopped shape scripts threads earlier p = (more : List ℕ) × Finishes stopped shape scripts threads earlier more
    × StandsFor shape scripts (earlier ++ more) p
