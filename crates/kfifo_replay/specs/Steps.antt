-- What the events of a schedule do, step by step.
use Rattle.std.specs.Prelude.{◌≡◌, List, [], ◌∷◌, Some, Ok}
use Rattle.kfifo_words.specs.declared.shape.Shape.{Shape}
use Rattle.kfifo_machine.specs.declared.event.Event.{Event}
use Rattle.kfifo_machine.specs.Program.{access, accessed}
use Rattle.kfifo_machine.specs.Machine.{World, place_of, step, word_at}
use Rattle.kfifo_machine.specs.Runs.{going}
use Rattle.kfifo_replay.specs.declared.steps.Step.{Step}

-- The event leads the machine from here to there, and this is what it did: the place from which its thread made it, the
-- access that this place makes, the accessed word here and there, and what the event came to
pub record IsStep (shape : Shape) (here : World) (event : Event) (there : World) (s : Step) : Type 0 where
  pub thread : s.thread ≡ event.thread
  pub place : going shape (place_of here event.thread) event.begin ≡ Some s.place
  pub does : s.access ≡ access shape s.place
  pub before : s.before ≡ word_at here (accessed s.access)
  pub after : s.after ≡ word_at there (accessed s.access)
  pub made : step shape here event ≡ Ok (there, s.outcome)

-- Step i is what event i did, from the world that the events before it leave
abbrev pub AreSteps : Shape → World → List Event → List Step → Type 0
AreSteps shape here [] [] = Unit {0}
AreSteps shape here [] (s ∷ steps) = ⊥
AreSteps shape here (event ∷ events) [] = ⊥
AreSteps shape here (event ∷ events) (s ∷ steps) = (there : World) × IsStep shape here event there s
    × AreSteps shape there events steps
