-- What is printed of calls that are made one after the other on a new queue with one pass.
use Rattle.std.specs.Prelude.{◌≡◌, ℕ, zero, suc, List, [], ◌∷◌, ◌++◌, Some}
use Rattle.kfifo_words.specs.declared.shape.Shape.{Shape}
use Rattle.kfifo_words.specs.Ring.{slot_at}
use Rattle.kfifo_model.specs.declared.calls.Answer.{Answer}
use Rattle.kfifo_machine.specs.declared.event.Begin.{Begin}
use Rattle.kfifo_machine.specs.declared.event.Begin.TheVariants.{Enqueue, Dequeue, Tick, Seal}
use Rattle.kfifo_machine.specs.declared.event.Event.{Event}
use Rattle.kfifo_machine.specs.Machine.{World, after, word_at}
use Rattle.kfifo_machine.specs.Runs.{CompleteExecution}
use Rattle.kfifo_live.specs.Pass.{OpenQueue, PassView, IsPassOf}
use Rattle.kfifo_cli_texts.specs.Lines.{enqueue_line, dequeue_line, ends_lines, slot_line}

-- the pass is the only one of its queue
pub record IsAlone (queue : OpenQueue) (pass : PassView) : Type 0 where
  pub of : IsPassOf queue pass
  pub one : queue.opened.threads ≡ 1
  pub first : pass.thread ≡ 0

-- the line of a call that returned this
abbrev pub call_line : Begin → Answer → List ℕ
call_line (Enqueue item start turns) answer = enqueue_line item answer
call_line (Dequeue start turns) answer = dequeue_line answer
call_line Tick answer = []
call_line Seal answer = []

-- Calls that were made in turn by thread 0 of a machine with one thread, each as one complete execution with its
-- answer: the schedule has grown from old to new, and the lines of the calls are this text
abbrev pub RunInTurn : Shape → List Begin → List Answer → List Event → List Event → List ℕ → Type 0
RunInTurn shape [] [] old new text = (new ≡ old) × (text ≡ [])
RunInTurn shape [] (answer ∷ answers) old new text = ⊥
RunInTurn shape (call ∷ calls) [] old new text = ⊥
RunInTurn shape (call ∷ calls) (answer ∷ answers) old new text = (mid : List Event) × (more : List ℕ)
    × CompleteExecution shape 1 0 call answer old mid
    × RunInTurn shape calls answers mid new more × (text ≡ call_line call answer ++ more)

-- the lines of the first slots of a segment
abbrev pub slot_lines : ℕ → World → ℕ → ℕ → List ℕ
slot_lines k world segment zero = []
slot_lines k world segment (suc slot) =
    slot_lines k world segment slot ++ slot_line segment slot (word_at world (slot_at k segment slot))

-- the lines of all slots of the first segments
abbrev pub segment_lines : ℕ → World → ℕ → List ℕ
segment_lines k world zero = []
segment_lines k world (suc segment) = segment_lines k world segment ++ slot_lines k world segment k

-- the lines of the ends word and of all slots
abbrev pub world_lines : Shape → World → List ℕ
world_lines shape world = ends_lines (word_at world 0) ++ segment_lines shape.k world shape.n

-- The text of a script: the calls run in turn from the opening, each with its answer, and the words are those that
-- this schedule leaves
pub record IsReport (shape : Shape) (calls : List Begin) (text : List ℕ) : Type 0 where
  pub answers : List Answer
  pub events : List Event
  pub world : World
  pub lines : List ℕ
  pub runs : RunInTurn shape calls answers [] events lines
  pub reached : after shape 1 events ≡ Some world
  pub text_is : text ≡ lines ++ world_lines shape world
