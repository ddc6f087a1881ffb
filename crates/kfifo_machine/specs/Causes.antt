-- Why a call was refused: what it saw in the table, step by step.
use Rattle.std.specs.Prelude.{◌≡◌, ◌≢◌, ℕ, ◌+◌, ◌<◌, ◌⊎◌, ◌==◌, List, [], ◌∷◌, ◌++◌, length, Option, Some, None}
use Rattle.std.specs.Prelude.{if◌then◌else◌}
use Rattle.kfifo_words.specs.declared.shape.Shape.{Shape}
use Rattle.kfifo_words.specs.Words.{value_of, version_of, head_of, tail_of}
use Rattle.kfifo_words.specs.Ring.{next_segment}
use Rattle.kfifo_model.specs.declared.calls.Answer.{Answer}
use Rattle.kfifo_model.specs.declared.calls.Answer.TheVariants.{Full, Worn}
use Rattle.kfifo_machine.specs.declared.place.Running.{Running}
use Rattle.kfifo_machine.specs.declared.place.Running.TheVariants as R
use Rattle.kfifo_machine.specs.declared.place.Access.TheVariants.{Load}
use Rattle.kfifo_machine.specs.declared.event.Begin.{Begin}
use Rattle.kfifo_machine.specs.declared.event.Begin.TheVariants as B
use Rattle.kfifo_machine.specs.declared.event.Event.{Event}
use Rattle.kfifo_machine.specs.Program.{access, scan_index}
use Rattle.kfifo_machine.specs.Machine.{World, place_of, found, step, world_of, after}
use Rattle.kfifo_machine.specs.Runs.{going, CompleteExecution}

-- a step of a call: the place from which it was made, and the word that it found
pub record Look : Type 0 where
  pub running : Running
  pub word : ℕ

-- the look of a thread that goes on from here
abbrev pub looks_from : Shape → World → Option Running → List Look
looks_from shape world None = []
looks_from shape world (Some running) = (record { running = running; word = found shape world running }) ∷ []

-- the looks of a thread in a schedule
abbrev pub looks : Shape → ℕ → Option World → List Event → List Look
looks shape thread world [] = []
looks shape thread None (event ∷ events) = []
looks shape thread (Some world) (event ∷ events) =
    (if event.thread == thread then looks_from shape world (going shape (place_of world event.thread) event.begin) else
    [])
    ++ looks shape thread (world_of (step shape world event)) events

-- the round of a look, told by the rounds that were left, this one among them
abbrev pub round_of : Running → ℕ
round_of (R.Enqueue item start left phase) = left
round_of (R.Dequeue start left phase) = left

-- a look that loaded this word, and found it so
pub record Loads (shape : Shape) (look : Look) (index word : ℕ) : Type 0 where
  pub load : access shape look.running ≡ Load index
  pub finds : look.word ≡ word

-- these looks are of one round
abbrev pub AllOfRound : ℕ → List Look → Type 0
AllOfRound round [] = Unit {0}
AllOfRound round (look ∷ looks) = (round_of look.running ≡ round) × AllOfRound round looks

-- these looks are loads of filled slots of a segment, of one slot after the other from the start, beginning at this
-- offset
abbrev pub AllFilled : Shape → ℕ → ℕ → ℕ → List Look → Type 0
AllFilled shape segment start offset [] = Unit {0}
AllFilled shape segment start offset (look ∷ looks) =
    Loads shape look (scan_index shape segment start offset) look.word × (value_of look.word ≢ 0)
    × AllFilled shape segment start (offset + 1) looks

-- Full: in one round the call loaded the ends word twice as the same word, whose tail's segment is the last before the
-- head's, and between these two it loaded `probes` filled slots of the tail's segment, from the start on; and it loaded
-- that same word again, and between a filled slot of the head's segment
pub record CauseOfFull (shape : Shape) (start : ℕ) (all : List Look) : Type 0 where
  pub earlier : List Look
  pub first : Look
  pub probed : List Look
  pub second : Look
  pub scanned : List Look
  pub filled : Look
  pub third : Look
  pub ends : ℕ
  pub offset : ℕ
  pub all_is : all ≡ earlier ++ (first ∷ (probed ++ (second ∷ (scanned ++ (filled ∷ (third ∷ []))))))
  pub one_round : AllOfRound (round_of first.running) (probed ++ (second ∷ (scanned ++ (filled ∷ (third ∷ [])))))
  pub loads_first : Loads shape first 0 ends
  pub loads_second : Loads shape second 0 ends
  pub loads_third : Loads shape third 0 ends
  pub ring_full : next_segment shape.n (tail_of ends) ≡ head_of ends
  pub probes : length probed ≡ shape.probes
  pub each_filled : AllFilled shape (tail_of ends) start 0 probed
  pub loads_filled : Loads shape filled (scan_index shape (head_of ends) 0 offset) filled.word
  pub is_filled : value_of filled.word ≢ 0

-- a look that loaded an empty slot whose version leaves no room for a put and its undo, or an ends word of the last
-- version
pub record FindsWorn (shape : Shape) (look : Look) : Type 0 where
  pub index : ℕ
  pub loads : Loads shape look index look.word
  pub worn : ((0 < index) × (value_of look.word ≡ 0) × (shape.last < version_of look.word + 2))
      ⊎ ((index ≡ 0) × (version_of look.word ≡ shape.last))

-- Worn: in its last round the call had such a look
pub record CauseOfWorn (shape : Shape) (all : List Look) : Type 0 where
  pub earlier : List Look
  pub look : Look
  pub later : List Look
  pub all_is : all ≡ earlier ++ look ∷ later
  pub last_round : AllOfRound (round_of look.running) later
  pub finds : FindsWorn shape look

-- the start of a call
abbrev pub start_of : Begin → ℕ
start_of (B.Enqueue item start turns) = start
start_of (B.Dequeue start turns) = start
start_of B.Tick = 0
start_of B.Seal = 0

-- the looks of a complete execution
abbrev pub looks_of : (shape : Shape) (threads thread : ℕ) (call : Begin) (answer : Answer) (old new : List Event)
    → CompleteExecution shape threads thread call answer old new → List Look
looks_of shape threads thread call answer old new whole =
    looks shape thread (after shape threads old) (whole.between ++ whole.last ∷ [])

-- a call returns Full and Worn only with their causes, in every schedule
abbrev pub FullHasCause : Shape → ℕ → Type 0
FullHasCause shape threads = (thread : ℕ) (call : Begin) (old new : List Event)
    (whole : CompleteExecution shape threads thread call Full old new)
    → CauseOfFull shape (start_of call) (looks_of shape threads thread call Full old new whole)

abbrev pub WornHasCause : Shape → ℕ → Type 0
WornHasCause shape threads = (thread : ℕ) (call : Begin) (old new : List Event)
    (whole : CompleteExecution shape threads thread call Worn old new)
    → CauseOfWorn shape (looks_of shape threads thread call Worn old new whole)
