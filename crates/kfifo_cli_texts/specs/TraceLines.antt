-- The lines of a trace: what each event of a schedule did.
use Rattle.std.specs.Prelude.{ℕ, ◌+◌, ◌-◌, ◌/◌, ◌%◌, ◌==◌, nat_lt, if◌then◌else◌, List, [], ◌∷◌, ◌++◌, codes, decimal}
use Rattle.kfifo_words.specs.Words.{value_of, version_of, head_of, tail_of}
use Rattle.kfifo_machine.specs.declared.event.Outcome.{Outcome}
use Rattle.kfifo_machine.specs.declared.event.Outcome.TheVariants.{Went, Ended}
use Rattle.kfifo_machine.specs.declared.place.Access.{Access}
use Rattle.kfifo_machine.specs.declared.place.Access.TheVariants.{Load, Exchange}
use Rattle.kfifo_machine.specs.declared.place.EnqueuePhase.{EnqueuePhase}
use Rattle.kfifo_machine.specs.declared.place.EnqueuePhase.TheVariants as E
use Rattle.kfifo_machine.specs.declared.place.DequeuePhase.{DequeuePhase}
use Rattle.kfifo_machine.specs.declared.place.DequeuePhase.TheVariants as D
use Rattle.kfifo_machine.specs.declared.place.Running.{Running}
use Rattle.kfifo_machine.specs.declared.place.Running.TheVariants as R
use Rattle.kfifo_replay.specs.declared.steps.Step.{Step}
use Rattle.kfifo_model.specs.RecordTexts.{line}
use Rattle.kfifo_cli_texts.specs.Lines.{answer_text}

-- the blanks before the place of an event, in a field of five columns
abbrev pub blanks_before : ℕ → List ℕ
blanks_before place = if nat_lt place 10 then codes "    " else if nat_lt place 100 then codes "   "
    else if nat_lt place 1000 then codes "  " else if nat_lt place 10000 then codes " " else []

-- the blanks behind the number of a thread, in a field of two columns
abbrev pub blanks_behind : ℕ → List ℕ
blanks_behind thread = if nat_lt thread 10 then codes " " else []

-- the name of a step, in a field of eleven columns
abbrev pub enqueue_step : EnqueuePhase → List ℕ
enqueue_step E.LoadEnds = codes "LoadEnds   "
enqueue_step (E.ScanTail ends offset) = codes "ScanTail   "
enqueue_step (E.Recheck ends found) = codes "Recheck    "
enqueue_step (E.Put ends index empty) = codes "Put        "
enqueue_step (E.ReloadSlot ends index filled) = codes "ReloadSlot "
enqueue_step (E.ReloadEnds ends index filled) = codes "ReloadEnds "
enqueue_step (E.HoldHead ends index filled held) = codes "HoldHead   "
enqueue_step (E.Undo index filled worn) = codes "Undo       "
enqueue_step (E.ScanHead ends offset) = codes "ScanHead   "
enqueue_step (E.ConfirmFull ends) = codes "ConfirmFull"
enqueue_step (E.MoveHead ends) = codes "MoveHead   "
enqueue_step (E.MoveTail ends) = codes "MoveTail   "

abbrev pub dequeue_step : DequeuePhase → List ℕ
dequeue_step D.LoadEnds = codes "LoadEnds   "
dequeue_step (D.ScanHead ends offset) = codes "ScanHead   "
dequeue_step (D.Recheck ends found) = codes "Recheck    "
dequeue_step (D.MoveTail ends index filled) = codes "MoveTail   "
dequeue_step (D.Take ends index filled) = codes "Take       "
dequeue_step (D.MoveHead ends) = codes "MoveHead   "

-- the call and the step that a thread at this place makes
abbrev pub step_text : Running → List ℕ
step_text (R.Enqueue item start left phase) = codes "enqueue " ++ enqueue_step phase
step_text (R.Dequeue start left phase) = codes "dequeue " ++ dequeue_step phase

-- which word of the table has this index: the ends, or a slot by its segment of k slots and its number there
abbrev pub target_text : ℕ → ℕ → List ℕ
target_text k index = if index == 0 then codes "ends"
    else codes "slot " ++ (decimal ((index - 1) / k) ++ (codes "." ++ decimal ((index - 1) % k)))

-- what stands in a word: head, tail and version of the ends, value and version of a slot
abbrev pub word_text : ℕ → ℕ → List ℕ
word_text index word = if index == 0
    then codes "(" ++ (decimal (head_of word)
    ++ (codes "," ++ (decimal (tail_of word) ++ (codes "," ++ (decimal (version_of word) ++ codes ")")))))
    else codes "(" ++ (decimal (value_of word) ++ (codes "," ++ (decimal (version_of word) ++ codes ")")))

-- an exchange is won where it finds the word that it exchanges, and else lost to the one that it finds
abbrev pub result_text : ℕ → ℕ → ℕ → List ℕ
result_text index from found = if found == from then codes " won" else codes " lost to " ++ word_text index found

-- what a step did that found this word
abbrev pub access_text : ℕ → Access → ℕ → List ℕ
access_text k (Load index) found = codes "reads " ++ (target_text k index ++ (codes " " ++ word_text index found))
access_text k (Exchange index from to) found =
    codes "exchanges " ++ (target_text k index ++ (codes " " ++ (word_text index from
    ++ (codes " to " ++ (word_text index to ++ result_text index from found)))))

-- the answer, where the call ends
abbrev pub outcome_text : Outcome → List ℕ
outcome_text Went = []
outcome_text (Ended answer) = codes " and returns " ++ answer_text answer

-- the event at this place, and the thread that made it
abbrev pub event_text : ℕ → ℕ → List ℕ
event_text place thread = blanks_before place
    ++ (decimal place ++ (codes " thread " ++ (decimal thread ++ (blanks_behind thread ++ codes " "))))

-- the line of the event at this place
abbrev pub step_line : ℕ → ℕ → Step → List ℕ
step_line k place s = line (event_text place s.thread
    ++ (step_text s.place ++ (codes " " ++ (access_text k s.access s.before ++ outcome_text s.outcome))))

-- The lines of events in turn, the first of them at this place
abbrev pub trace_lines : ℕ → ℕ → List Step → List ℕ
trace_lines k place [] = []
trace_lines k place (s ∷ steps) = step_line k place s ++ trace_lines k (place + 1) steps
