-- The two programs of Kirsch, Lippautz and Payer's bounded k-FIFO queue (2013), a step at a time: which atomic step
-- comes next at each place in a call, and what the thread does with the word that it found.
use Rattle.std.specs.Prelude.{ℕ, ◌+◌, ◌-◌, ◌%◌, ◌==◌, ◌&&◌, not, nat_lt, nat_le, if◌then◌else◌, true, false}
use Rattle.kfifo_words.specs.declared.shape.Shape.{Shape}
use Rattle.kfifo_words.specs.Words.{slot_word, value_of, version_of, ends_word, head_of, tail_of}
use Rattle.kfifo_words.specs.Ring.{next_segment, distance, slot_at}
use Rattle.kfifo_model.specs.declared.calls.Answer.TheVariants.{Done, Full, Got, Empty, Busy, Worn}
use Rattle.kfifo_machine.specs.declared.place.Found.TheVariants.{Slot, Nothing}
use Rattle.kfifo_machine.specs.declared.place.EnqueuePhase.{EnqueuePhase}
use Rattle.kfifo_machine.specs.declared.place.EnqueuePhase.TheVariants as E
use Rattle.kfifo_machine.specs.declared.place.DequeuePhase.{DequeuePhase}
use Rattle.kfifo_machine.specs.declared.place.DequeuePhase.TheVariants as D
use Rattle.kfifo_machine.specs.declared.place.Running.{Running}
use Rattle.kfifo_machine.specs.declared.place.Running.TheVariants as R
use Rattle.kfifo_machine.specs.declared.place.Access.{Access}
use Rattle.kfifo_machine.specs.declared.place.Access.TheVariants.{Load, Exchange}
use Rattle.kfifo_machine.specs.declared.place.Next.{Next}
use Rattle.kfifo_machine.specs.declared.place.Next.TheVariants.{Goes, Answers}

-- the slot at which a scan of a segment stands
unfoldable pub scan_index : Shape → ℕ → ℕ → ℕ → ℕ
scan_index shape segment start offset = slot_at shape.k segment ((start + offset) % shape.k)

-- the ends' word with the head moved on, with the tail moved on, and with the version alone raised
abbrev pub head_moved : Shape → ℕ → ℕ
head_moved shape ends = ends_word (next_segment shape.n (head_of ends)) (tail_of ends) (version_of ends + 1)

abbrev pub tail_moved : Shape → ℕ → ℕ
tail_moved shape ends = ends_word (head_of ends) (next_segment shape.n (tail_of ends)) (version_of ends + 1)

abbrev pub head_held : ℕ → ℕ
head_held ends = ends_word (head_of ends) (tail_of ends) (version_of ends + 1)

-- the ends' word with its last version: no end moves after it
abbrev pub sealed_word : Shape → ℕ → ℕ
sealed_word shape ends = ends_word (head_of ends) (tail_of ends) shape.last

-- a slot's word filled with an item, and emptied
abbrev pub filled_with : ℕ → ℕ → ℕ
filled_with item empty = slot_word item (version_of empty + 1)

abbrev pub emptied : ℕ → ℕ
emptied filled = slot_word 0 (version_of filled + 1)

-- the step that an enqueue makes next
abbrev pub enqueue_access : Shape → ℕ → ℕ → EnqueuePhase → Access
enqueue_access shape item start E.LoadEnds = Load 0
enqueue_access shape item start (E.ScanTail ends offset) = Load (scan_index shape (tail_of ends) start offset)
enqueue_access shape item start (E.Recheck ends found) = Load 0
enqueue_access shape item start (E.Put ends index empty) = Exchange index empty (filled_with item empty)
enqueue_access shape item start (E.ReloadSlot ends index filled) = Load index
enqueue_access shape item start (E.ReloadEnds ends index filled) = Load 0
enqueue_access shape item start (E.HoldHead ends index filled held) = Exchange 0 held (head_held held)
enqueue_access shape item start (E.Undo index filled worn) = Exchange index filled (emptied filled)
enqueue_access shape item start (E.ScanHead ends offset) = Load (scan_index shape (head_of ends) 0 offset)
enqueue_access shape item start (E.ConfirmFull ends) = Load 0
enqueue_access shape item start (E.MoveHead ends) = Exchange 0 ends (head_moved shape ends)
enqueue_access shape item start (E.MoveTail ends) = Exchange 0 ends (tail_moved shape ends)

abbrev pub dequeue_access : Shape → ℕ → DequeuePhase → Access
dequeue_access shape start D.LoadEnds = Load 0
dequeue_access shape start (D.ScanHead ends offset) = Load (scan_index shape (head_of ends) start offset)
dequeue_access shape start (D.Recheck ends found) = Load 0
dequeue_access shape start (D.MoveTail ends index filled) = Exchange 0 ends (tail_moved shape ends)
dequeue_access shape start (D.Take ends index filled) = Exchange index filled (emptied filled)
dequeue_access shape start (D.MoveHead ends) = Exchange 0 ends (head_moved shape ends)

-- the step that a thread at this place makes next
abbrev pub access : Shape → Running → Access
access shape (R.Enqueue item start left phase) = enqueue_access shape item start phase
access shape (R.Dequeue start left phase) = dequeue_access shape start phase

-- the round ends: the next one begins, or the call returns Busy
abbrev pub enqueue_again : ℕ → ℕ → ℕ → Next
enqueue_again item start left = if left == 1 then Answers Busy else Goes (R.Enqueue item start (left - 1) E.LoadEnds)

abbrev pub dequeue_again : ℕ → ℕ → Next
dequeue_again start left = if left == 1 then Answers Busy else Goes (R.Dequeue start (left - 1) D.LoadEnds)

-- what an enqueue does with the word that it found
abbrev pub enqueue_advance : Shape → ℕ → ℕ → ℕ → EnqueuePhase → ℕ → Next
enqueue_advance shape item start left E.LoadEnds word = Goes (R.Enqueue item start left (E.ScanTail word 0))
enqueue_advance shape item start left (E.ScanTail ends offset) word =
    if value_of word == 0
    then Goes (R.Enqueue item start left (E.Recheck ends (Slot (scan_index shape (tail_of ends) start offset) word)))
    else if offset + 1 == shape.probes
    then Goes (R.Enqueue item start left (E.Recheck ends Nothing))
    else Goes (R.Enqueue item start left (E.ScanTail ends (offset + 1)))
enqueue_advance shape item start left (E.Recheck ends (Slot index seen)) word =
    if not (word == ends) then enqueue_again item start left
    else if nat_lt shape.last (version_of seen + 2) then Answers Worn
    else Goes (R.Enqueue item start left (E.Put ends index seen))
enqueue_advance shape item start left (E.Recheck ends Nothing) word =
    if not (word == ends) then enqueue_again item start left
    else if next_segment shape.n (tail_of ends) == head_of ends
    then Goes (R.Enqueue item start left (E.ScanHead ends 0))
    else if version_of ends == shape.last then Answers Worn
    else Goes (R.Enqueue item start left (E.MoveTail ends))
enqueue_advance shape item start left (E.Put ends index empty) word =
    if word == empty
    then Goes (R.Enqueue item start left (E.ReloadSlot ends index (filled_with item empty)))
    else enqueue_again item start left
enqueue_advance shape item start left (E.ReloadSlot ends index filled) word =
    if word == filled then Goes (R.Enqueue item start left (E.ReloadEnds ends index filled)) else Answers Done
enqueue_advance shape item start left (E.ReloadEnds ends index filled) word =
    if tail_of ends == head_of word
    then (if version_of word == shape.last
    then Goes (R.Enqueue item start left (E.Undo index filled true))
    else Goes (R.Enqueue item start left (E.HoldHead ends index filled word)))
    else if nat_le (distance shape.n (head_of word) (tail_of ends)) (distance shape.n (head_of word) (tail_of word))
    then Answers Done
    else Goes (R.Enqueue item start left (E.Undo index filled false))
enqueue_advance shape item start left (E.HoldHead ends index filled held) word =
    if word == held then Answers Done
    else if shape.holds_again && not (left == 1)
    then Goes (R.Enqueue item start (left - 1) (E.ReloadSlot ends index filled))
    else Goes (R.Enqueue item start left (E.Undo index filled false))
enqueue_advance shape item start left (E.Undo index filled worn) word =
    if not (word == filled) then Answers Done
    else if worn then Answers Worn
    else enqueue_again item start left
enqueue_advance shape item start left (E.ScanHead ends offset) word =
    if not (value_of word == 0) then Goes (R.Enqueue item start left (E.ConfirmFull ends))
    else if not (offset + 1 == shape.k) then Goes (R.Enqueue item start left (E.ScanHead ends (offset + 1)))
    else if version_of ends == shape.last then Answers Worn
    else Goes (R.Enqueue item start left (E.MoveHead ends))
enqueue_advance shape item start left (E.ConfirmFull ends) word =
    if word == ends then Answers Full else enqueue_again item start left
enqueue_advance shape item start left (E.MoveHead ends) word = enqueue_again item start left
enqueue_advance shape item start left (E.MoveTail ends) word = enqueue_again item start left

-- what a dequeue does with the word that it found
abbrev pub dequeue_advance : Shape → ℕ → ℕ → DequeuePhase → ℕ → Next
dequeue_advance shape start left D.LoadEnds word = Goes (R.Dequeue start left (D.ScanHead word 0))
dequeue_advance shape start left (D.ScanHead ends offset) word =
    if not (value_of word == 0)
    then Goes (R.Dequeue start left (D.Recheck ends (Slot (scan_index shape (head_of ends) start offset) word)))
    else if offset + 1 == shape.k
    then Goes (R.Dequeue start left (D.Recheck ends Nothing))
    else Goes (R.Dequeue start left (D.ScanHead ends (offset + 1)))
dequeue_advance shape start left (D.Recheck ends (Slot index seen)) word =
    if not (word == ends) then dequeue_again start left
    else if not (tail_of ends == head_of ends)
    then Goes (R.Dequeue start left (D.Take ends index seen))
    else if version_of ends == shape.last then Answers Worn
    else Goes (R.Dequeue start left (D.MoveTail ends index seen))
dequeue_advance shape start left (D.Recheck ends Nothing) word =
    if not (word == ends) then dequeue_again start left
    else if tail_of ends == head_of ends then Answers Empty
    else if version_of ends == shape.last then Answers Worn
    else Goes (R.Dequeue start left (D.MoveHead ends))
dequeue_advance shape start left (D.MoveTail ends index filled) word =
    if word == ends
    then Goes (R.Dequeue start left (D.Take ends index filled))
    else dequeue_again start left
dequeue_advance shape start left (D.Take ends index filled) word =
    if word == filled then Answers (Got (value_of filled)) else dequeue_again start left
dequeue_advance shape start left (D.MoveHead ends) word = dequeue_again start left

-- what a thread at this place does with the word that its step found
abbrev pub advance : Shape → Running → ℕ → Next
advance shape (R.Enqueue item start left phase) word = enqueue_advance shape item start left phase word
advance shape (R.Dequeue start left phase) word = dequeue_advance shape start left phase word

-- the index of the word that a step touches
abbrev pub accessed : Access → ℕ
accessed (Load index) = index
accessed (Exchange index from to) = index
