-- The words that records and logs have for operations and answers.
use Rattle.std.specs.Prelude.{ℕ, ◌≡◌, ◌≢◌, List, codes}
use Rattle.kfifo_model.specs.declared.calls.Answer.{Answer}
use Rattle.kfifo_model.specs.declared.calls.Answer.TheVariants.{Done, Full, Got, Empty, Busy, Worn}
use Rattle.kfifo_model.specs.declared.calls.Op.{Op}
use Rattle.kfifo_model.specs.declared.calls.Op.TheVariants.{Enqueue, Dequeue}
use Rattle.kfifo_model.specs.declared.spellings.OpWord.{OpWord}
use Rattle.kfifo_model.specs.declared.spellings.OpWord.TheVariants.{Enq, Deq}
use Rattle.kfifo_model.specs.declared.spellings.AnswerWord.{AnswerWord}
use Rattle.kfifo_model.specs.declared.spellings.AnswerWord.TheVariants as words

-- the word of an operation, whatever its item
abbrev pub op_word : Op → List ℕ
op_word (Enqueue item) = codes "enq"
op_word Dequeue = codes "deq"

-- the word of an answer, whatever its item
abbrev pub answer_word : Answer → List ℕ
answer_word Done = codes "done"
answer_word Full = codes "full"
answer_word (Got item) = codes "got"
answer_word Empty = codes "empty"
answer_word Busy = codes "busy"
answer_word Worn = codes "worn"

abbrev pub op_text : OpWord → List ℕ
op_text Enq = op_word (Enqueue 0)
op_text Deq = op_word Dequeue

-- this text names this answer
abbrev pub IsAnswerWord : List ℕ → AnswerWord → Type 0
IsAnswerWord t words.Done = t ≡ answer_word Done
IsAnswerWord t words.Full = t ≡ answer_word Full
IsAnswerWord t words.Got = t ≡ answer_word (Got 0)
IsAnswerWord t words.Empty = t ≡ answer_word Empty
IsAnswerWord t words.Busy = t ≡ answer_word Busy
IsAnswerWord t words.Worn = t ≡ answer_word Worn
IsAnswerWord t words.Other = (t ≢ answer_word Done) × (t ≢ answer_word Full)
    × (t ≢ answer_word (Got 0))
    × (t ≢ answer_word Empty)
    × (t ≢ answer_word Busy)
    × (t ≢ answer_word Worn)
