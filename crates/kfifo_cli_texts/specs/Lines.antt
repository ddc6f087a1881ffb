-- The lines that are printed for calls and for words of the table.
use Rattle.std.specs.Prelude.{ℕ, List, ◌++◌, codes, decimal}
use Rattle.kfifo_model.specs.declared.calls.Answer.{Answer}
use Rattle.kfifo_model.specs.declared.calls.Answer.TheVariants.{Got}
use Rattle.kfifo_model.specs.Words.{answer_word}
use Rattle.kfifo_model.specs.RecordTexts.{line}
use Rattle.kfifo_words.specs.Words.{value_of, version_of, head_of, tail_of}

-- an answer as it is printed: its word, and behind it the item that it gives
abbrev pub answer_text : Answer → List ℕ
answer_text (Got item) = answer_word (Got item) ++ (codes " " ++ decimal item)
answer_text answer = answer_word answer

abbrev pub enqueue_line : ℕ → Answer → List ℕ
enqueue_line item answer = line (codes "enqueue " ++ decimal item ++ codes ": " ++ answer_text answer)

abbrev pub dequeue_line : Answer → List ℕ
dequeue_line answer = line (codes "dequeue: " ++ answer_text answer)

-- the lines of the head and of the tail in an ends word
abbrev pub ends_lines : ℕ → List ℕ
ends_lines ends = line (codes "head " ++ decimal (head_of ends) ++ codes " v" ++ decimal (version_of ends))
    ++ line (codes "tail " ++ decimal (tail_of ends) ++ codes " v" ++ decimal (version_of ends))

-- the line of a slot and its word
abbrev pub slot_line : ℕ → ℕ → ℕ → List ℕ
slot_line segment slot word = line (codes "slot " ++ decimal segment ++ codes "." ++ decimal slot
    ++ codes " " ++ decimal (value_of word) ++ codes " v" ++ decimal (version_of word))
