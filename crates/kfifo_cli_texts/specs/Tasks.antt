-- How tasks are written on the command line, and how finished ones are printed.
use Rattle.std.specs.Prelude.{◌≡◌, ℕ, ◌^◌, ◌<◌, List, ◌∷◌, ◌++◌, codes, decimal, length, slice_index_or, take}
use denote.Ref.{Bor}
use Rattle.kfifo_dispatch.specs.declared.task.Task.{Task}
use Rattle.kfifo_dispatch.specs.declared.task.Finished.{Finished}
use Rattle.kfifo_model.specs.RecordTexts.{line}
use Rattle.kfifo_cli_texts.specs.Scripts.{texts_of}
use Rattle.kfifo_cli_texts.specs.Words.{EachWrites, WritesNumber}

-- three numbers joined by colons write a task: its id, the units of work that are left of it, and its sum
pub record WritesTask (word : List ℕ) (task : Task) : Type 0 where
  pub id : List ℕ
  pub left : List ℕ
  pub sum : List ℕ
  pub split : word ≡ id ++ 58 ∷ (left ++ 58 ∷ sum)
  pub id_written : WritesNumber id task.id
  pub left_written : WritesNumber left task.left
  pub sum_written : WritesNumber sum task.sum
  pub id_fits : task.id < 2 ^ 32
  pub left_fits : task.left < 2 ^ 16
  pub sum_fits : task.sum < 2 ^ 32

-- each word of the command line writes a task
abbrev pub WriteTasks : List (Bor (List ℕ)) → List Task → Type 0
WriteTasks words tasks = EachWrites WritesTask (texts_of words) tasks

-- the word at this place, counted from 0, is the first that writes no task
pub record IsFirstUnreadTask (words : List (Bor (List ℕ))) (place : ℕ) : Type 0 where
  pub inside : place < length words
  pub unread : (word : Bor (List ℕ)) (task : Task) → WritesTask (slice_index_or words place word).now task → ⊥
  pub before : (tasks : List Task) × WriteTasks (take place words) tasks

-- the line of a finished task
abbrev pub finished_line : Finished → List ℕ
finished_line task = line (decimal task.id ++ codes " " ++ decimal task.sum)
