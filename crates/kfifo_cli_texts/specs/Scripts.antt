-- How scripts are written on the command line.
use Rattle.std.specs.Prelude.{ℕ, ◌<◌, List, length, map, slice_index_or, take}
use denote.Ref.{Bor}
use Rattle.kfifo_machine.specs.declared.event.Begin.{Begin}
use Rattle.kfifo_cli_texts.specs.Orders.{comma_parts}
use Rattle.kfifo_cli_texts.specs.Words.{EachWrites, WritesCall}

-- the words of a script, joined by commas, write its calls
abbrev pub WritesScript : ℕ → ℕ → List ℕ → List Begin → Type 0
WritesScript k turns text script = EachWrites (WritesCall k turns) (comma_parts text) script

-- the words of the command line, as texts
abbrev pub texts_of : List (Bor (List ℕ)) → List (List ℕ)
texts_of words = map (λ word. word.now) words

-- each word of the command line writes a script
abbrev pub WriteScripts : ℕ → ℕ → List (Bor (List ℕ)) → List (List Begin) → Type 0
WriteScripts k turns words scripts = EachWrites (WritesScript k turns) (texts_of words) scripts

-- the word at this place, counted from 0, is the first that writes no script
pub record IsFirstUnreadScript (k turns : ℕ) (words : List (Bor (List ℕ))) (place : ℕ) : Type 0 where
  pub inside : place < length words
  pub unread : (word : Bor (List ℕ)) (script : List Begin)
      → WritesScript k turns (slice_index_or words place word).now script → ⊥
  pub before : (scripts : List (List Begin)) × WriteScripts k turns (take place words) scripts
