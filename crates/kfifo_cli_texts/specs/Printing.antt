-- What is written on a printer, by what its writer holds and how many of its calls failed.
use Rattle.std.specs.Prelude.{◌≡◌, ◌⊎◌, ℕ, List, Option}
use Rattle.std.specs.Io.KnownBytes.{Appends}
use Rattle.kfifo_judge.specs.Streams.{AppendsPart, CountsOne}
use Rattle.kfifo_cli_texts.specs.declared.printing.Printer.{Printer}

-- what became of a text that was to be written: all of it, a beginning of it, or nothing was written at all
pub data Written : Type 0 where
  Whole : List ℕ → Written
  Part : List ℕ → Written
  Nothing : Written

-- the text was written as far as that could be done
abbrev pub Tells : (Written → Type 0) → List ℕ → Type 0
Tells faults text = faults (Whole text) ⊎ faults (Part text)

-- the printer has the writer that it had
abbrev pub Stays : {W : Type 0} → Printer W → Printer W → Type 0
Stays old new = new.writer.ghost_name ≡ old.writer.ghost_name

-- the whole text was written, and no call failed
abbrev pub Writes : {W : Type 0} → (W → Option (List ℕ)) → Printer W → List ℕ → Printer W → Type 0
Writes contents old text new = Appends (contents old.writer.now) (contents new.writer.now) text
    × (new.failed ≡ old.failed) × Stays old new

-- a beginning of the text was written, and then a call failed
abbrev pub Breaks : {W : Type 0} → (W → Option (List ℕ)) → Printer W → List ℕ → Printer W → Type 0
Breaks contents old text new = AppendsPart (contents old.writer.now) (contents new.writer.now) text
    × CountsOne old.failed new.failed × Stays old new

-- what was written on a printer; a text broke off only where a call of the writer failed
abbrev pub OnPrinter : {W : Type 0} → (W → Option (List ℕ)) → Printer W → Printer W → Written → Type 0
OnPrinter contents old new (Whole text) = Writes contents old text new
OnPrinter contents old new (Part text) = Breaks contents old text new
OnPrinter contents old new Nothing = new ≡ old

-- what was written on a writer
abbrev pub OnWriter : {W : Type 0} → (W → Option (List ℕ)) → W → W → Written → Type 0
OnWriter contents old new (Whole text) = Appends (contents old) (contents new) text
OnWriter contents old new (Part text) = AppendsPart (contents old) (contents new) text
OnWriter contents old new Nothing = new ≡ old
