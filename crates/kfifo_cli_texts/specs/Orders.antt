-- How an order is written on the command line.
use Rattle.std.specs.Prelude.{◌≡◌, ◌==◌, ◌-◌, ◌≤◌, ℕ, ◌⊎◌, Bool, true, false, List, [], ◌∷◌, codes, drop, length, map}
use Rattle.std.specs.Prelude.{take}
use Rattle.std.specs.Char.{is_ascii_whitespace}
use Rattle.std.specs.List.{prefix_len, slice_split, suffix_len}
use Rattle.std.specs.Str.{IsUtf8}
use Rattle.kfifo_judge.specs.declared.streams.TheConstants.{MAX_BYTES}
use Rattle.kfifo_cli_texts.specs.Words.{EachWrites, WritesNumber}

-- each part writes the number in its place
abbrev pub WriteNumbers : List (List ℕ) → List ℕ → Type 0
WriteNumbers parts numbers = EachWrites WritesNumber parts numbers

-- the parts of a text between its commas
abbrev pub comma_parts : List ℕ → List (List ℕ)
comma_parts text = slice_split (λ byte. byte == 44) text

-- none writes the empty order, and numbers joined by commas write these numbers
abbrev pub WritesOrder : List ℕ → List ℕ → Type 0
WritesOrder text order = ((text ≡ codes "none") × (order ≡ [])) ⊎ WriteNumbers (comma_parts text) order

-- a text with no white space around it
abbrev pub trimmed : List ℕ → List ℕ
trimmed text = let rest = drop (prefix_len is_ascii_whitespace text) text in
    take (length rest - suffix_len is_ascii_whitespace rest) rest

-- what is read of a part, where white space may stand around it or may not
abbrev pub part_of : Bool → List ℕ → List ℕ
part_of true text = trimmed text
part_of false text = text

-- the bytes of a file write an order as a text does, but white space may stand around each number and around none
abbrev pub WritesSpacedOrder : List ℕ → List ℕ → Type 0
WritesSpacedOrder bytes order = IsUtf8 bytes
    × (((trimmed bytes ≡ codes "none") × (order ≡ [])) ⊎ WriteNumbers (map trimmed (comma_parts bytes)) order)

-- the value of the option gives this order: as a text, or by some bytes of the file that is named behind @ (64)
abbrev pub GivesOrder : List ℕ → List ℕ → Type 0
GivesOrder text order = WritesOrder text order
    ⊎ ((path : List ℕ) × (bytes : List ℕ) × (text ≡ 64 ∷ path) × (length bytes ≤ MAX_BYTES)
    × WritesSpacedOrder bytes order)

-- the value of the option gives no order: it names a file, or is a text that writes none
abbrev pub GivesNoOrder : List ℕ → Type 0
GivesNoOrder text = ((path : List ℕ) × (text ≡ 64 ∷ path)) ⊎ ((order : List ℕ) → WritesOrder text order → ⊥)
