-- The rows of a text in CSV, and the lines that they begin in.
use Rattle.std.specs.Prelude.{◌≡◌, ◌+◌, ◌-◌, ◌==◌, ◌||◌, ℕ, List, [], ◌∷◌, Option, Some, count_by}
use Rattle.std.specs.Prelude.{if◌then◌else◌}
use Rattle.csv.specs.Machine.{Read, next_record}
use Rattle.csv.specs.Reading.{default_config}
use Rattle.csv.specs.declared.parser.State.TheVariants as st

-- a row of a table: the number of the line that it begins in, from 1, and its fields
pub record Row : Type 0 where
  pub number : ℕ
  pub fields : List (List ℕ)

-- how many lines end in a text
abbrev pub line_feeds : List ℕ → ℕ
line_feeds text = count_by (λ byte. byte == 10) text

-- a text without the line ends in front of it
unfoldable pub behind_ends : List ℕ → List ℕ
behind_ends [] = []
behind_ends (byte ∷ rest) = if (byte == 13) || (byte == 10) then behind_ends rest else byte ∷ rest

-- the number of the line in which the next row of a text begins, where this rest of the text is left
abbrev pub line_of : List ℕ → List ℕ → ℕ
line_of text rest = (line_feeds text - line_feeds (behind_ends rest)) + 1

-- the first row of a text, with what is left behind it; none where nothing but line ends is left
abbrev pub first_row : List ℕ → Option Read
first_row text = next_record default_config st.StartRecord [] [] text

-- the next row of a text, where this rest of it is left
abbrev pub IsNextRow : List ℕ → List ℕ → Row → Type 0
IsNextRow text rest row = (read : Read) × (first_row rest ≡ Some read) × (row.number ≡ line_of text rest)
    × (row.fields ≡ read.0)

-- the rows of a text in turn, from where the first rest of it is left to where the second is
unfoldable pub AreRows : List ℕ → List ℕ → List Row → List ℕ → Type 0
AreRows text from [] rest = from ≡ rest
AreRows text from (row ∷ rows) rest = (next : IsNextRow text from row) × AreRows text next.0.2 rows rest
