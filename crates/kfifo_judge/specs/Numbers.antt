-- Lines of numbers, and the greatest of some.
use Rattle.std.specs.Prelude.{ℕ, max, List, [], ◌∷◌, ◌++◌, codes, decimal}
use Rattle.std.specs.List.{flat_map}
use Rattle.kfifo_model.specs.RecordTexts.{line}

-- further numbers, a comma before each
abbrev pub further : List ℕ → List ℕ
further numbers = flat_map (λ number. 44 ∷ decimal number) numbers

-- numbers joined by commas, none where there are none
abbrev pub joined : List ℕ → List ℕ
joined [] = codes "none"
joined (number ∷ numbers) = decimal number ++ further numbers

-- a name, and numbers joined by commas
abbrev pub numbers_line : List ℕ → List ℕ → List ℕ
numbers_line name numbers = line (name ++ joined numbers)

-- the greatest number of a list, 0 where it has none
abbrev pub greatest : List ℕ → ℕ
greatest [] = 0
greatest (x ∷ xs) = max x (greatest xs)
