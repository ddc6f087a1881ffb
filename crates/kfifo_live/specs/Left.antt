-- The items that stand in the slots of a table, in the order in which they are given back.
use Rattle.std.specs.Prelude.{ℕ, zero, suc, ◌==◌, if◌then◌else◌, List, [], ◌∷◌, ◌++◌, get_or}
use Rattle.kfifo_words.specs.declared.shape.Shape.{Shape}
use Rattle.kfifo_words.specs.Words.{value_of, head_of}
use Rattle.kfifo_words.specs.Ring.{next_segment, slot_at}

-- the item of a slot's word, where it is filled
abbrev pub item_in : ℕ → List ℕ
item_in word = if value_of word == 0 then [] else value_of word ∷ []

-- the items of `count` slots from an index on
abbrev pub slots_left : List ℕ → ℕ → ℕ → List ℕ
slots_left words index zero = []
slots_left words index (suc count) = item_in (get_or words index 0) ++ slots_left words (suc index) count

-- the items of `count` segments from a segment on, round the ring
abbrev pub segments_left : Shape → List ℕ → ℕ → ℕ → List ℕ
segments_left shape words segment zero = []
segments_left shape words segment (suc count) =
    slots_left words (slot_at shape.k segment 0) shape.k
    ++ segments_left shape words (next_segment shape.n segment) count

-- all items: segment by segment from the head's round the ring, within a segment by slot number
abbrev pub items_left : Shape → List ℕ → List ℕ
items_left shape words = segments_left shape words (head_of (get_or words 0 0)) shape.n
