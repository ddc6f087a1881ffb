-- A word of the table as a number of 64 bits: its low 24 bits are a value, its high 40 bits a version.
use Rattle.std.specs.Prelude.{ℕ, ◌+◌, ◌*◌, ◌/◌, ◌%◌}
use Rattle.kfifo_words.specs.declared.word.TheConstants.{VALUES}
use Rattle.kfifo_words.specs.declared.ends.TheConstants.{SEGMENT_NUMBERS}

-- the word of a slot: its item, or 0 where it is empty, and its version
unfoldable pub slot_word : ℕ → ℕ → ℕ
slot_word value version = version * VALUES + value

-- the value of a slot's word
unfoldable pub value_of : ℕ → ℕ
value_of word = word % VALUES

-- the version of a word, of a slot and of the ends
unfoldable pub version_of : ℕ → ℕ
version_of word = word / VALUES

-- the ends word: head and tail are segment numbers of 12 bits each, under one version
unfoldable pub ends_word : ℕ → ℕ → ℕ → ℕ
ends_word head tail version = version * VALUES + (head * SEGMENT_NUMBERS + tail)

-- the segment that an ends word names as the head
unfoldable pub head_of : ℕ → ℕ
head_of ends = ends / SEGMENT_NUMBERS % SEGMENT_NUMBERS

-- the segment that an ends word names as the tail
unfoldable pub tail_of : ℕ → ℕ
tail_of ends = ends % SEGMENT_NUMBERS
