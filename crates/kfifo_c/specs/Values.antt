-- What C is told of the calls with values, and what closing says of handles. c/include/kfifo.h has the same numbers.
use Rattle.std.specs.Prelude.{◌≡◌, ℕ, ◌*◌, ◌^◌, ◌≤◌, ◌⊎◌, Option, Some, None, List, [], ◌∷◌, ◌++◌, length, drop}
use Rattle.kfifo_live.specs.declared.payload.Given.{Given}
use Rattle.kfifo_live.specs.declared.payload.Given.TheVariants as G
use Rattle.kfifo_live.specs.declared.payload.Taken.{Taken}
use Rattle.kfifo_live.specs.declared.payload.Taken.TheVariants as K
use Rattle.kfifo_renewing.specs.Renewing.{ClosesAll, Follows, all_of}
use Rattle.kfifo_renewing.specs.declared.change.Change.{Change}
use Rattle.kfifo_c.specs.AllHandles.{AreAll}
use Rattle.kfifo_c.specs.Behind.{Behind}
use Rattle.kfifo_c.specs.Behind as B
use Rattle.kfifo_c.specs.ValueSeats.{ValueSeated}

module _ {T : Type 0} where
  -- The number of what a give came to, and of one that was not made. With no token for the value there is no room for
  -- it
  abbrev pub given_number : Option (Given T) → ℕ
  given_number (Some G.Done) = 0
  given_number (Some (G.Full value)) = 1
  given_number (Some (G.Busy value)) = 4
  given_number (Some (G.Worn value)) = 5
  given_number (Some (G.NoToken value)) = 1
  given_number None = 6

  -- the number of what a take came to
  abbrev pub taken_number : Option (Taken T) → ℕ
  taken_number (Some (K.Got value)) = 2
  taken_number (Some K.Empty) = 3
  taken_number (Some K.Busy) = 4
  taken_number (Some K.Worn) = 5
  taken_number None = 6

-- what a take leaves in the variable of its value
abbrev pub value_after : ℕ → Option (Taken ℕ) → ℕ
value_after old (Some (K.Got value)) = value
value_after old other = old

-- the last of these handles may have followed others, if it is open; each of the others is as it was
abbrev pub LastFollows : List (Option Behind) → List (Option Behind) → Type 0
LastFollows old new = (new ≡ old) ⊎ ((others : List (Option Behind)) × (was : ValueSeated) × (is : ValueSeated)
    × (old ≡ others ++ Some (B.Values was) ∷ []) × (new ≡ others ++ Some (B.Values is) ∷ []) × Follows was is)

-- room for a value of each slot of each generation that the handle has joined
abbrev pub room_for : ValueSeated → ℕ
room_for seat = length (all_of seat) * (seat.opened.shape.n * seat.opened.shape.k)

-- a close by these handles needs so much room, where they are all; it is none where no number of 64 bits is so great
abbrev pub NeedsRoom : Option ℕ → List (Option ValueSeated) → Type 0
NeedsRoom None handles = (all : AreAll handles) → 2 ^ 64 ≤ room_for all.last
NeedsRoom (Some room) handles = (all : AreAll handles) × (room ≡ room_for all.last)

-- and there is room for what may be left in each generation of the last
pub record MayCloseValues (handles : List (Option ValueSeated)) (room : ℕ) : Type 0 where
  pub all : AreAll handles
  pub room_is : room_for all.last ≤ room

-- A queue was closed by these handles, and the values that were left were written, and their number: all that the
-- renewing queue says of a close. The log, what was seen of the history, is not handed on to C
pub record ClosesValues (handles : List (Option ValueSeated)) (old new : List ℕ) (count : ℕ) : Type 0 where
  pub all : AreAll handles
  pub left : List ℕ
  pub log : List Change
  pub closes : ClosesAll (all.others ++ all.last ∷ []) left log
  pub count_is : count ≡ length left
  pub written : new ≡ left ++ drop (length left) old
