-- Stamps for the calls of a log, whose steps are times: the places of their beginnings and ends.
use Rattle.std.specs.Prelude.{ℕ, ◌≡◌, ◌≢◌, ◌+◌, ◌<◌, ◌≤◌, ◌↔◌, List, Option, Some, None, length, slice_index_or}
use Rattle.std.specs.Prelude.{count_by, is_some, option_map, take}
use Rattle.std.specs.List.{All, Contains}
use Rattle.std.specs.List.Sorted.{IsNonDecreasingBy, IsPartitionPoint}
use Rattle.kfifo_model.specs.declared.calls.End.{End}
use Rattle.kfifo_model.specs.declared.calls.Call.{Call}
use Rattle.kfifo_model.specs.Histories.{call, HasEnd, Precedes}
use Rattle.kfifo_model.specs.Validity.{EndsFrom}
use Rattle.kfifo_import.specs.declared.moments.Moment.{Moment}

-- the last step or time of a call, 0 of an unfinished one
abbrev pub last_in : Option End → ℕ
last_in (Some end) = end.last
last_in None = 0

abbrev pub last_time : Call → ℕ
last_time c = last_in c.end

abbrev pub end_at : List Call → ℕ → Option End
end_at l n = (call l n).end

abbrev pub first_at : List Call → ℕ → ℕ
first_at l n = (call l n).first

abbrev pub last_of : List Call → ℕ → ℕ
last_of l n = last_in (end_at l n)

-- how many beginnings and ends there are
abbrev pub moments : List Call → ℕ
moments l = length l + count_by (λ c. is_some c.end) l

-- both have ended, with the same answer, or neither has
abbrev pub AnswersAlike : Option End → Option End → Type 0
AnswersAlike (Some a) (Some b) = a.answer ≡ b.answer
AnswersAlike None None = Unit {0}
AnswersAlike (Some a) None = ⊥
AnswersAlike None (Some b) = ⊥

-- the same call with other steps
pub record IsRestamped (c s : Call) : Type 0 where
  pub thread : s.thread ≡ c.thread
  pub op : s.op ≡ c.op
  pub answer : AnswersAlike c.end s.end

-- h has the calls l with stamps: the places of the calls' beginnings and ends in ascending order of time, where at one
-- time beginnings come before ends, and earlier calls begin first. So each stamp is below the number of moments, and
-- stamps stand as the times do.
pub record AreStamped (l h : List Call) : Type 0 where
  pub sized : length h ≡ length l
  pub same : (n : ℕ) → n < length l → IsRestamped (call l n) (call h n)
  pub begin : (c d : ℕ) → c < d → d < length l → first_at h c < first_at h d
  pub before : (c d : ℕ) → c < length l → d < length l → Precedes l c d ↔ Precedes h c d
  pub after : (c d : ℕ) → c < length l → d < length l → EndsFrom (first_at l d) (end_at l c)
      → EndsFrom (first_at h d + 1) (end_at h c)
  pub end : (c d : ℕ) → HasEnd (end_at l c) → HasEnd (end_at l d) → last_of l c < last_of l d
      → last_of h c < last_of h d
  pub apart : (c d : ℕ) → HasEnd (end_at l c) → HasEnd (end_at l d) → c ≢ d → last_of h c ≢ last_of h d
  pub begin_below : (n : ℕ) → n < length l → first_at h n < moments l
  pub end_below : (n : ℕ) → HasEnd (end_at l n) → last_of h n < moments l

-- ---- how the stamps come about

abbrev pub no_moment : Moment
no_moment = record { time = 0; number = 0 }

-- the end of call n
abbrev pub end_of : List Call → ℕ → Moment
end_of l n = record { time = last_of l n; number = n }

-- the ends of the finished calls
pub record AreEnds (l : List Call) (ends : List Moment) : Type 0 where
  pub each : All (λ end. (end.number < length l) × (end ≡ end_of l end.number)) ends
  pub all : (n : ℕ) → HasEnd (end_at l n) → Contains ends (end_of l n)
  pub count : length ends ≡ count_by (λ c. is_some c.end) l

-- the same of the calls before n
pub record AreEndsTo (l : List Call) (ends : List Moment) (n : ℕ) : Type 0 where
  pub each : All (λ end. (end.number < length l) × (end ≡ end_of l end.number)) ends
  pub all : (m : ℕ) → m < n → HasEnd (end_at l m) → Contains ends (end_of l m)
  pub count : length ends ≡ count_by (λ c. is_some c.end) (take n l)

-- the same in ascending order of time
pub record AreSortedEnds (l : List Call) (ends : List Moment) : Type 0 where
  pub are : AreEnds l ends
  pub rise : IsNonDecreasingBy (λ end. end.time) ends

-- this many of the ends, in ascending order of time, are before this time
abbrev pub HaveEnded : List Moment → ℕ → ℕ → Type 0
HaveEnded ends time count = (count ≤ length ends)
    × IsPartitionPoint (λ end. end.time < time) (λ end. time ≤ end.time) ends count

-- this many of the calls, in ascending order of first time, have begun by this time
abbrev pub HaveBegun : List Call → ℕ → ℕ → Type 0
HaveBegun l time count = (count ≤ length l) × IsPartitionPoint (λ c. c.first ≤ time) (λ c. time < c.first) l count

-- the stamp of the end of call n: its place among the ends and the number of the beginnings before it
pub record IsEndStamp (l : List Call) (ends : List Moment) (n stamp : ℕ) : Type 0 where
  pub rank : ℕ
  pub inside : rank < length ends
  pub there : slice_index_or ends rank no_moment ≡ end_of l n
  pub begun : ℕ
  pub have_begun : HaveBegun l (last_of l n) begun
  pub is : stamp ≡ rank + begun

-- the ends before a place have their stamps
pub record AreEndStamps (l : List Call) (ends : List Moment) (place : ℕ) (stamps : List ℕ) : Type 0 where
  pub sized : length stamps ≡ length l
  pub each : (q : ℕ) → q < place → let n = (slice_index_or ends q no_moment).number in
      IsEndStamp l ends n (slice_index_or stamps n 0)

-- this many calls begin by each end from a place on
pub record BeginByEnds (l : List Call) (ends : List Moment) (place begun : ℕ) : Type 0 where
  pub inside : begun ≤ length l
  pub before : (q k : ℕ) → place ≤ q → q < length ends → k < begun
      → first_at l k ≤ (slice_index_or ends q no_moment).time

-- this many ends are before each beginning from call n on
pub record EndBeforeBeginnings (l : List Call) (ends : List Moment) (n ended : ℕ) : Type 0 where
  pub inside : ended ≤ length ends
  pub before : (m k : ℕ) → n ≤ m → m < length l → k < ended → (slice_index_or ends k no_moment).time < first_at l m

-- the end at another time
abbrev pub ending_at : ℕ → End → End
ending_at last end = record { last = last; answer = end.answer }

-- the call with these stamps in place of its first and its last time
abbrev pub restamped : Call → ℕ → ℕ → Call
restamped c first last = record { thread = c.thread; op = c.op; first = first; end = option_map (ending_at last) c.end }

-- s is call n with stamps
pub record IsStampOf (l : List Call) (ends : List Moment) (stamps : List ℕ) (n : ℕ) (s : Call) : Type 0 where
  pub ended : ℕ
  pub have_ended : HaveEnded ends (first_at l n) ended
  pub is : s ≡ restamped (call l n) (n + ended) (slice_index_or stamps n 0)

-- the calls before n have their stamps
pub record AreStampedTo (l : List Call) (ends : List Moment) (stamps : List ℕ) (n : ℕ)
    (found : List Call) : Type 0 where
  pub sized : length found ≡ n
  pub each : (m : ℕ) → m < n → IsStampOf l ends stamps m (call found m)
