-- Which lists of calls are histories, and the first fault of those that are none.
use Rattle.std.specs.Prelude.{ℕ, ◌≡◌, ◌≢◌, ◌+◌, ◌^◌, ◌<◌, ◌≤◌, List, Option, Some, None, length}
use Rattle.kfifo_model.specs.declared.calls.TheConstants.{MAX_THREADS}
use Rattle.kfifo_model.specs.declared.calls.Op.{Op}
use Rattle.kfifo_model.specs.declared.calls.Op.TheVariants.{Enqueue, Dequeue}
use Rattle.kfifo_model.specs.declared.calls.Answer.{Answer}
use Rattle.kfifo_model.specs.declared.calls.Answer.TheVariants.{Got}
use Rattle.kfifo_model.specs.declared.calls.End.{End}
use Rattle.kfifo_model.specs.declared.calls.Call.{Call}
use Rattle.kfifo_model.specs.declared.history.RecordFault.{RecordFault}
use Rattle.kfifo_model.specs.declared.history.RecordFault.TheVariants.{NotAList, TooMany, NotACall, NumberOutOfRange}
use Rattle.kfifo_model.specs.declared.history.RecordFault.TheVariants.{WrongAnswer, EndsEarly, OutOfOrder, Overlap}
use Rattle.kfifo_model.specs.declared.history.RecordFault.TheVariants.{Memory}
use Rattle.kfifo_model.specs.declared.effects.Effect.TheVariants.{Wrong}
use Rattle.kfifo_model.specs.Relaxed.{effect}
use Rattle.kfifo_model.specs.Histories.{call, EndsBelow}

abbrev pub IsItem : ℕ → Type 0
IsItem x = (0 < x) × (x < 2 ^ 24)

abbrev pub OpInRange : Op → Type 0
OpInRange (Enqueue x) = IsItem x
OpInRange Dequeue = Unit {0}

abbrev pub AnswerInRange : Answer → Type 0
AnswerInRange (Got x) = IsItem x
AnswerInRange _ = Unit {0}

abbrev pub EndInRange : Option End → Type 0
EndInRange (Some end) = AnswerInRange end.answer
EndInRange None = Unit {0}

-- thread and items
abbrev pub IsInRange : Call → Type 0
IsInRange c = (c.thread < MAX_THREADS) × OpInRange c.op × EndInRange c.end

-- the answer is one of the operation's
abbrev pub Answers : Op → Option End → Type 0
Answers op (Some end) = effect op end.answer ≢ Wrong
Answers op None = Unit {0}

-- the last step is no less than the first
abbrev pub EndsFrom : ℕ → Option End → Type 0
EndsFrom step (Some end) = step ≤ end.last
EndsFrom step None = Unit {0}

-- its first step is greater than the one of the call before it
abbrev pub Rises : List Call → ℕ → Type 0
Rises h n = (j : ℕ) → j + 1 ≡ n → (call h j).first < (call h n).first

-- earlier calls of its thread have ended before it began
abbrev pub IsApart : List Call → ℕ → Type 0
IsApart h n = (j : ℕ) → j < n → (call h j).thread ≡ (call h n).thread → EndsBelow (call h j).end (call h n).first

pub record IsGood (h : List Call) (n : ℕ) : Type 0 where
  pub ranged : IsInRange (call h n)
  pub answers : Answers (call h n).op (call h n).end
  pub ends : EndsFrom (call h n).first (call h n).end
  pub rises : Rises h n
  pub apart : IsApart h n

abbrev pub IsHistory : List Call → Type 0
IsHistory h = (n : ℕ) → n < length h → IsGood h n

-- the calls before n have no fault
abbrev pub IsGoodBelow : List Call → ℕ → Type 0
IsGoodBelow h n = (n < length h) × ((j : ℕ) → j < n → IsGood h j)

-- the first fault of a list of calls: of the least faulty call the first, in this order. The other faults are a
-- record's
abbrev pub IsFault : List Call → RecordFault → Type 0
IsFault h (NumberOutOfRange n) = IsGoodBelow h n × (IsInRange (call h n) → ⊥)
IsFault h (WrongAnswer n) = IsGoodBelow h n × IsInRange (call h n) × (Answers (call h n).op (call h n).end → ⊥)
IsFault h (EndsEarly n) = IsGoodBelow h n × IsInRange (call h n) × Answers (call h n).op (call h n).end
    × (EndsFrom (call h n).first (call h n).end → ⊥)
IsFault h (OutOfOrder n) =
    IsGoodBelow h n × IsInRange (call h n) × Answers (call h n).op (call h n).end
    × EndsFrom (call h n).first (call h n).end × (Rises h n → ⊥)
IsFault h (Overlap n) =
    IsGoodBelow h n × IsInRange (call h n) × Answers (call h n).op (call h n).end
    × EndsFrom (call h n).first (call h n).end
    × Rises h n × (IsApart h n → ⊥)
IsFault h NotAList = ⊥
IsFault h TooMany = ⊥
IsFault h (NotACall n) = ⊥
IsFault h Memory = ⊥
