-- What `check` says of a record.
use Rattle.std.specs.Prelude.{ℕ, ◌≡◌, ◌<◌, ◌≤◌, ◌⊎◌, List, ◌++◌, Option, Some, None, length, codes}
use Rattle.std.specs.Fmt.{decimal}
use Rattle.kfifo_model.specs.declared.calls.Call.{Call}
use Rattle.kfifo_model.specs.declared.orders.Verdict.{Verdict}
use Rattle.kfifo_model.specs.declared.orders.Verdict.TheVariants.{Legal, Repeats, NotACall, LeavesOut, BreaksBefore}
use Rattle.kfifo_model.specs.declared.orders.Verdict.TheVariants.{NotARun}
use Rattle.kfifo_model.specs.declared.search.SearchFault.TheVariants as searches
use Rattle.kfifo_model.specs.Verdicts.{IsVerdict}
use Rattle.kfifo_model.specs.Searching.{HasOrder}
use Rattle.kfifo_judge.specs.declared.outcome.Outcome.{Outcome}
use Rattle.kfifo_judge.specs.declared.outcome.Outcome.TheVariants.{Answered, Unordered}
use Rattle.kfifo_judge.specs.declared.record.StreamFault.{StreamFault}
use Rattle.kfifo_judge.specs.declared.record.StreamFault.TheVariants as faults
use Rattle.kfifo_model.specs.RecordTexts.{IsRecordText, line}
use Rattle.kfifo_judge.specs.TextFaults.{IsTextFault}

abbrev pub verdict_text : Verdict → List ℕ
verdict_text Legal = line (codes "legal")
verdict_text Repeats = line (codes "fault 1 repeats")
verdict_text NotACall = line (codes "fault 2 not a call")
verdict_text LeavesOut = line (codes "fault 3 leaves out")
verdict_text BreaksBefore = line (codes "fault 4 breaks before")
verdict_text (NotARun place) = line (codes "fault 5 not a run at " ++ decimal place)

abbrev pub verdict_outcome : Verdict → Outcome
verdict_outcome Legal = Answered
verdict_outcome _ = Unordered

-- The text and the outcome for a history: whether some order of its 12 calls or fewer is legal, or what is to be said
-- of the given one.
abbrev pub IsCheckAnswer : ℕ → Option (List ℕ) → List Call → List ℕ → Outcome → Type 0
IsCheckAnswer k None h text said =
    (length h ≤ 12)
    × ((HasOrder k h × (text ≡ line (codes "order")) × (said ≡ Answered))
    ⊎ ((HasOrder k h → ⊥) × (text ≡ line (codes "no order")) × (said ≡ Unordered)))
IsCheckAnswer k (Some order) h text said = (v : Verdict) × IsVerdict k h order v × (text ≡ verdict_text v)
    × (said ≡ verdict_outcome v)

-- This is the text and the outcome for the record that the bytes are.
pub record IsChecked (k : ℕ) (order : Option (List ℕ)) (bytes text : List ℕ) (said : Outcome) : Type 0 where
  pub calls : List Call
  pub recorded : IsRecordText bytes calls
  pub answer : IsCheckAnswer k order calls text said

-- why a history has no answer
abbrev pub IsUnanswered : Option (List ℕ) → List Call → StreamFault → Type 0
IsUnanswered order h (faults.Search searches.TooLong) = (order ≡ None) × (12 < length h)
IsUnanswered order h (faults.Search searches.Memory) = (order ≡ None) × (length h ≤ 12)
IsUnanswered order h faults.Memory = order ≡ None → length h ≤ 12
IsUnanswered order h faults.NotJson = ⊥
IsUnanswered order h (faults.Record f) = ⊥
IsUnanswered order h faults.RepeatedItem = ⊥
IsUnanswered order h faults.Input = ⊥
IsUnanswered order h faults.Output = ⊥

-- the fault of an input that was read whole: the text records no history, or the history has no answer
abbrev pub IsCheckFault : Option (List ℕ) → List ℕ → StreamFault → Type 0
IsCheckFault order bytes f = IsTextFault bytes f ⊎ ((h : List Call) × IsRecordText bytes h × IsUnanswered order h f)
