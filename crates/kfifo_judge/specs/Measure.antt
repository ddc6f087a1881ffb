-- What `measure` writes.
use Rattle.std.specs.Prelude.{ℕ, ◌≡◌, ◌⊎◌, max, List, [], ◌∷◌, ◌++◌, length, codes}
use Rattle.std.specs.Fmt.{decimal}
use Rattle.kfifo_model.specs.declared.calls.Call.{Call}
use Rattle.kfifo_model.specs.declared.overtakings.Overtaken.{Overtaken}
use Rattle.kfifo_model.specs.Measures.{IsDoneEnqueue, HasDistinctItems, measured}
use Rattle.kfifo_judge.specs.declared.record.StreamFault.{StreamFault}
use Rattle.kfifo_judge.specs.declared.record.StreamFault.TheVariants as faults
use Rattle.kfifo_model.specs.RecordTexts.{IsRecordText, line}
use Rattle.kfifo_judge.specs.TextFaults.{IsTextFault}

abbrev pub overtaken_line : Overtaken → List ℕ
overtaken_line o = line (codes "call " ++ decimal o.call ++ codes " item " ++ decimal o.item ++ codes " overtaken "
    ++ decimal o.count)

abbrev pub overtaken_lines : List Overtaken → List ℕ
overtaken_lines [] = []
overtaken_lines (o ∷ os) = overtaken_line o ++ overtaken_lines os

-- the greatest count, 0 where there is none
abbrev pub most : List Overtaken → ℕ
most [] = 0
most (o ∷ os) = max o.count (most os)

abbrev pub overtakings_text : List Overtaken → List ℕ
overtakings_text os = overtaken_lines os ++ line (codes "most " ++ decimal (most os))

-- This is the text for the record that the bytes are.
pub record IsMeasured (bytes text : List ℕ) : Type 0 where
  pub calls : List Call
  pub recorded : IsRecordText bytes calls
  pub distinct : (n : ℕ) → IsDoneEnqueue calls n → HasDistinctItems calls
  pub told : text ≡ overtakings_text (measured calls (length calls))

-- why a history is not measured: it has a finished enqueue with answer Done, and an item is repeated
abbrev pub IsUnmeasured : List Call → StreamFault → Type 0
IsUnmeasured h faults.RepeatedItem = ((n : ℕ) × IsDoneEnqueue h n) × (HasDistinctItems h → ⊥)
IsUnmeasured h faults.Memory = Unit {0}
IsUnmeasured h faults.NotJson = ⊥
IsUnmeasured h (faults.Record f) = ⊥
IsUnmeasured h (faults.Search f) = ⊥
IsUnmeasured h faults.Input = ⊥
IsUnmeasured h faults.Output = ⊥

-- the fault of an input that was read whole: the text records no history, or the history is not measured
abbrev pub IsMeasuringFault : List ℕ → StreamFault → Type 0
IsMeasuringFault bytes f = IsTextFault bytes f ⊎ ((h : List Call) × IsRecordText bytes h × IsUnmeasured h f)
