-- What the command `record` comes to.
use Rattle.std.specs.Prelude.{◌≡◌, ℕ, ◌+◌, ◌<◌, ◌≤◌, ◌⊎◌, List, length}
use Rattle.kfifo_words.specs.declared.shape.Shape.{Shape}
use Rattle.kfifo_model.specs.declared.calls.Call.{Call}
use Rattle.kfifo_machine.specs.declared.event.Begin.{Begin}
use Rattle.kfifo_live.specs.declared.fault.OpenFault.{OpenFault}
use Rattle.kfifo_live.specs.declared.fault.OpenFault.TheVariants as opens
use Rattle.kfifo_live.specs.Gates.{SaysNothing}
use Rattle.kfifo_record.specs.Repeats.{IsFirstOver, all_repeated, last_shift}
use Rattle.kfifo_record.specs.Scripts.{IsRecord, longest}
use Rattle.kfifo_model.specs.RecordTexts.{IsRecordText, line, record_text}
use Rattle.kfifo_cli_texts.specs.declared.fault.Fault.{Fault}
use Rattle.kfifo_cli_texts.specs.declared.fault.Fault.TheVariants as faults
use Rattle.kfifo_cli_requests.specs.declared.requests.RecordOptions.{RecordOptions}
use Rattle.kfifo_cli_requests.specs.Sizes.{IsShapeFault, IsShapeOf}
use Rattle.kfifo_cli_texts.specs.Scripts.{IsFirstUnreadScript, WriteScripts}

-- the shape and the scripts that the options give
pub record GivesScripts (options : RecordOptions) (shape : Shape) (scripts : List (List Begin)) : Type 0 where
  pub shape_given : IsShapeOf options.sizes shape
  pub scripts_given : WriteScripts shape.k options.turns options.scripts.now scripts

-- The answer: the line of the record of a run of the scripts, made over as often as the options say. Who reads it has
-- its history
pub record IsRealRun (options : RecordOptions) (text : List ℕ) : Type 0 where
  pub shape : Shape
  pub scripts : List (List Begin)
  pub given : GivesScripts options shape scripts
  pub history : List Call
  pub recorded : IsRecord SaysNothing shape (all_repeated options.repeat scripts) history
  pub text_is : text ≡ line (record_text history)
  pub read_back : IsRecordText (record_text history) history

-- the sizes make a shape, and the word with this number is the first that writes no script
pub record IsUnreadScript (options : RecordOptions) (number : ℕ) : Type 0 where
  pub shape : Shape
  pub shape_given : IsShapeOf options.sizes shape
  pub place : ℕ
  pub number_is : number ≡ place + 1
  pub unread : IsFirstUnreadScript shape.k options.turns options.scripts.now place

-- the sizes and the scripts are in order, and the script with this number is the first that goes over the greatest item
-- when it is made over
pub record IsScriptOver (options : RecordOptions) (number : ℕ) : Type 0 where
  pub shape : Shape
  pub scripts : List (List Begin)
  pub given : GivesScripts options shape scripts
  pub place : ℕ
  pub number_is : number ≡ place + 1
  pub over : IsFirstOver (last_shift options.repeat scripts) scripts place

-- why a queue for these scripts is refused
abbrev pub IsQueueFault : List (List Begin) → OpenFault → Type 0
IsQueueFault scripts opens.ThreadsOutOfRange = (length scripts ≡ 0) ⊎ (64 < length scripts)
IsQueueFault scripts opens.Memory = Unit {0}
IsQueueFault scripts opens.TokensOutOfRange = ⊥
IsQueueFault scripts opens.CallsOutOfRange = (0 < length scripts) × (length scripts ≤ 64)
    × (1024 < longest scripts)

-- the run that the options give is refused its queue
pub record IsQueueRefused (options : RecordOptions) (fault : OpenFault) : Type 0 where
  pub shape : Shape
  pub scripts : List (List Begin)
  pub given : GivesScripts options shape scripts
  pub refused : IsQueueFault (all_repeated options.repeat scripts) fault

-- why there is no answer
abbrev pub IsRealRunRefusal : RecordOptions → Fault → Type 0
IsRealRunRefusal options (faults.Shape fault) = IsShapeFault options.sizes fault
IsRealRunRefusal options (faults.Word number) = IsUnreadScript options number ⊎ IsScriptOver options number
IsRealRunRefusal options (faults.Open fault) = IsQueueRefused options fault
IsRealRunRefusal options faults.Memory = Unit {0}
IsRealRunRefusal options _ = ⊥
