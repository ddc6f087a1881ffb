-- What the command `import` comes to, by its input and its failed reads.
use Rattle.std.specs.Prelude.{◌≡◌, ℕ, List, Option}
use Rattle.kfifo_model.specs.declared.calls.Call.{Call}
use Rattle.kfifo_import.specs.declared.log.ImportFault.{ImportFault}
use Rattle.kfifo_import.specs.Tables.{IsImported, IsUnimported}
use Rattle.kfifo_model.specs.RecordTexts.{IsRecordText, line, record_text}
use Rattle.kfifo_cli_texts.specs.declared.fault.Fault.{Fault}
use Rattle.kfifo_cli_texts.specs.declared.fault.Fault.TheVariants.{Input, Import, Memory}
use Rattle.kfifo_cli_commands.specs.Records.{IsInput, IsUnread}

-- The answer: the line of the record of the log that the input is. Who reads it has its history
pub record IsImport (input : Option (List ℕ)) (text : List ℕ) : Type 0 where
  pub bytes : List ℕ
  pub read : IsInput input bytes
  pub history : List Call
  pub imported : IsImported bytes history
  pub text_is : text ≡ line (record_text history)
  pub read_back : IsRecordText (record_text history) history

-- the log that the input is gives no record for this reason
abbrev pub IsNoImport : Option (List ℕ) → ImportFault → Type 0
IsNoImport input fault = (bytes : List ℕ) × IsInput input bytes × IsUnimported bytes fault

-- why there is no answer
abbrev pub IsImportRefusal : Option (List ℕ) → ℕ → ℕ → Fault → Type 0
IsImportRefusal input before after Input = IsUnread input before after
IsImportRefusal input before after (Import fault) = IsNoImport input fault
IsImportRefusal input before after Memory = Unit {0}
IsImportRefusal input before after _ = ⊥
