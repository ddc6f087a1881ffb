-- Why the command `draw` has no answer.
use Rattle.std.proofs.Common.{◌≡◌, ◌≢◌, ℕ, List, Option, Some, subst, sym, ◌⊎◌, inl, inr, option_map}
use Rattle.kfifo_cli_commands.proofs.Types.{Fault}
use Rattle.kfifo_cli_texts.specs.declared.fault.Fault.TheVariants.{Shape, Word, Order, Picks, Replay, Trace, Open}
use Rattle.kfifo_cli_texts.specs.declared.fault.Fault.TheVariants.{Dispatch, Input, NoInput, NotJson, Record, Search}
use Rattle.kfifo_cli_texts.specs.declared.fault.Fault.TheVariants.{RepeatedItem, Import, TooManyDrawn, Contradiction}
use Rattle.kfifo_cli_texts.specs.declared.fault.Fault.TheVariants.{Stretch, NoLines, NoEvidence, Unexplained, Memory}
use Rattle.kfifo_cli_texts.specs.declared.fault.Fault.TheVariants.{Output}
use Rattle.kfifo_cli_commands.specs.declared.cut.Cut.{Cut}
use Rattle.kfifo_cli_requests.specs.declared.requests.DrawOptions.{DrawOptions}
use Rattle.kfifo_cli_commands.specs.Cuts.{AsksFor, IsCutFault}
use Rattle.kfifo_cli_commands.specs.Pictures.{IsDrawRefusal, IsNoPicture, IsUndrawn}
use Rattle.kfifo_cli_commands.specs.Inputs.{IsCallsInput, IsCallsRefusal, IsCallsUnread}
use Rattle.kfifo_cli_commands.proofs.Picturing.{no_calls}
use Rattle.kfifo_cli_commands.specs.Records.{IsOrderFault}

module _ (input : Option (List ℕ)) (before after : ℕ) (options : DrawOptions) where
  -- options that ask for no calls are a refusal
  pub cut_refused : (fault : Fault) → IsCutFault options fault → IsDrawRefusal options input before after fault
  cut_refused Contradiction u = u
  cut_refused Stretch u = u
  cut_refused (Shape fault) u = absurd u
  cut_refused (Word number) u = absurd u
  cut_refused Order u = absurd u
  cut_refused Picks u = absurd u
  cut_refused (Replay fault) u = absurd u
  cut_refused Trace u = absurd u
  cut_refused (Open fault) u = absurd u
  cut_refused (Dispatch fault) u = absurd u
  cut_refused Input u = absurd u
  cut_refused NoInput u = absurd u
  cut_refused NotJson u = absurd u
  cut_refused (Record fault) u = absurd u
  cut_refused (Search fault) u = absurd u
  cut_refused RepeatedItem u = absurd u
  cut_refused (Import fault) u = absurd u
  cut_refused TooManyDrawn u = absurd u
  cut_refused NoLines u = absurd u
  cut_refused NoEvidence u = absurd u
  cut_refused Unexplained u = absurd u
  cut_refused Memory u = absurd u
  cut_refused Output u = absurd u

  -- an order that is none is a refusal
  pub order_refused : (fault : Fault) → (fault ≡ Memory) ⊎ ((fault ≡ Order) × IsOrderFault options.check)
      → IsDrawRefusal options input before after fault
  order_refused fault (inl is) = subst (λ f. IsDrawRefusal options input before after f) (sym is) tt
  order_refused fault (inr w) = subst (λ f. IsDrawRefusal options input before after f) (sym w.0) w.1

  -- an input that was not read is a refusal
  input_refused : (fault : Fault) → (fault ≡ Memory) ⊎ ((fault ≡ Input) × IsCallsUnread input before after)
      → IsDrawRefusal options input before after fault
  input_refused fault (inl is) = subst (λ f. IsDrawRefusal options input before after f) (sym is) tt
  input_refused fault (inr w) = subst (λ f. IsDrawRefusal options input before after f) (sym w.0) w.1

  module _ (cut : Cut) (asked : AsksFor options cut) (bytes : List ℕ) (read : IsCallsInput input bytes) where
    undrawn : (fault : Fault) → IsNoPicture options.check.k options.evidence cut bytes fault
        → IsUndrawn options input fault
    undrawn fault u = record { cut = cut; asked = asked; bytes = bytes; read = read; unpictured = u }

    -- calls of an input of which there is no picture are a refusal
    pub picture_refused : (fault : Fault) → IsNoPicture options.check.k options.evidence cut bytes fault
        → IsDrawRefusal options input before after fault
    picture_refused Contradiction u = absurd u
    picture_refused Stretch u = absurd u
    picture_refused (Shape fault) u = absurd u
    picture_refused (Word number) u = absurd u
    picture_refused Order u = absurd u
    picture_refused Picks u = absurd u
    picture_refused (Replay fault) u = absurd u
    picture_refused Trace u = absurd u
    picture_refused (Open fault) u = absurd u
    picture_refused (Dispatch fault) u = absurd u
    picture_refused Input u = absurd u
    picture_refused NoInput u = undrawn NoInput u
    picture_refused NotJson u = undrawn NotJson u
    picture_refused (Record fault) u = undrawn (Record fault) u
    picture_refused (Search fault) u = absurd u
    picture_refused RepeatedItem u = absurd u
    picture_refused (Import fault) u = undrawn (Import fault) u
    picture_refused TooManyDrawn u = undrawn TooManyDrawn u
    picture_refused NoLines u = undrawn NoLines u
    picture_refused NoEvidence u = undrawn NoEvidence u
    picture_refused Unexplained u = absurd u
    picture_refused Memory u = tt
    picture_refused Output u = absurd u

  -- an input without calls is a refusal
  pub calls_refused : (cut : Cut) → AsksFor options cut → (fault : Fault) → IsCallsRefusal input before after fault
      → IsDrawRefusal options input before after fault
  calls_refused cut asked fault (inl memory) = input_refused fault (inl memory)
  calls_refused cut asked fault (inr (inl unread)) = input_refused fault (inr unread)
  calls_refused cut asked fault (inr (inr none)) = picture_refused cut asked none.0 none.1 fault
      (no_calls options.check.k options.evidence cut none.0 fault none.2)

  -- a refusal is no failure of writing
  pub refusal_told : (fault : Fault) → IsDrawRefusal options input before after fault → fault ≢ Output
  refusal_told fault u is =
      let w : IsUndrawn options input Output = subst (λ f. IsDrawRefusal options input before after f) is u in
      w.unpictured
