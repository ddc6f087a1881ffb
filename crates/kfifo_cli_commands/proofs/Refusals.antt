-- Why the commands that read a record have no answer, and what their answers are.
use Rattle.std.proofs.Common.{◌≡◌, ◌≢◌, ◌≤◌, ℕ, List, length, Option, None, Some, IfSome, refl, Result, Ok, Err, IfErr}
use Rattle.std.proofs.Common.{MatchResult, sym, subst, inl, inr, ◌⊎◌, option_map}
use Rattle.kfifo_judge.specs.declared.record.StreamFault.{StreamFault}
use Rattle.kfifo_judge.specs.declared.record.StreamFault.TheVariants as streams
use Rattle.kfifo_judge.specs.Check.{IsCheckFault}
use Rattle.kfifo_judge.specs.Measure.{IsMeasuringFault}
use Rattle.kfifo_cli_commands.proofs.Types.{Fault}
use Rattle.kfifo_cli_texts.specs.declared.fault.Fault.TheVariants.{Memory, Order, Input, Output}
use Rattle.kfifo_cli_requests.specs.declared.requests.CheckOptions.{CheckOptions}
use Rattle.kfifo_cli_texts.specs.Faults.{stream_fault}
use Rattle.kfifo_cli_texts.specs.Orders.{GivesNoOrder, GivesOrder}
use Rattle.kfifo_cli_commands.specs.Records.{IsCheckRefusal, IsInput, IsMeasureRefusal, IsOfInput, IsUnanswered}
use Rattle.kfifo_cli_commands.specs.Records.{IsOrder, IsRecordRefusal, GivesSomeOrder}
use Rattle.kfifo_cli_commands.specs.Inputs.{IsNoCalls}

-- neither side of a fault that no text and no history has
never : {A : Type 0} {B : A → Type 0} → ⊥ ⊎ ((a : A) × B a × ⊥) → ⊥
never (inl bad) = bad
never (inr bad) = bad.2

module _ (input : Option (List ℕ)) (before after : ℕ) where
  module _ (options : CheckOptions) (order : Option (List ℕ)) (ordered : IsOrder options order) where
    refused : (given : StreamFault) → IsOfInput input (IsCheckFault order) given
        → IsCheckRefusal options input before after (stream_fault given)
    refused streams.Input x = absurd (never x.3)
    refused streams.NotJson x = record {
      order = order;
      order_given = ordered;
      bytes = x.0;
      read = x.1;
      some = x.2;
      faulty = x.3;
    }
    refused (streams.Record f) x = record {
      order = order;
      order_given = ordered;
      bytes = x.0;
      read = x.1;
      some = x.2;
      faulty = x.3;
    }
    refused (streams.Search f) x = record {
      order = order;
      order_given = ordered;
      bytes = x.0;
      read = x.1;
      some = x.2;
      faulty = x.3;
    }
    refused streams.RepeatedItem x = absurd (never x.3)
    refused streams.Memory x = tt
    refused streams.Output x = tt

    -- a record without an answer is a refusal of `check`
    pub check_refused : (fault : Fault) → IsRecordRefusal input before after (IsCheckFault order) fault
        → IsCheckRefusal options input before after fault
    check_refused fault (inl memory) = subst (λ f. IsCheckRefusal options input before after f) (sym memory) tt
    check_refused fault (inr (inl unread)) = subst (λ f. IsCheckRefusal options input before after f) (sym unread.0)
        unread.1
    check_refused fault (inr (inr w)) = elim w.2 [
      | inl none ↦ subst (λ f. IsCheckRefusal options input before after f) (sym none.0)
          (subst (IsInput input) none.1 w.1)
      | inr f ↦ subst (λ f. IsCheckRefusal options input before after f) (sym f.1) (refused f.0 (w.0, w.1, f.2, f.3))
    ]

  unmeasured : (given : StreamFault) → IsOfInput input IsMeasuringFault given
      → IsMeasureRefusal input before after (stream_fault given)
  unmeasured streams.Input x = absurd (never x.3)
  unmeasured streams.NotJson x = x
  unmeasured (streams.Record f) x = x
  unmeasured (streams.Search f) x = absurd (never x.3)
  unmeasured streams.RepeatedItem x = x
  unmeasured streams.Memory x = tt
  unmeasured streams.Output x = tt

  -- bytes that are not measured are a refusal of `measure`
  pub measure_refused : (bytes : List ℕ) (fault : Fault) → IsInput input bytes
      → IsUnanswered bytes IsMeasuringFault fault
      → IsMeasureRefusal input before after fault
  measure_refused bytes fault read (inl none) =
      subst (λ f. IsMeasureRefusal input before after f) (sym none.0) (subst (IsInput input) none.1 read)
  measure_refused bytes fault read (inr f) =
      subst (λ f. IsMeasureRefusal input before after f) (sym f.1) (unmeasured f.0 (bytes, read, f.2, f.3))

  -- a text that writes no order is a refusal
  pub order_refused : (options : CheckOptions) (text : List ℕ) (fault : Fault) → option_map (λ t. t.now) options.order
      ≡ Some text
      → (fault ≡ Memory) ⊎ ((fault ≡ Order) × GivesNoOrder text) → IsCheckRefusal options input before after fault
  order_refused options text fault given (inl is) = subst (λ f. IsCheckRefusal options input before after f) (sym is) tt
  order_refused options text fault given (inr w) =
      subst (λ f. IsCheckRefusal options input before after f) (sym w.0) (record {
        text = text;
        given = given;
        unread = w.1;
      })

-- what the fault of a result has, where another fact gives it
pub err_to : {T E : Type 0} (P Q : E → Type 0) → ((e : E) → P e → Q e) → (r : Result T E) → IfErr r P → IfErr r Q
err_to P Q give (Ok x) h = tt
err_to P Q give (Err e) h = give e h

-- what each fault has, the fault of a result has
pub any_err : {T E : Type 0} (r : Result T E) (P : E → Type 0) → ((e : E) → P e) → IfErr r P
any_err (Ok x) P h = tt
any_err (Err e) P h = h e

-- the order that the option gives
pub ordered : (options : CheckOptions) (text order numbers : List ℕ) → option_map (λ t. t.now) options.order ≡ Some text
    → numbers ≡ order
    → GivesOrder text order → IsOrder options (Some numbers)
ordered options text order numbers given same written =
    subst (λ t. GivesSomeOrder t (Some numbers)) (sym given) (
      numbers,
      refl,
      subst (λ o. GivesOrder text o) (sym same)
          written,
    )

-- an input that has no calls is no failure of writing
no_output : (bytes : List ℕ) (fault : Fault) → IsNoCalls bytes fault → fault ≡ Output → ⊥
no_output bytes fault none is = subst (λ f. IsNoCalls bytes f) is none

pub silent : {T : Type 0} (bytes : List ℕ) (P : T → Type 0) (r : Result T Fault) (fault : Fault) → r ≡ Err fault
    → MatchResult r P (IsNoCalls bytes) → fault ≢ Output
silent bytes P (Ok x) fault is h = absurd (cc)
silent bytes P (Err other) fault is h = λ output. no_output bytes other h (let same : other ≡ Output = cc in same)
