-- What the calls of an input come to: a picture, or why there is none.
use Rattle.std.proofs.Common.{◌≡◌, ℕ, Bool, true, false, List, Option, Some, None, IsSome, refl, length}
use Rattle.std.proofs.Common.{subst, sym}
use Rattle.kfifo_model.specs.declared.calls.Call.{Call}
use Rattle.kfifo_model.specs.declared.logged.LoggedCall.{LoggedCall}
use Rattle.kfifo_verdict.specs.declared.verdicts.Evidence.{Evidence}
use Rattle.kfifo_verdict.specs.Judging.{HasNoEvidence, IsFirstEvidence}
use Rattle.kfifo_draw.specs.Drawing.{AreMany, IsDrawFault, IsInPart}
use Rattle.kfifo_draw.specs.declared.part.Part.{Part}
use Rattle.kfifo_draw.specs.declared.picture.DrawFault.{DrawFault}
use Rattle.kfifo_draw.specs.declared.picture.DrawFault.TheVariants as pictures
use Rattle.kfifo_cli_texts.specs.Faults.{picture_fault}
use Rattle.kfifo_cli_commands.proofs.Types.{Fault}
use Rattle.kfifo_cli_texts.specs.declared.fault.Fault.TheVariants.{Shape, Word, Order, Picks, Replay, Trace, Open}
use Rattle.kfifo_cli_texts.specs.declared.fault.Fault.TheVariants.{Dispatch, Input, NoInput, NotJson, Record, Search}
use Rattle.kfifo_cli_texts.specs.declared.fault.Fault.TheVariants.{RepeatedItem, Import, TooManyDrawn, Contradiction}
use Rattle.kfifo_cli_texts.specs.declared.fault.Fault.TheVariants.{Stretch, NoLines, NoEvidence, Unexplained, Memory}
use Rattle.kfifo_cli_texts.specs.declared.fault.Fault.TheVariants.{Output}
use Rattle.kfifo_cli_commands.specs.declared.cut.Cut.{Cut}
use Rattle.kfifo_cli_commands.specs.declared.cut.Cut.TheVariants as cuts
use Rattle.kfifo_judge.specs.Reasons.{named_by}
use Rattle.kfifo_cli_commands.specs.Cuts.{IsOfLines, IsPartOf, LacksEvidence}
use Rattle.kfifo_cli_commands.specs.Inputs.{IsCalls, IsNoCalls, logged_calls}
use Rattle.kfifo_cli_commands.specs.Pictures.{AreCallsOf, HasManyUnnamed, HasFew, HasMany, IsNoPicture, IsNotDrawn}
use Rattle.kfifo_cli_commands.specs.Pictures.{IsPictureOf}

module _ (k : ℕ) (asked : Bool) (cut : Cut) (bytes : List ℕ) where
  -- an input that has no calls has no picture
  pub no_calls : (fault : Fault) → IsNoCalls bytes fault → IsNoPicture k asked cut bytes fault
  no_calls Contradiction u = absurd u
  no_calls Stretch u = absurd u
  no_calls (Shape fault) u = absurd u
  no_calls (Word number) u = absurd u
  no_calls Order u = absurd u
  no_calls Picks u = absurd u
  no_calls (Replay fault) u = absurd u
  no_calls Trace u = absurd u
  no_calls (Open fault) u = absurd u
  no_calls (Dispatch fault) u = absurd u
  no_calls Input u = absurd u
  no_calls NoInput u = u
  no_calls NotJson u = u
  no_calls (Record fault) u = u
  no_calls (Search fault) u = absurd u
  no_calls RepeatedItem u = absurd u
  no_calls (Import fault) u = u
  no_calls TooManyDrawn u = absurd u
  no_calls NoLines u = absurd u
  no_calls NoEvidence u = absurd u
  no_calls Unexplained u = absurd u
  no_calls Memory u = tt
  no_calls Output u = absurd u

  module _ (history : List Call) (logged : Option (List LoggedCall)) (calls : IsCalls bytes history logged)
      (lines : IsOfLines cut → IsSome logged) where
    pub of_calls : (Has : Option Evidence → (ℕ → Type 0) → ℕ → Type 0)
        → IsPictureOf Has k asked cut history (logged_calls logged)
        → AreCallsOf Has k asked cut bytes
    of_calls Has number = record { history = history; logged = logged; calls = calls; lines = lines; number = number }

    pub not_drawn : (fault : Fault) → IsNotDrawn k asked cut history (logged_calls logged) fault
        → IsNoPicture k asked cut bytes fault
    not_drawn TooManyDrawn u = of_calls (HasMany asked cut) u
    not_drawn NoEvidence u = of_calls (HasManyUnnamed asked cut) u
    not_drawn Memory u = tt
    not_drawn Contradiction u = absurd u
    not_drawn Stretch u = absurd u
    not_drawn (Shape fault) u = absurd u
    not_drawn (Word number) u = absurd u
    not_drawn Order u = absurd u
    not_drawn Picks u = absurd u
    not_drawn (Replay fault) u = absurd u
    not_drawn Trace u = absurd u
    not_drawn (Open fault) u = absurd u
    not_drawn (Dispatch fault) u = absurd u
    not_drawn Input u = absurd u
    not_drawn NoInput u = absurd u
    not_drawn NotJson u = absurd u
    not_drawn (Record fault) u = absurd u
    not_drawn (Search fault) u = absurd u
    not_drawn RepeatedItem u = absurd u
    not_drawn (Import fault) u = absurd u
    not_drawn NoLines u = absurd u
    not_drawn Unexplained u = absurd u
    not_drawn Output u = absurd u

module _ (k : ℕ) (cut : Cut) (h : List Call) (logged : List LoggedCall) (part : Part) where
  -- calls that are not drawn, where no evidence is asked for
  pub plain_refused : (fault : DrawFault) → IsPartOf None cut part → IsDrawFault h logged part fault
      → IsNotDrawn k false cut h logged (picture_fault fault)
  plain_refused pictures.TooMany to many =
      record { found = None; sought = refl; part = part; cut_to = to; drawn = (many, λ lacks. lacks) }
  plain_refused pictures.Memory to few = tt

  -- the same, where the evidence is this one
  pub found_refused : (found : Evidence) (fault : DrawFault) → IsFirstEvidence k h found
      → IsPartOf (Some (named_by h found)) cut part
      → (fault ≡ pictures.TooMany → AreMany (IsInPart h logged part) (length h))
      → IsNotDrawn k true cut h logged (picture_fault fault)
  found_refused found pictures.TooMany first to many =
      record { found = Some found; sought = first; part = part; cut_to = to; drawn = (many refl, λ lacks. lacks) }
  found_refused found pictures.Memory first to many = tt

none_drawn : (Has : Option Evidence → (ℕ → Type 0) → ℕ → Type 0) (k : ℕ) (cut : Cut) (h : List Call)
    (logged : List LoggedCall)
    (part : Part) → HasNoEvidence k h → IsPartOf None cut part → Has None (IsInPart h logged part) (length h)
    → IsPictureOf Has k true cut h logged
none_drawn Has k cut h logged part none to drawn =
    record { found = None; sought = none; part = part; cut_to = to; drawn = drawn }

-- the same, where there is none
pub none_refused : (k : ℕ) (cut : Cut) (h : List Call) (logged : List LoggedCall) (part : Part) (fault : DrawFault)
    (told : Fault)
    → HasNoEvidence k h → IsPartOf None cut part
    → (fault ≡ pictures.TooMany → AreMany (IsInPart h logged part) (length h))
    → (fault ≡ pictures.Memory → told ≡ Memory)
    → (fault ≡ pictures.TooMany → LacksEvidence true None cut → told ≡ NoEvidence)
    → (fault ≡ pictures.TooMany → ¬ (LacksEvidence true None cut) → told ≡ TooManyDrawn)
    → IsNotDrawn k true cut h logged told
none_refused k cut h logged part pictures.Memory told none to many memory lacks has =
    subst (λ f. IsNotDrawn k true cut h logged f) (sym (memory refl)) tt
none_refused k (cuts.Evidence around) h logged part pictures.TooMany told none to many memory lacks has =
    subst (λ f. IsNotDrawn k true (cuts.Evidence around) h logged f) (sym (lacks refl tt))
    (none_drawn (HasManyUnnamed true (cuts.Evidence around)) k (cuts.Evidence around) h logged part none to
    (many refl, tt))
none_refused k cuts.Whole h logged part pictures.TooMany told none to many memory lacks has =
    subst (λ f. IsNotDrawn k true cuts.Whole h logged f) (sym (has refl (λ l. l)))
    (none_drawn (HasMany true cuts.Whole) k cuts.Whole h logged part none to (many refl, λ l. l))
none_refused k (cuts.Calls s) h logged part pictures.TooMany told none to many memory lacks has =
    subst (λ f. IsNotDrawn k true (cuts.Calls s) h logged f) (sym (has refl (λ l. l)))
    (none_drawn (HasMany true (cuts.Calls s)) k (cuts.Calls s) h logged part none to (many refl, λ l. l))
none_refused k (cuts.Lines s) h logged part pictures.TooMany told none to many memory lacks has =
    subst (λ f. IsNotDrawn k true (cuts.Lines s) h logged f) (sym (has refl (λ l. l)))
    (none_drawn (HasMany true (cuts.Lines s)) k (cuts.Lines s) h logged part none to (many refl, λ l. l))
