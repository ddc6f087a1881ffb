-- What the command `draw` comes to, by its options, its input and its failed reads. How a picture looks is not said.
use Rattle.std.specs.Prelude.{ℕ, ◌≡◌, true, false, Bool, List, [], Option, Some, None, IsSome, MatchOption, length}
use Rattle.std.specs.Prelude.{option_map}
use Rattle.kfifo_model.specs.declared.calls.Call.{Call}
use Rattle.kfifo_model.specs.declared.logged.LoggedCall.{LoggedCall}
use Rattle.kfifo_verdict.specs.declared.verdicts.Evidence.{Evidence}
use Rattle.kfifo_verdict.specs.Judging.{HasNoEvidence, IsFirstEvidence}
use Rattle.kfifo_draw.specs.Drawing.{AreFew, AreMany, IsInPart}
use Rattle.kfifo_draw.specs.declared.part.Part.{Part}
use Rattle.kfifo_cli_texts.specs.declared.fault.Fault.{Fault}
use Rattle.kfifo_cli_texts.specs.declared.fault.Fault.TheVariants.{Order, Input, NoInput, NotJson, Record, Import}
use Rattle.kfifo_cli_texts.specs.declared.fault.Fault.TheVariants.{TooManyDrawn, Contradiction, Stretch, NoLines}
use Rattle.kfifo_cli_texts.specs.declared.fault.Fault.TheVariants.{NoEvidence, Memory}
use Rattle.kfifo_cli_requests.specs.declared.requests.DrawOptions.{DrawOptions}
use Rattle.kfifo_cli_commands.specs.declared.cut.Cut.{Cut}
use Rattle.kfifo_cli_commands.specs.Cuts.{AsksFor, IsCutFault, IsOfLines, IsPartOf, LacksEvidence}
use Rattle.kfifo_judge.specs.Inputs.{BeginsRecord}
use Rattle.kfifo_judge.specs.Reasons.{named_by}
use Rattle.kfifo_cli_commands.specs.Inputs.{IsCalls, IsCallsInput, IsCallsUnread, IsNoCalls, logged_calls}
use Rattle.kfifo_cli_commands.specs.Records.{IsOrder, IsOrderFault}

-- the evidence for this k, where it is asked for
abbrev pub IsSought : Bool → ℕ → List Call → Option Evidence → Type 0
IsSought true k h found = MatchOption found (HasNoEvidence k h) (IsFirstEvidence k h)
IsSought false k h found = found ≡ None

-- a picture has the calls for which P holds
abbrev pub HasFew : Option Evidence → (ℕ → Type 0) → ℕ → Type 0
HasFew found P n = AreFew P n

-- P holds of too many calls, and they are those that are asked for
abbrev pub HasMany : Bool → Cut → Option Evidence → (ℕ → Type 0) → ℕ → Type 0
HasMany asked cut found P n = AreMany P n × ¬ (LacksEvidence asked found cut)

-- P holds of too many calls, since no evidence says which of them are asked for
abbrev pub HasManyUnnamed : Bool → Cut → Option Evidence → (ℕ → Type 0) → ℕ → Type 0
HasManyUnnamed asked cut found P n = AreMany P n × LacksEvidence asked found cut

-- The number of the calls to be drawn: `Has` says of the evidence, of a fact and of how many calls there are whether it
-- holds of few or of many.
pub record IsPictureOf (Has : Option Evidence → (ℕ → Type 0) → ℕ → Type 0) (k : ℕ) (asked : Bool) (cut : Cut)
    (h : List Call) (logged : List LoggedCall) : Type 0 where
  pub found : Option Evidence
  pub sought : IsSought asked k h found
  pub part : Part
  pub cut_to : IsPartOf (option_map (named_by h) found) cut part
  pub drawn : Has found (IsInPart h logged part) (length h)

-- why these calls of a history are not drawn
abbrev pub IsNotDrawn : ℕ → Bool → Cut → List Call → List LoggedCall → Fault → Type 0
IsNotDrawn k asked cut h logged TooManyDrawn = IsPictureOf (HasMany asked cut) k asked cut h logged
IsNotDrawn k asked cut h logged NoEvidence = IsPictureOf (HasManyUnnamed asked cut) k asked cut h logged
IsNotDrawn k asked cut h logged Memory = Unit {0}
IsNotDrawn k asked cut h logged _ = ⊥

-- the calls of an input, few or many of them to be drawn
pub record AreCallsOf (Has : Option Evidence → (ℕ → Type 0) → ℕ → Type 0) (k : ℕ) (asked : Bool) (cut : Cut)
    (bytes : List ℕ) : Type 0 where
  pub history : List Call
  pub logged : Option (List LoggedCall)
  pub calls : IsCalls bytes history logged
  pub lines : IsOfLines cut → IsSome logged
  pub number : IsPictureOf Has k asked cut history (logged_calls logged)

-- there is a picture of these calls of an input
abbrev pub IsPicture : ℕ → Bool → Cut → List ℕ → Type 0
IsPicture k asked cut bytes = AreCallsOf HasFew k asked cut bytes

-- why there is no picture of these calls of an input
abbrev pub IsNoPicture : ℕ → Bool → Cut → List ℕ → Fault → Type 0
IsNoPicture k asked cut bytes NoInput = IsNoCalls bytes NoInput
IsNoPicture k asked cut bytes NotJson = IsNoCalls bytes NotJson
IsNoPicture k asked cut bytes (Record fault) = IsNoCalls bytes (Record fault)
IsNoPicture k asked cut bytes (Import fault) = IsNoCalls bytes (Import fault)
IsNoPicture k asked cut bytes NoLines = IsOfLines cut × BeginsRecord bytes
IsNoPicture k asked cut bytes TooManyDrawn = AreCallsOf (HasMany asked cut) k asked cut bytes
IsNoPicture k asked cut bytes NoEvidence = AreCallsOf (HasManyUnnamed asked cut) k asked cut bytes
IsNoPicture k asked cut bytes Memory = Unit {0}
IsNoPicture k asked cut bytes _ = ⊥

-- there is a picture: of the calls that the options ask for, with the order where one is given
pub record IsDraw (options : DrawOptions) (input : Option (List ℕ)) : Type 0 where
  pub cut : Cut
  pub asked : AsksFor options cut
  pub order : Option (List ℕ)
  pub order_given : IsOrder options.check order
  pub bytes : List ℕ
  pub read : IsCallsInput input bytes
  pub pictured : IsPicture options.check.k options.evidence cut bytes

-- the options ask for calls of the input that have no picture
pub record IsUndrawn (options : DrawOptions) (input : Option (List ℕ)) (fault : Fault) : Type 0 where
  pub cut : Cut
  pub asked : AsksFor options cut
  pub bytes : List ℕ
  pub read : IsCallsInput input bytes
  pub unpictured : IsNoPicture options.check.k options.evidence cut bytes fault

-- why there is no picture
abbrev pub IsDrawRefusal : DrawOptions → Option (List ℕ) → ℕ → ℕ → Fault → Type 0
IsDrawRefusal options input before after Contradiction = IsCutFault options Contradiction
IsDrawRefusal options input before after Stretch = IsCutFault options Stretch
IsDrawRefusal options input before after Order = IsOrderFault options.check
IsDrawRefusal options input before after Input = IsCallsUnread input before after
IsDrawRefusal options input before after Memory = Unit {0}
IsDrawRefusal options input before after fault = IsUndrawn options input fault
