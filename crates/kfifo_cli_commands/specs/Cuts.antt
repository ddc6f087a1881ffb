-- Which calls `draw` is asked to draw, by its options.
use Rattle.std.specs.Prelude.{ℕ, ◌≡◌, ◌≤◌, ◌⊎◌, true, false, Bool, List, [], ◌∷◌, Option, Some, None, IsSome}
use Rattle.std.specs.Prelude.{option_map, take, unwrap_or}
use denote.Ref.{Bor}
use Rattle.kfifo_model.specs.declared.calls.Call.{Call}
use Rattle.kfifo_verdict.specs.declared.verdicts.Evidence.{Evidence}
use Rattle.kfifo_draw.specs.declared.part.Part.{Part}
use Rattle.kfifo_draw.specs.declared.part.Part.TheVariants as parts
use Rattle.kfifo_cli_texts.specs.declared.fault.Fault.{Fault}
use Rattle.kfifo_cli_texts.specs.declared.fault.Fault.TheVariants as faults
use Rattle.kfifo_cli_texts.specs.declared.stretch.Stretch.{Stretch}
use Rattle.kfifo_cli_texts.specs.Stretches.{WritesStretch}
use Rattle.kfifo_cli_requests.specs.declared.requests.DrawOptions.{DrawOptions}
use Rattle.kfifo_cli_commands.specs.declared.cut.Cut.{Cut}
use Rattle.kfifo_cli_commands.specs.declared.cut.Cut.TheVariants as cuts

-- The options contradict each other: `--evidence` and `--order`, `--around` with no `--evidence`, `--text` and
-- `--width`, or `--calls` and `--lines`.
abbrev pub Contradict : DrawOptions → Type 0
Contradict options = ((options.evidence ≡ true) × IsSome options.check.order)
    ⊎ ((options.evidence ≡ false) × IsSome options.around)
    ⊎ ((options.text ≡ true) × IsSome options.width)
    ⊎ (IsSome options.calls × IsSome options.lines)

-- what an option gives, where it is given
abbrev pub given : Option (Bor (List ℕ)) → Option (List ℕ)
given text = option_map (λ t. t.now) text

-- an option gives this stretch
abbrev pub GivesStretch : Option (List ℕ) → Stretch → Type 0
GivesStretch option stretch = (text : List ℕ) × (option ≡ Some text) × WritesStretch text stretch

-- an option gives a text that writes no stretch
abbrev pub GivesNoStretch : Option (List ℕ) → Type 0
GivesNoStretch option = (text : List ℕ) × (option ≡ Some text) × ((stretch : Stretch) → ¬ WritesStretch text stretch)

-- the options ask for these calls, where none contradicts another
abbrev pub AsksForCut : DrawOptions → Cut → Type 0
AsksForCut options cuts.Whole = (given options.calls ≡ None) × (given options.lines ≡ None) × (options.evidence ≡ false)
AsksForCut options (cuts.Calls stretch) = GivesStretch (given options.calls) stretch
AsksForCut options (cuts.Lines stretch) = (given options.calls ≡ None) × GivesStretch (given options.lines) stretch
AsksForCut options (cuts.Evidence around) = (given options.calls ≡ None) × (given options.lines ≡ None)
    × (options.evidence ≡ true)
    × (around ≡ unwrap_or options.around 8)

-- lines of a log say which calls are drawn
abbrev pub IsOfLines : Cut → Type 0
IsOfLines (cuts.Lines stretch) = Unit {0}
IsOfLines _ = ⊥

-- the options ask for these calls
abbrev pub AsksFor : DrawOptions → Cut → Type 0
AsksFor options cut = ¬ (Contradict options) × AsksForCut options cut

-- evidence is asked for and would say which calls are drawn, and there is none
abbrev pub LacksEvidence : Bool → Option Evidence → Cut → Type 0
LacksEvidence true None (cuts.Evidence around) = Unit {0}
LacksEvidence _ _ _ = ⊥

-- why the options ask for no calls
abbrev pub IsCutFault : DrawOptions → Fault → Type 0
IsCutFault options faults.Contradiction = Contradict options
IsCutFault options faults.Stretch = GivesNoStretch (given options.calls) ⊎ GivesNoStretch (given options.lines)
IsCutFault options _ = ⊥

-- the part of a history that is to be drawn, where the evidence names these calls: all where there is no evidence
abbrev pub IsPartOf : Option (List ℕ) → Cut → Part → Type 0
IsPartOf named cuts.Whole part = part ≡ parts.All
IsPartOf named (cuts.Calls stretch) part = part ≡ parts.Calls stretch.first stretch.last
IsPartOf named (cuts.Lines stretch) part = part ≡ parts.Lines stretch.first stretch.last
IsPartOf None (cuts.Evidence around) part = part ≡ parts.All
IsPartOf (Some calls) (cuts.Evidence around) part = (named : Bor (List ℕ)) × (part ≡ parts.Near named around)
    × (named.now ≡ calls)
