-- What the command `replay` comes to.
use Rattle.std.specs.Prelude.{◌≡◌, ℕ, ◌+◌, ◌<◌, ◌≤◌, ◌⊎◌, Bool, true, false, ◌&&◌, not, List, [], ◌++◌, Option, Some}
use Rattle.std.specs.Prelude.{None, IsTrue, codes, decimal, is_some, length}
use Rattle.kfifo_words.specs.declared.shape.Shape.{Shape}
use Rattle.kfifo_model.specs.declared.calls.Call.{Call}
use Rattle.kfifo_machine.specs.declared.event.Begin.{Begin}
use Rattle.kfifo_machine.specs.declared.event.Event.{Event}
use Rattle.kfifo_machine.specs.Machine.{opening}
use Rattle.kfifo_judge.specs.Numbers.{numbers_line}
use Rattle.kfifo_replay.specs.declared.fault.ReplayFault.{ReplayFault}
use Rattle.kfifo_replay.specs.declared.fault.ReplayFault.TheVariants as replays
use Rattle.kfifo_replay.specs.declared.report.Report.{Report}
use Rattle.kfifo_replay.specs.declared.steps.Step.{Step}
use Rattle.kfifo_replay.specs.Finishing.{Finishes}
use Rattle.kfifo_replay.specs.Picks.{events_of}
use Rattle.kfifo_replay.specs.Player.{IsFirstRefused}
use Rattle.kfifo_replay.specs.Reports.{ArePoints, IsHistoryOf, IsReport}
use Rattle.kfifo_replay.specs.Scripts.{AreScripts}
use Rattle.kfifo_replay.specs.Steps.{AreSteps}
use Rattle.kfifo_cli_commands.specs.declared.tracing.TheConstants.{MAX_STEPS}
use Rattle.kfifo_cli_texts.specs.declared.fault.Fault.{Fault}
use Rattle.kfifo_cli_texts.specs.declared.fault.Fault.TheVariants as faults
use Rattle.kfifo_cli_requests.specs.declared.requests.ReplayOptions.{ReplayOptions}
use Rattle.kfifo_cli_texts.specs.declared.picks.Group.{Group}
use Rattle.kfifo_model.specs.RecordTexts.{line, record_text}
use Rattle.kfifo_cli_texts.specs.Picks.{GivesGroups, GivesNoGroups, picks_of}
use Rattle.kfifo_cli_texts.specs.TraceLines.{trace_lines}
use Rattle.kfifo_cli_requests.specs.Sizes.{IsShapeFault, IsShapeOf}
use Rattle.kfifo_cli_texts.specs.Scripts.{IsFirstUnreadScript, WriteScripts}

-- ---- the lines

abbrev pub completed_line : Option ℕ → ℕ → List ℕ
completed_line None count = []
completed_line (Some stopped) count = line (codes "completed " ++ decimal count)

abbrev pub first_lines : Report → List ℕ
first_lines r = line (codes "steps " ++ decimal r.steps) ++ numbers_line (codes "order ") r.order.items

abbrev pub last_lines : Option ℕ → Report → List ℕ
last_lines stopped r = line (codes "worst rank " ++ decimal r.worst_rank)
    ++ line (codes "rollbacks " ++ decimal r.rollbacks) ++ completed_line stopped r.completed

-- ---- the answer

-- the line of the points, where it is asked for
abbrev pub IsPointsLine : Bool → Shape → List (List Begin) → List ℕ → List ℕ → Type 0
IsPointsLine false shape scripts picks text = text ≡ []
IsPointsLine true shape scripts picks text = (points : List ℕ) × ArePoints shape scripts picks points
    × (text ≡ numbers_line (codes "points ") points)

-- the lines of the report of these picks
pub record IsReportText (points : Bool) (stopped : Option ℕ) (shape : Shape) (scripts : List (List Begin))
    (picks text : List ℕ) : Type 0 where
  pub report : Report
  pub reported : IsReport shape scripts picks report
  pub middle : List ℕ
  pub points_line : IsPointsLine points shape scripts picks middle
  pub text_is : text ≡ first_lines report ++ middle ++ last_lines stopped report

-- the line of the record of the calls that these picks make
pub record IsRecordLine (shape : Shape) (scripts : List (List Begin)) (picks text : List ℕ) : Type 0 where
  pub history : List Call
  pub made : IsHistoryOf shape scripts picks history
  pub text_is : text ≡ line (record_text history)

-- a line for each event of the schedule that these picks make, in turn, and the report behind them
pub record IsTracedText (points : Bool) (stopped : Option ℕ) (shape : Shape) (scripts : List (List Begin))
    (picks text : List ℕ)
    : Type 0 where
  pub events : List Event
  pub made : events_of shape scripts picks ≡ Some events
  pub steps : List Step
  pub are : AreSteps shape (opening shape (length scripts)) events steps
  pub report : List ℕ
  pub reported : IsReportText points stopped shape scripts picks report
  pub text_is : text ≡ trace_lines shape.k 0 steps ++ report

-- the text for these picks with no lines of their events: the record where it is asked for, and else the report
abbrev pub IsPlainText : Bool → Bool → Option ℕ → Shape → List (List Begin) → List ℕ → List ℕ → Type 0
IsPlainText true points stopped shape scripts picks text = IsRecordLine shape scripts picks text
IsPlainText false points stopped shape scripts picks text = IsReportText points stopped shape scripts picks text

-- the text for these picks: the record where it is asked for, and else the report, with the lines of the events before
-- it where those are asked for
abbrev pub IsReplayText : Bool → Bool → Bool → Option ℕ → Shape → List (List Begin) → List ℕ → List ℕ → Type 0
IsReplayText true trace points stopped shape scripts picks text = IsRecordLine shape scripts picks text
IsReplayText false true points stopped shape scripts picks text = IsTracedText points stopped shape scripts picks text
IsReplayText false false points stopped shape scripts picks text = IsReportText points stopped shape scripts picks text

-- the lines of the events are printed: they are asked for, and no record is
abbrev pub traces : Bool → Bool → Bool
traces record_asked trace = trace && not record_asked

-- the schedule that these picks make has over 65,536 events
pub record IsLong (shape : Shape) (scripts : List (List Begin)) (picks : List ℕ) : Type 0 where
  pub events : List Event
  pub made : events_of shape scripts picks ≡ Some events
  pub long : MAX_STEPS < length events

-- the picks that are made of those given: these, and where a thread is stopped behind them those with which each other
-- thread goes to the end of its script
abbrev pub Makes : Option ℕ → Shape → List (List Begin) → List ℕ → List ℕ → Type 0
Makes None shape scripts given made = made ≡ given
Makes (Some stopped) shape scripts given made = (more : List ℕ) × (made ≡ given ++ more) × (stopped < length scripts)
    × Finishes stopped shape scripts (length scripts) given more

-- the shape, the scripts and the groups of picks that the options give
pub record Gives (options : ReplayOptions) (shape : Shape) (scripts : List (List Begin))
    (groups : List Group) : Type 0 where
  pub shape_given : IsShapeOf options.sizes shape
  pub scripts_given : WriteScripts shape.k options.turns options.scripts.now scripts
  pub groups_given : GivesGroups options.picks.now groups

-- The answer: the text for the picks that are made of those that the options give
pub record IsReplayAnswer (options : ReplayOptions) (text : List ℕ) : Type 0 where
  pub shape : Shape
  pub scripts : List (List Begin)
  pub groups : List Group
  pub given : Gives options shape scripts groups
  pub made : List ℕ
  pub makes : Makes options.stopped shape scripts (picks_of groups) made
  pub is : IsReplayText options.record options.trace options.points options.stopped shape scripts made text

-- ---- the refusals

-- the sizes make a shape, and the word with this number is the first that writes no script
pub record IsScriptFault (options : ReplayOptions) (number : ℕ) : Type 0 where
  pub shape : Shape
  pub shape_given : IsShapeOf options.sizes shape
  pub place : ℕ
  pub number_is : number ≡ place + 1
  pub unread : IsFirstUnreadScript shape.k options.turns options.scripts.now place

-- the sizes and the scripts are in order, and the value of the option gives no picks
pub record IsPicksFault (options : ReplayOptions) : Type 0 where
  pub shape : Shape
  pub shape_given : IsShapeOf options.sizes shape
  pub scripts : List (List Begin)
  pub scripts_given : WriteScripts shape.k options.turns options.scripts.now scripts
  pub unread : GivesNoGroups options.picks.now

-- the thread that is to be stopped has no script
abbrev pub IsUnknown : Option ℕ → List (List Begin) → Type 0
IsUnknown None scripts = ⊥
IsUnknown (Some stopped) scripts = length scripts ≤ stopped

-- why a replay refuses: a pick is the first that is refused; or these are no scripts, or all picks are made and the
-- thread to be stopped has no script
abbrev pub IsRefusal : Option ℕ → Shape → List (List Begin) → List ℕ → ReplayFault → Type 0
IsRefusal stopped shape scripts picks (replays.BadPick place) = IsFirstRefused shape scripts picks place
IsRefusal stopped shape scripts picks replays.Memory = Unit {0}
IsRefusal stopped shape scripts picks replays.BadScript = (AreScripts shape scripts → ⊥)
    ⊎ (IsTrue (is_some (events_of shape scripts picks)) × IsUnknown stopped scripts)

-- the lines of the events are to be printed, and the picks that are made of these have over 65,536 events
pub record IsLongTrace (options : ReplayOptions) (shape : Shape) (scripts : List (List Begin)) (picks : List ℕ)
    : Type 0 where
  pub asked : traces options.record options.trace ≡ true
  pub made : List ℕ
  pub makes : Makes options.stopped shape scripts picks made
  pub long : IsLong shape scripts made

-- why there is no text of these picks
abbrev pub IsUnplayed : ReplayOptions → Shape → List (List Begin) → List ℕ → Fault → Type 0
IsUnplayed options shape scripts picks fault = (fault ≡ faults.Memory)
    ⊎ ((given : ReplayFault) × (fault ≡ faults.Replay given) × IsRefusal options.stopped shape scripts picks given)
    ⊎ ((fault ≡ faults.Trace) × IsLongTrace options shape scripts picks)

-- the replay that the options give refuses so
pub record IsReplayFault (options : ReplayOptions) (fault : ReplayFault) : Type 0 where
  pub shape : Shape
  pub scripts : List (List Begin)
  pub groups : List Group
  pub given : Gives options shape scripts groups
  pub refused : IsRefusal options.stopped shape scripts (picks_of groups) fault

-- the replay that the options give has too long a trace
pub record IsTraceFault (options : ReplayOptions) : Type 0 where
  pub shape : Shape
  pub scripts : List (List Begin)
  pub groups : List Group
  pub given : Gives options shape scripts groups
  pub long : IsLongTrace options shape scripts (picks_of groups)

-- why there is no answer
abbrev pub IsReplayRefusal : ReplayOptions → Fault → Type 0
IsReplayRefusal options (faults.Shape fault) = IsShapeFault options.sizes fault
IsReplayRefusal options (faults.Word number) = IsScriptFault options number
IsReplayRefusal options faults.Picks = IsPicksFault options
IsReplayRefusal options (faults.Replay fault) = IsReplayFault options fault
IsReplayRefusal options faults.Trace = IsTraceFault options
IsReplayRefusal options faults.Memory = Unit {0}
IsReplayRefusal options _ = ⊥
