-- What the lines of events and the report behind them are, and why there are none.
use Rattle.std.proofs.Common.{◌≡◌, ◌⊎◌, ℕ, ◌≤◌, ◌<◌, Bool, true, List, ◌++◌, Option, Some, inl, inr, length, take}
use Rattle.std.proofs.Common.{subst, arith}
use Rattle.std.proofs.lemmas.List.{take_all}
use Rattle.kfifo_cli_commands.proofs.Types.{Begin, Fault, Shape}
use Rattle.kfifo_machine.specs.declared.event.Event.{Event}
use Rattle.kfifo_machine.specs.Machine.{opening}
use Rattle.kfifo_replay.specs.declared.fault.ReplayFault.TheVariants as replays
use Rattle.kfifo_replay.specs.declared.steps.Step.{Step}
use Rattle.kfifo_replay.specs.Picks.{events_of}
use Rattle.kfifo_replay.specs.Steps.{AreSteps}
use Rattle.kfifo_replay.specs.Player.{Player, StandsFor}
use Rattle.kfifo_replay.specs.Traces.{IsTrace}
use Rattle.kfifo_cli_texts.specs.declared.fault.Fault.TheVariants.{Memory, Replay, Trace}
use Rattle.kfifo_cli_texts.specs.TraceLines.{trace_lines}
use Rattle.kfifo_cli_requests.specs.declared.requests.ReplayOptions.{ReplayOptions}
use Rattle.kfifo_cli_commands.specs.declared.tracing.TheConstants.{MAX_STEPS}
use Rattle.kfifo_cli_commands.specs.Replays.{IsLong, IsReportText, IsTracedText, IsUnplayed, Makes, traces}

module _ (shape : Shape) (scripts : List (List Begin)) (picks : List ℕ) (count : ℕ)
    (counted : (events : List Event) → events_of shape scripts picks ≡ Some events → count ≡ length events) where
  -- more events than a trace may have
  pub is_long : (p : Player) → StandsFor shape scripts picks p → MAX_STEPS < count → IsLong shape scripts picks
  is_long p stands many = record {
    events = stands.events;
    made = stands.made;
    long = let same = counted stands.events stands.made in omega (arith, same, many);
  }

  -- the lines of the steps of so few events are those of all, and the report stands behind them
  pub is_traced : (steps : List Step) → IsTrace shape scripts picks MAX_STEPS steps → count ≤ MAX_STEPS
      → (points : Bool) (stopped : Option ℕ) (report text : List ℕ)
      → IsReportText points stopped shape scripts picks report
      → text ≡ trace_lines shape.k 0 steps ++ report → IsTracedText points stopped shape scripts picks text
  is_traced steps trace few points stopped report text reported is =
      let same = counted trace.events trace.made in
      let all : take MAX_STEPS trace.events ≡ trace.events =
      take_all MAX_STEPS trace.events (omega (arith, same, few)) in
      record {
        events = trace.events;
        made = trace.made;
        steps = steps;
        are = subst (λ (events : List Event). AreSteps shape (opening shape (length scripts)) events steps) all
            trace.are;
        report = report;
        reported = reported;
        text_is = is;
      }

module _ (options : ReplayOptions) (shape : Shape) (scripts : List (List Begin)) (picks made : List ℕ) (p : Player)
    (asked : traces options.record options.trace ≡ true) (makes : Makes options.stopped shape scripts picks made)
    (stands : StandsFor shape scripts made p) where
  -- what has no text of its events is a refusal: memory is, and more events than a trace may have are
  pub no_text : (fault : Fault) → (fault ≡ Memory) ⊎ (fault ≡ Replay replays.Memory)
      ⊎ ((fault ≡ Trace) × ((own : List (List Begin)) (all : List ℕ) → StandsFor shape own all p → IsLong shape own
      all))
      → IsUnplayed options shape scripts picks fault
  no_text fault (inl is) = inl is
  no_text fault (inr (inl is)) = inr (inl (replays.Memory, is, tt))
  no_text fault (inr (inr u)) = inr (inr (
    u.0,
    record {
      asked = asked;
      made = made;
      makes = makes;
      long = u.1 scripts made stands;
    },
  ))
