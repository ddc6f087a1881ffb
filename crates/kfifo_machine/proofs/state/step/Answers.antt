-- An event moves its thread alone, and changes one word at most, which rises.
use Rattle.std.proofs.Common.{◌≡◌, Result, Ok, Err, IfOk, OnErr, ap}
use Rattle.kfifo_machine.proofs.Types.{Event, NotEnabled, Outcome, Shape}
use Rattle.kfifo_machine.specs.Machine.{Machine, place_of, step}
use Rattle.kfifo_machine.specs.Laws.{OthersStay, NoneFalls, OneWord}
use Rattle.kfifo_machine.proofs.Schedules.{other_place}
use Rattle.kfifo_machine.proofs.Sound.{IsSound}
use Rattle.kfifo_machine.proofs.Versions.{one_word, step_rises, none_falls}
use Rattle.kfifo_machine.proofs.state.step.Goals as goal

others_stay : (shape : Shape) (old new : Machine) (e : Event) (result : Result Outcome NotEnabled)
    → IfOk result (λ outcome. step shape old.world e ≡ Ok (new.world, outcome)) → OnErr result (new ≡ old)
    → OthersStay e.thread old.world new.world
others_stay shape old new e (Ok outcome) made unchanged = λ other apart. other_place shape old.world e new.world outcome
    other apart made
others_stay shape old new e (Err fault) made unchanged = λ other apart. ap (λ (m : Machine). place_of m.world other)
    unchanged

falls_none : (shape : Shape) (old new : Machine) (e : Event) (result : Result Outcome NotEnabled)
    → IsSound shape old.world
    → IfOk result (λ outcome. step shape old.world e ≡ Ok (new.world, outcome)) → OnErr result (new ≡ old)
    → NoneFalls old.world new.world
falls_none shape old new e (Ok outcome) sound made unchanged = step_rises shape old.world e new.world outcome sound made
falls_none shape old new e (Err fault) sound made unchanged =
    none_falls old.world new.world (ap (λ (m : Machine). m.world) unchanged)

changes_one : (shape : Shape) (old new : Machine) (e : Event) (result : Result Outcome NotEnabled)
    → IsSound shape old.world
    → IfOk result (λ outcome. step shape old.world e ≡ Ok (new.world, outcome))
    → IfOk result (λ outcome. OneWord shape old.world new.world e)
changes_one shape old new e (Ok outcome) sound made = one_word shape old.world e new.world outcome sound made
changes_one shape old new e (Err fault) sound made = tt

pub returns-clause-others_stay : goal.returns-clause-others_stay
returns-clause-others_stay c = others_stay _ c.args.state.now c.make_event.new.state c.args.event c.make_event.result
    c.make_event.ensures.made c.make_event.ensures.unchanged

pub returns-clause-none_falls : goal.returns-clause-none_falls
returns-clause-none_falls c = falls_none _ c.args.state.now c.make_event.new.state c.args.event c.make_event.result
    c.make_event.ensures.sound c.make_event.ensures.made c.make_event.ensures.unchanged

pub returns-clause-one_word : goal.returns-clause-one_word
returns-clause-one_word c = changes_one _ c.args.state.now c.make_event.new.state c.args.event c.make_event.result
    c.make_event.ensures.sound c.make_event.ensures.made
