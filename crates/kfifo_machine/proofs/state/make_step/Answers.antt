-- The step's access is within the table, and what it leaves is what the machine says.
use Rattle.std.proofs.Common.{arith, sym, ◌∙◌, refl, ap}
use Rattle.kfifo_machine.specs.Program.{advance}
use Rattle.kfifo_machine.specs.Machine.{Machine, moved, found, outcome_of}
use Rattle.kfifo_machine.specs.Places.{IsPlace}
use Rattle.kfifo_machine.proofs.Places.{in_table, moved_is, sound_is, outcome_is}
use Rattle.kfifo_machine.proofs.state.make_step.Goals as goal

pub touch-word-requires : goal.touch-word-requires
touch-word-requires c =
    let place : IsPlace c.state.inside.shape c.args.running = rw (ap (λ m. m.shape) c.state.view_is) c.requires.place in
    rw c.access-access.ensures
    (omega (arith, in_table c.state.inside.shape c.args.running place, c.state.invariant.size))

pub invariant_of-state : goal.invariant_of-state
invariant_of-state c =
    let place : IsPlace c.state.inside.shape c.args.running = rw (ap (λ m. m.shape) c.state.view_is) c.requires.place in
    sound_is c.state.inside.shape c.state.inside.words.items c.state.inside.places.items c.args.thread c.args.running
    c.access-access.result
    c.touch-word.result _ _ _
    c.state.invariant place (rw (ap (λ m. m.world.places) c.state.view_is) c.requires.thread)
    c.access-access.ensures c.touch-word.ensures.found (sym c.in-Goes.is ∙ c.advance.ensures)
    c.touch-word.ensures.words refl

pub returns-in-Goes-clause-world : goal.returns-in-Goes-clause-world
returns-in-Goes-clause-world c =
    moved_is c.state.inside.shape c.state.inside.words.items c.state.inside.places.items c.args.thread c.args.running
    c.access-access.result
    c.touch-word.result _ _ _
    c.access-access.ensures c.touch-word.ensures.found (sym c.in-Goes.is ∙ c.advance.ensures)
    c.touch-word.ensures.words refl
    ∙ ap (λ (m : Machine). moved m.shape m.world c.args.thread c.args.running) c.state.view_is

pub returns-in-Goes-clause-outcome : goal.returns-in-Goes-clause-outcome
returns-in-Goes-clause-outcome c =
    outcome_is c.state.inside.shape _ c.args.running c.access-access.result c.touch-word.result _
    c.access-access.ensures c.touch-word.ensures.found (sym c.in-Goes.is ∙ c.advance.ensures)
    ∙ ap (λ (m : Machine). outcome_of (advance m.shape c.args.running (found m.shape m.world c.args.running)))
    c.state.view_is

pub invariant_of-state-in-Answers : goal.invariant_of-state-in-Answers
invariant_of-state-in-Answers c =
    let place : IsPlace c.state.inside.shape c.args.running = rw (ap (λ m. m.shape) c.state.view_is) c.requires.place in
    sound_is c.state.inside.shape c.state.inside.words.items c.state.inside.places.items c.args.thread c.args.running
    c.access-access.result
    c.touch-word.result _ _ _
    c.state.invariant place (rw (ap (λ m. m.world.places) c.state.view_is) c.requires.thread)
    c.access-access.ensures c.touch-word.ensures.found (sym c.in-Answers.is ∙ c.advance.ensures)
    c.touch-word.ensures.words refl

pub returns-in-Answers-clause-world : goal.returns-in-Answers-clause-world
returns-in-Answers-clause-world c =
    moved_is c.state.inside.shape c.state.inside.words.items c.state.inside.places.items c.args.thread c.args.running
    c.access-access.result
    c.touch-word.result _ _ _
    c.access-access.ensures c.touch-word.ensures.found (sym c.in-Answers.is ∙ c.advance.ensures)
    c.touch-word.ensures.words refl
    ∙ ap (λ (m : Machine). moved m.shape m.world c.args.thread c.args.running) c.state.view_is

pub returns-in-Answers-clause-outcome : goal.returns-in-Answers-clause-outcome
returns-in-Answers-clause-outcome c =
    outcome_is c.state.inside.shape _ c.args.running c.access-access.result c.touch-word.result _
    c.access-access.ensures c.touch-word.ensures.found (sym c.in-Answers.is ∙ c.advance.ensures)
    ∙ ap (λ (m : Machine). outcome_of (advance m.shape c.args.running (found m.shape m.world c.args.running)))
    c.state.view_is
