-- The first step of a call that may begin.
use Rattle.std.proofs.Common.{◌≡◌, ◌<◌, Some, None, Result, Ok, length, get_or, sym, ap, ◌∙◌, subst, arith}
use Rattle.kfifo_machine.proofs.Types.{NotEnabled, Outcome}
use Rattle.kfifo_machine.specs.Machine.{Machine, World, place_of}
use Rattle.kfifo_machine.specs.Places.{IsState}
use Rattle.kfifo_machine.specs.Runs.{going}
use Rattle.kfifo_machine.proofs.Schedules.{steps_on}
use Rattle.kfifo_machine.proofs.state.make_event.Goals as goal

as_made : {w v : World} {o p : Outcome} → w ≡ v → o ≡ p
    → ◌≡◌ {A = Result (World × Outcome) NotEnabled} (Ok (v, p)) (Ok (w, o))
as_made {w = w} {p = p} same is = ap (λ x. Ok (x, p)) (sym same) ∙ ap (λ x. Ok (w, x)) (sym is)

pub returns-in-Some : goal.returns-in-Some
unfolding place_of
returns-in-Some c =
    let within : c.args.event.thread < length c.state.inside.places.items =
    omega (arith, c.if-thread-len.false, c.len.ensures) in
    let idle : get_or c.state.inside.places.items c.args.event.thread None ≡ None = let a = c.index.ensures in let b =
    c.in-None-Some.is-0 in cc in
    let goes : going c.state.inside.shape (get_or c.state.inside.places.items c.args.event.thread None)
    c.args.event.begin
    ≡ Some c.in-Some.running =
    ap (λ p. going c.state.inside.shape p c.args.event.begin) idle
    ∙ ap (going c.state.inside.shape None) c.in-None-Some.is-1
    ∙ sym c.first_place.ensures ∙ c.in-Some.is in
    let made = steps_on c.args.state.now.shape c.args.state.now.world c.args.event c.in-Some.running
    (subst (λ (m : Machine). c.args.event.thread < length m.world.places) c.state.view_is within)
    (subst (λ (m : Machine). going m.shape (place_of m.world c.args.event.thread) c.args.event.begin
    ≡ Some c.in-Some.running)
    c.state.view_is goes) in
    let world = c.make_step.ensures.world in
    let outcome = c.make_step.ensures.outcome in
    record {
      sound = subst (λ (m : Machine). IsState m.shape m.world.words m.world.places) c.state.view_is c.state.invariant;
      shape = c.make_step.ensures.shape;
      made = made ∙ as_made world outcome;
      refused = tt;
      unchanged = tt;
    }
