-- Each racer came back with a pass of the queue.
use Rattle.std.proofs.Common.{rules, arith, All, sym, subst}
use Rattle.std.proofs.lemmas.List.Elements.{All-map}
use Rattle.kfifo_live.specs.Pass.{IsPassOf}
use Rattle.test_live.proofs.tests.live.threads.race.Goals as goal

pub close-requires : goal.close-requires
close-requires g c =
    let each : All (λ r. IsPassOf c.in_ok-queue.queue r.pass) c.in_ok-racers.racers.items = λ i d less.
    let back = c.in_ok-racers.ensures.each i d (omega (arith, less, c.in_ok-racers.ensures.len)) in
    search rules in
    let all = All-map (IsPassOf c.in_ok-queue.queue) (λ r. r.pass) c.in_ok-racers.racers.items each in
    let back : All (IsPassOf c.in_ok-queue.queue) c.in_ok-passes_back.field-0.items =
    subst (All (IsPassOf c.in_ok-queue.queue)) (sym c.in_ok-passes_back.ensures) all in
    subst (λ q. All (IsPassOf q) c.in_ok-passes_back.field-0.items) (sym c.queue.view_is) back
