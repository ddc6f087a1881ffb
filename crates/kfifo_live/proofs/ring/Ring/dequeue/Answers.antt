-- The call is one complete execution, round by round.
use Rattle.std.proofs.Common.{◌-◌, ◌<◌, refl, arith}
use Rattle.std.proofs.lemmas.Bool.Decides.{nat_tests}
use Rattle.std.proofs.lemmas.Bool.{and_from}
use Rattle.kfifo_machine.specs.declared.place.Next.TheVariants.{Goes}
use Rattle.kfifo_machine.specs.declared.place.Running.TheVariants as R
use Rattle.kfifo_machine.specs.declared.place.DequeuePhase.TheVariants as P
use Rattle.kfifo_live.proofs.CompleteExecutions.{awaits, comes, comes_as, runs_on, stands_on}
use Rattle.kfifo_live.proofs.ring.Ring.dequeue.Goals as goal

pub begin-ends-requires-clause-first : goal.begin-ends-requires-clause-first
begin-ends-requires-clause-first g c =
    record {
      place = R.Dequeue c.args.start c.args.turns P.LoadEnds;
      goes = grind (arith, nat_tests, and_from);
      next_is = refl;
    }

pub rounds-init : goal.rounds-init
rounds-init g c = c.begin-ends.ensures (R.Dequeue c.args.start c.args.turns P.LoadEnds)
    (grind (arith, nat_tests, and_from))

pub round-requires : goal.round-requires
round-requires g c = stands_on c.requires.rests.of c.rounds.invariant

pub returns-in-Some : goal.returns-in-Some
returns-in-Some g c = runs_on c.rounds.invariant c.in-Some.ensures

pub returns-then-left-eq1 : goal.returns-then-left-eq1
returns-then-left-eq1 g c = runs_on c.rounds.invariant (comes_as c.in_default.ensures (grind (arith, nat_tests)))

pub overflow_sub-left : goal.overflow_sub-left
overflow_sub-left g c = (stands_on c.requires.rests.of c.rounds.invariant).is_place.1

pub load_ends-ends-requires : goal.load_ends-ends-requires
load_ends-ends-requires g c =
    let again = comes_as {later = Goes (R.Dequeue c.args.start (c.rounds.left - 1) P.LoadEnds)} c.in_default.ensures
    (grind (arith, nat_tests)) in
    awaits (stands_on c.requires.rests.of (runs_on c.rounds.invariant again)) refl

pub rounds-smaller : goal.rounds-smaller
rounds-smaller g c =
    let some = (stands_on c.requires.rests.of c.rounds.invariant).is_place.1 in
    let less : c.rounds.left - 1 < c.rounds.left = omega (arith, some) in
    less

pub rounds-preserved : goal.rounds-preserved
rounds-preserved g c =
    let again = runs_on c.rounds.invariant
    (comes_as {later = Goes (R.Dequeue c.args.start (c.rounds.left - 1) P.LoadEnds)}
    c.in_default.ensures (grind (arith, nat_tests))) in
    runs_on again (comes (stands_on c.requires.rests.of again) c.load_ends-ends.ensures refl)
