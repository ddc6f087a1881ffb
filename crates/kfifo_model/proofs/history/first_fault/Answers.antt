use Rattle.std.proofs.Common.{refl}
use Rattle.std.proofs.lemmas.Bool.{false≢true}
use Rattle.kfifo_model.proofs.Watching.{good_at, ranged_at, answers_at, ends_at, rises_at, not_apart, more_calls}
use Rattle.kfifo_model.proofs.Watching.{good_more}
use Rattle.kfifo_model.proofs.history.first_fault.Goals as goal

pub returns-then-not-lets : goal.returns-then-not-lets
returns-then-not-lets c = (
  (c.loop-n-test.true, c.loop-n.invariant.good),
  ranged_at c.args.calls.now c.loop-n.n _ c.loop-n-test.true (c.if-not-is_in_range.ensures.0 refl),
  answers_at c.args.calls.now c.loop-n.n _ c.loop-n-test.true (c.if-not-answers.ensures.0 refl),
  ends_at c.args.calls.now c.loop-n.n _ c.loop-n-test.true (c.if-not-ends_from.ensures.0 refl),
  rises_at c.args.calls.now c.loop-n.n c.loop-n.so_far _ c.loop-n-test.true c.loop-n.invariant.seen
      (c.if-not-rises.ensures.0 refl),
  not_apart c.args.calls.now c.loop-n.n c.loop-n.so_far _ c.loop-n-test.true c.loop-n.invariant.seen
      (c.if-not-is_in_range.ensures.0 refl).0
      (λ e l. false≢true ((c.if-not-lets.ensures e).1 l)),
)

pub loop-n-preserved : goal.loop-n-preserved
loop-n-preserved c =
    let good = good_at c.args.calls.now c.loop-n.n c.loop-n.so_far _ c.loop-n-test.true c.loop-n.invariant.seen
    (record {
      ranged = c.if-not-is_in_range.ensures.0 refl;
      answers = c.if-not-answers.ensures.0 refl;
      ends = c.if-not-ends_from.ensures.0 refl;
      rises = c.if-not-rises.ensures.0 refl;
      lets = λ d. (c.if-not-lets.ensures d).0 refl;
    }) in
    record {
      good = good_more c.args.calls.now c.loop-n.n c.loop-n.invariant.good good;
      seen = more_calls c.args.calls.now c.loop-n.n c.loop-n.so_far c.note.new.self _ c.loop-n-test.true
          c.loop-n.invariant.seen good c.note.ensures.latest c.note.ensures.threads;
    }
