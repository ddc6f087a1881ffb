-- A new linearizer has followed no event.
use Rattle.std.proofs.Common.{[]}
use Rattle.kfifo_linear.proofs.Linearizing.{follows_none}
use Rattle.kfifo_linear.proofs.linearizer.Linearizer.open.Goals as goal

pub invariant_of-result : goal.invariant_of-result
invariant_of-result c = record {
  threads = c.args.threads;
  room = c.args.calls;
  events = [];
  follows = rw (c.in_ok-state.ensures.opening.0, c.in_ok-state.ensures.opening.1, c.in_ok-notes.ensures)
      (follows_none c.args.shape c.args.threads c.args.calls);
}

pub returns-clause-follows : goal.returns-clause-follows
returns-clause-follows c = (
  c.in_ok-state.ensures.opening.0,
  rw (c.in_ok-state.ensures.opening.0, c.in_ok-state.ensures.opening.1, c.in_ok-notes.ensures)
      (follows_none c.args.shape c.args.threads c.args.calls),
)
