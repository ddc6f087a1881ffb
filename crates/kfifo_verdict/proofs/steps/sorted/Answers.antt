use Rattle.std.proofs.Common.{length}
use Rattle.kfifo_verdict.proofs.Listing.{keyed_moved}
use Rattle.kfifo_verdict.proofs.steps.sorted.Goals as goal

pub returns : goal.returns
returns c = record {
  counted = keyed_moved c.args.key c.args.calls.now c.args.side (length c.args.calls.now) c.in_ok-steps.steps.items
      c.sort_unstable.new.self.items c.sort_unstable.ensures.permutation c.in_ok-steps.ensures;
  sorted = c.sort_unstable.ensures.sorted;
}
