-- The queue is closed by the handle, and those of all other threads.
use Rattle.std.proofs.Common.{ap, map, subst}
use Rattle.kfifo_live.specs.Payloads.{PayCloses}
use Rattle.kfifo_live.specs.declared.view.Opening.{Opening}
use Rattle.kfifo_pool.specs.Pooled.{Pooled}
use Rattle.kfifo_renewing.proofs.Endings.{closed-by}
use Rattle.kfifo_renewing.proofs.closing.close_one.Goals as goal

pub returns : goal.returns
returns g c log handles own =
    let T = g.row.T.Denot in
    let e = c.in_ok-queue.field-0 in
    let are = c.in_ok-queue.ensures in record {
      queue = e.queue;
      others = e.others.items;
      by = closed-by log handles e.queue c.args.joined e.handle e.others.items c.args.theirs.items
          c.args.sizes.now.threads
          are.handle are.of.0 are.others (ap (λ (o : Opening). o.threads) c.requires.opened) are.theirs own;
      closes = subst (λ (p : Pooled T). PayCloses e.queue p.held.pass (map (λ (o : Pooled T). o.held.pass)
          e.others.items) c.in_ok-left.left.items) are.handle c.in_ok-left.ensures.ok;
    }
