-- The next handle is of the queue, and its place says so.
use Rattle.std.proofs.Common.{◌≡◌, refl, sym, subst, All}
use Rattle.std.proofs.lemmas.List.Elements.{All-push}
use Rattle.kfifo_live.specs.Pass.{IsPassOf, OpenQueue}
use Rattle.kfifo_pool.specs.Pooled.{Pooled}
use Rattle.kfifo_renewing.specs.Renewing.{IsUntouched}
use Rattle.kfifo_renewing.proofs.Parts.{all-next}
use Rattle.kfifo_renewing.proofs.generation.seat_all.Goals as goal

pub loop-handle-preserved : goal.loop-handle-preserved
loop-handle-preserved g c =
    let i = c.loop-handle.invariant in
    let next = all-next (λ (h : Pooled g.row.T.Denot). IsPassOf c.args.queue.now h.held.pass.pass × IsUntouched h)
    c.in-Some.handle
    c.next.new.self.rest.items c.loop-handle.handle-iterator.rest.items c.in-Some.ensures.steps.0 i.rest in
    record {
      same = refl;
      rest = next.1;
      places = subst (All (λ (q : OpenQueue). q ≡ c.args.queue.now)) (sym c.in_ok-push.ensures.items)
          (All-push (λ (q : OpenQueue). q ≡ c.args.queue.now) c.loop-handle.waiting.items c.new.result i.places
          c.new.ensures);
    }
