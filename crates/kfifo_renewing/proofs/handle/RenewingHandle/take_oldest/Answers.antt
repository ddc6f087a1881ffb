-- Each older generation was found empty, so the newest one is next.
use Rattle.std.proofs.Common.{None, ap, inr, refl, sym, subst, ◌∙◌}
use Rattle.kfifo_renewing.specs.Renewing.{Generations, LeavesGone}
use Rattle.kfifo_renewing.proofs.Departures.{leaves-later}
use Rattle.kfifo_renewing.proofs.Following.{later-trans}
use Rattle.kfifo_renewing.proofs.handle.RenewingHandle.take_oldest.Goals as goal

pub returns-in-None : goal.returns-in-None
returns-in-None g c =
    let T = g.row.T.Denot in
    let old = c.args.self.now in
    let mid = c.take_older.new.self in
    let t = c.in-None.ensures.takes in
    record {
      later = later-trans old mid c.take_newest.new.self c.take_older.ensures.later c.take_newest.ensures.later;
      number = c.take_newest.ensures.same.1 ∙ ap (λ (h : Generations T). h.number) c.take_older.ensures.same;
      found = None;
      looked = t.0;
      older = t.1;
      left = subst (LeavesGone c.take_newest.new.self.seen t.0) (sym c.take_newest.ensures.same.0)
          (leaves-later mid.seen c.take_newest.new.self.seen t.0 mid.older c.take_newest.ensures.later.seen t.2);
      newest = inr (
        refl,
        (
          mid,
          c.take_older.ensures.later,
          ap (λ (h : Generations T). h.newest) c.take_older.ensures.same,
          c.take_newest.ensures.takes,
        ),
      );
    }
