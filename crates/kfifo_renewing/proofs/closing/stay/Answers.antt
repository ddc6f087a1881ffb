-- A generation that is no longer shown in its place has gone.
use Rattle.std.proofs.Common.{sym, ◌∙◌}
use Rattle.kfifo_renewing.proofs.Joining.{gone-there, part-later}
use Rattle.kfifo_renewing.proofs.Keeping.{kept-below}
use Rattle.kfifo_renewing.proofs.closing.stay.Goals as goal

pub depart-requires-clause-may : goal.depart-requires-clause-may
depart-requires-clause-may g c =
    let p = c.args.part in
    let old = c.args.history.now.log in
    let new = c.has.new.history.log in
    let has = c.has.ensures in
    let gone = gone-there old new p.number p.place c.number.result c.place.result c.if-has.ensures.finds
    c.number.ensures c.place.ensures c.requires.part.0.placed in
    record {
      same_book = c.requires.part.1 ∙ sym has.later.0;
      part = part-later old new p has.later.1 c.requires.part.0;
      over = kept-below has.kept.0 new p.number has.kept.1 gone;
      sealed = λ asked. absurd cc;
    }
