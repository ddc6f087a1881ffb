-- One place more was looked at.
use Rattle.std.proofs.Common.{[], arith, refl, ◌∙◌, subst}
use Rattle.std.proofs.lemmas.List.{append-nil}
use Rattle.kfifo_renewing.proofs.Histories.{prefix-trans}
use Rattle.kfifo_renewing.proofs.Joining.{looked-all, looked-more, LookedAt}
use Rattle.kfifo_renewing.proofs.places.Places.has_no_other.Goals as goal

pub loop-index-init : goal.loop-index-init
loop-index-init g c = record {
  book = c.learn.ensures.0;
  number = refl;
  end = refl;
  joined = refl;
  seen = (
    c.learn.new.self.log,
    c.learn.ensures.4.0,
    c.learn.ensures.4.1,
    c.learn.ensures.2,
    ([], append-nil c.learn.new.self.log),
    λ n i above below inside there. absurd (omega (arith, inside)),
  );
}

pub loop-index-preserved : goal.loop-index-preserved
loop-index-preserved g c =
    let i = c.loop-index.invariant in
    let s = i.seen in
    let old = c.loop-index.history.log in
    let new = c.look-found.new.history.log in
    let look = c.look-found.ensures in record {
      book = look.later.0 ∙ i.book;
      number = refl;
      end = refl;
      joined = refl;
      seen = (
        s.0,
        s.1,
        s.2,
        s.3,
        prefix-trans s.0 old new s.4 look.later.1,
        looked-more c.args.number c.args.end c.loop-index.index c.args.joined.now c.look-found.result s.0 old new s.5
            s.4 look.later.1 look.finds (c.is_known.ensures c.if-not-is_known.false),
      );
    }

pub returns-clause-others : goal.returns-clause-others
returns-clause-others g c is =
    let s = c.loop-index.invariant.seen in
    looked-all c.args.number c.args.end c.args.joined.now s.1 c.args.history.now.log s.0 c.loop-index.history.log
    s.2 s.3 c.requires.newest
    (subst (λ k. LookedAt c.args.number c.args.end k c.args.joined.now s.0 c.loop-index.history.log)
    (omega (arith, c.loop-index-test.false)) s.5)
