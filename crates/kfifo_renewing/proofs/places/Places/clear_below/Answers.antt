-- Another place was looked at.
use Rattle.kfifo_renewing.proofs.Histories.{prefix-trans}
use Rattle.std.proofs.Common.{◌∙◌}
use Rattle.kfifo_renewing.proofs.Keeping.{kept-risen}
use Rattle.kfifo_renewing.proofs.places.Places.clear_below.Goals as goal

pub loop-index-preserved-then-has : goal.loop-index-preserved-then-has
loop-index-preserved-then-has g c =
    let has = c.has.ensures in
    let log = c.has.new.history.log in record {
      book = has.later.0 ∙ c.loop-index.invariant.book;
      more = prefix-trans c.args.history.now.log c.loop-index.history.log log c.loop-index.invariant.more has.later.1;
      risen = kept-risen has.kept.0 log has.kept.1;
    }

pub loop-index-preserved : goal.loop-index-preserved
loop-index-preserved g c =
    let has = c.has.ensures in
    let log = c.has.new.history.log in record {
      book = has.later.0 ∙ c.loop-index.invariant.book;
      more = prefix-trans c.args.history.now.log c.loop-index.history.log log c.loop-index.invariant.more has.later.1;
      risen = kept-risen has.kept.0 log has.kept.1;
    }
