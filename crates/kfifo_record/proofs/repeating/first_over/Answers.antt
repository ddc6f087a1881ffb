use Rattle.std.proofs.Common.{below_more, subst, ◌∙◌}
use Rattle.kfifo_record.specs.Repeats.{FitsTo}
use Rattle.kfifo_record.proofs.Repeated.{script_at}
use Rattle.kfifo_record.proofs.repeating.first_over.Goals as goal

pub loop-place-preserved : goal.loop-place-preserved
loop-place-preserved c =
    let same = c.as_slice.ensures.value ∙ script_at c.args.scripts.now c.loop-place.place c.index-scripts-place.result
    c.loop-place-test.true c.index-scripts-place.is in
    below_more _ _ c.loop-place.invariant (subst (FitsTo _) same (c.fits.ensures.0 c.if-not-fits.false))
