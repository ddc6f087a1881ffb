use Rattle.std.proofs.Common.{List, length, sym, subst, arith}
use Rattle.kfifo_model.proofs.Measuring.{no_more}
use Rattle.kfifo_verdict.specs.declared.presences.Presence.{Presence}
use Rattle.kfifo_verdict.specs.Finding.{AreSkips}
use Rattle.kfifo_verdict.specs.Judging.{GotOlderLeft}
use Rattle.kfifo_verdict.specs.Older.{AreCopies}
use Rattle.kfifo_verdict.proofs.Telling.{got_inside}
use Rattle.kfifo_verdict.proofs.Skipping.{skips_later}
use Rattle.kfifo_verdict.proofs.older.older_left.Goals as goal

pub older_left_at-requires-clause-copies : goal.older_left_at-requires-clause-copies
older_left_at-requires-clause-copies c =
    let h = c.args.calls.now in
    let A : List Presence → Type 0 = λ w. AreCopies h (length h) w in
    subst A (sym c.as_slice.ensures.value) c.in_ok-copies.ensures

pub loop-n-preserved : goal.loop-n-preserved
loop-n-preserved c =
    let S : List Presence → Type 0 = λ w. AreSkips w c.loop-n.n c.older_left_at.new.skips.items in
    record {
      none = no_more (GotOlderLeft c.args.k c.args.calls.now) c.loop-n.n c.loop-n.invariant.none
          (rw c.in_default.is at c.in_ok-puts.ensures.older);
      skips = skips_later c.in_ok-copies.copies.items c.loop-n.n c.older_left_at.new.skips.items
          (subst S c.as_slice.ensures.value c.in_ok-puts.ensures.skips);
    }

pub returns : goal.returns
returns c = λ n o.
    let lt = got_inside c.args.calls.now o.1.item n o.1.gets in
    let end = c.loop-n-test.false in
    c.loop-n.invariant.none n (omega (arith, lt, end)) o
