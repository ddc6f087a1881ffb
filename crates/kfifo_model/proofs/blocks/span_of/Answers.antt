use Rattle.std.proofs.Common.{◌≡◌, min, take, get_or, sym, subst, arith}
use Rattle.std.proofs.lemmas.List.{take_all, take_more}
use Rattle.std.specs.Ordering.{nat_cmp, ord_max}
use Rattle.kfifo_model.proofs.Types.{Rival}
use Rattle.kfifo_model.specs.Blocks.{IsSpan}
use Rattle.kfifo_model.proofs.Counting.{span_more, from_max}
use Rattle.kfifo_model.proofs.blocks.span_of.Goals as goal

pub loop-rival-preserved : goal.loop-rival-preserved
loop-rival-preserved c =
    let i = c.loop-rival.rival-index in
    let d : Rival = record { put_first = 0; got_last = 0 } in
    let r = get_or c.args.rivals.now i d in
    let lo : c.min-earliest.result ≡ min c.loop-rival.earliest r.put_first = c.min-earliest.ensures in
    let hi : c.max-latest.result ≡ ord_max nat_cmp c.loop-rival.latest r.put_first = c.max-latest.ensures in
    let most = from_max c.loop-rival.latest r.put_first in
    let from_latest = most.0 in
    let from_put = most.1 in
    subst (λ xs. IsSpan xs c.min-earliest.result c.max-latest.result)
    (sym (take_more c.args.rivals.now i d c.loop-rival-test.true))
    (span_more (take i c.args.rivals.now) r c.loop-rival.earliest c.loop-rival.latest c.min-earliest.result
    c.max-latest.result
    c.loop-rival.invariant (omega arith) (omega arith) (omega arith) (omega arith))

pub returns : goal.returns
returns c = subst (λ xs. IsSpan xs c.loop-rival.earliest c.loop-rival.latest)
    (take_all c.loop-rival.rival-index c.args.rivals.now c.loop-rival-test.false) c.loop-rival.invariant
