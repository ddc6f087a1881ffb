use Rattle.std.proofs.Common.{◌<◌, length, arith, sym, ◌∙◌}
use Rattle.std.proofs.lemmas.List.{get_or_default}
use Rattle.kfifo_model.proofs.Places.{place_is}
use Rattle.kfifo_model.proofs.Checking.{not_below}
use Rattle.kfifo_model.proofs.orders.place_below.Goals as goal

pub returns-then-index-item : goal.returns-then-index-item
returns-then-index-item c =
    let e = c.min-i-end.ensures in
    let l = c.len.ensures in
    let h : c.loop-i.i < length c.args.items.now.items = omega arith in (
      place_is c.args.items.now.items c.args.item c.loop-i.i h c.loop-i.invariant
          (sym (c.index.ensures ∙ get_or_default c.args.items.now.items c.loop-i.i _ 0 h) ∙ c.if-index-item.true),
      omega arith,
      h,
    )

pub returns : goal.returns
returns c = not_below c.args.k c.args.items.now.items c.args.item
    (λ j lk ll. c.loop-i.invariant j (let e = c.min-i-end.ensures in let l = c.len.ensures in omega arith))
