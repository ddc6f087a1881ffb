-- Each token's payload is picked in its turn.
use Rattle.std.proofs.Common.{◌≡◌, ◌+◌, ◌-◌, ◌++◌, ◌∙◌, List, Option, Some, drop, get_or, map, set, subst, sym, arith}
use Rattle.std.proofs.Common.{rules}
use Rattle.kfifo_live.specs.Payloads.{HavePayloads, in_slot}
use Rattle.kfifo_live.proofs.Leavings.{picks}
use Rattle.kfifo_live.proofs.payload.closing.pick_payloads.Goals as goal

pub loop-token-preserved : goal.loop-token-preserved
loop-token-preserved g c =
    let i = c.loop-token.invariant in
    let p = c.push_reserved.ensures in
    let tokens = c.args.tokens.now in
    let index = c.loop-token.token-index in
    let slots = c.loop-token.slots.items in
    let both =
    picks slots c.args.slots.items tokens index c.loop-token.payloads.items c.in-Some.payload c.index_mut.result.now
    (omega (arith, c.loop-token-test.true)) i.have c.index_mut.ensures.value (sym c.take.ensures.value ∙ c.in-Some.is)
    i.picked in
    let P : Option g.row.T.Denot × List g.row.T.Denot → Type 0 = λ y.
    HavePayloads (set slots (get_or tokens index 0 - 1) y.0) (drop (index + 1) tokens)
    × (map Some y.1 ++ map (in_slot (set slots (get_or tokens index 0 - 1) y.0)) (drop (index + 1) tokens)
    ≡ map (in_slot c.args.slots.items) tokens) in
    let now = subst P (λ k. (sym c.take.ensures.after k, sym p.items k)) both in
    record { room = omega (arith, i.room, p.capacity); size = search rules; have = now.0; picked = now.1 }
