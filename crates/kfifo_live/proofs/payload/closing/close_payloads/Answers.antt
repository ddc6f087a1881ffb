-- The words of the closed table name the tokens that are left, and its slots have their payloads.
use Rattle.std.proofs.Common.{◌≡◌, ◌<◌, ◌∙◌, List, Option, ap, get_or, map, subst, sym, ℕ}
use Rattle.core.specs.Mem.Slots.{slots_items}
use Rattle.kfifo_words.specs.Words.{head_of}
use Rattle.kfifo_words.specs.declared.shape.Shape.{Shape}
use Rattle.kfifo_live.specs.Left.{items_left}
use Rattle.kfifo_live.specs.Pass.{queue_of}
use Rattle.kfifo_live.specs.Payloads.{HavePayloads, PayCloses, PayPassView, in_slot}
use Rattle.kfifo_live.proofs.Gathered.{final_head}
use Rattle.kfifo_live.proofs.Leavings.{left_payloads, pay_closes}
use Rattle.kfifo_live.proofs.payload.closing.close_payloads.Goals as goal

pub read_items-requires-clause-head : goal.read_items-requires-clause-head
read_items-requires-clause-head g c =
    let words = c.as_slice.ensures.value ∙ c.in_ok-words.ensures in
    let P : List ℕ × Shape → Type 0 = λ x. head_of (get_or x.0 0 0) < x.1.n in
    subst P (λ i. (sym words i, sym c.requires.key i))
    (final_head _ _ _ _ _ c.close_with-closed.ensures.values.2)

pub pick_payloads-requires : goal.pick_payloads-requires
pick_payloads-requires g c =
    let q = queue_of c.args.table.shared.table_id c.args.table.shared.key in
    let same : c.pass.inside.seat.me.0.opened ≡ q.opened =
    ap (λ (k : PayPassView g.row.T.Denot). k.pass.opened) c.pass.view_is ∙ c.requires.pass.1 in
    let words = slots_items c.close_with-closed.result.words in
    let slots = slots_items c.close_with-closed.result.slots in
    let tokens : c.as_slice-2.result.now ≡ items_left q.opened.shape words =
    c.as_slice-2.ensures.value ∙ c.in_ok-tokens.ensures
    ∙ (λ i. items_left (c.requires.key i) ((c.as_slice.ensures.value ∙ c.in_ok-words.ensures) i)) in
    subst (λ (x : List (Option g.row.T.Denot) × List ℕ). HavePayloads x.0 x.1)
    (λ i. (sym c.empty_slots-slots.ensures i, sym tokens i))
    (left_payloads q c.pass.inside.seat.table_id slots c.args.others.items c.pass.invariant same
    c.join_all-seat.ensures.all
    c.close_with-closed.ensures.values.2)

pub returns-clause-ok : goal.returns-clause-ok
returns-clause-ok g c =
    let q = queue_of c.args.table.shared.table_id c.args.table.shared.key in
    let same : c.pass.inside.seat.me.0.opened ≡ q.opened =
    ap (λ (k : PayPassView g.row.T.Denot). k.pass.opened) c.pass.view_is ∙ c.requires.pass.1 in
    let words = slots_items c.close_with-closed.result.words in
    let slots = slots_items c.close_with-closed.result.slots in
    let tokens : c.as_slice-2.result.now ≡ items_left q.opened.shape words =
    c.as_slice-2.ensures.value ∙ c.in_ok-tokens.ensures
    ∙ (λ i. items_left (c.requires.key i) ((c.as_slice.ensures.value ∙ c.in_ok-words.ensures) i)) in
    let are = c.in_ok-payloads.ensures ∙ (λ i. map (in_slot (c.empty_slots-slots.ensures i)) (tokens i)) in
    subst (λ (k : PayPassView g.row.T.Denot). PayCloses q k c.args.others.items c.in_ok-payloads.payloads.items)
    c.pass.view_is
    (pay_closes q c.pass.inside.seat.table_id slots c.args.others.items c.pass.invariant same
    c.join_all-seat.ensures.all
    c.close_with-closed.ensures.values.2 c.in_ok-payloads.payloads.items are)
