use Rattle.std.proofs.Common.{◌<◌, ◌≤◌, All, Some, List, ap, sym, ◌∙◌, subst, arith}
use Rattle.std.proofs.lemmas.List.Elements.{All-pop}
use Rattle.kfifo_live.specs.Pass.{OpenQueue, PassView, queue_of, IsComplete, IsPassOf}
use Rattle.core.specs.Mem.Slots.{slots_items}
use Rattle.kfifo_live.specs.Left.{items_left}
use Rattle.std.proofs.Common.{ℕ, get_or, refl}
use Rattle.kfifo_words.specs.Words.{head_of}
use Rattle.kfifo_live.proofs.Types.{Opening, Shape}
use Rattle.kfifo_live.proofs.Gathered.{closes, pass_begins, pass_idle, final_head}
use Rattle.kfifo_live.proofs.closing.close_table.Goals as goal

pub join_all-seat-requires-clause-table : goal.join_all-seat-requires-clause-table
join_all-seat-requires-clause-table c =
    let q = queue_of c.args.table.shared.table_id c.args.table.shared.key in
    let of = All-pop (IsPassOf q) _ _ (Some c.in-Some.last) c.in-Some.ensures.items c.requires.of in (
      ap (λ (k : PassView). k.table) c.last.view_is ∙ of.1.0,
      omega (arith, c.requires.words),
    )

pub join_all-seat-requires-clause-of : goal.join_all-seat-requires-clause-of
join_all-seat-requires-clause-of c =
    let q = queue_of c.args.table.shared.table_id c.args.table.shared.key in
    let of = All-pop (IsPassOf q) _ _ (Some c.in-Some.last) c.in-Some.ensures.items c.requires.of in
    let table = ap (λ (k : PassView). k.table) c.last.view_is ∙ of.1.0 in
    let opened = ap (λ (k : PassView). k.opened) c.last.view_is ∙ of.1.1 in
    subst (λ (q : OpenQueue). All (IsPassOf q) c.pop.new.self.items) (λ k. queue_of (sym table k) (sym opened k)) of.0

pub close_with-closed-requires : goal.close_with-closed-requires
close_with-closed-requires c =
    let q = queue_of c.args.table.shared.table_id c.args.table.shared.key in
    let of = All-pop (IsPassOf q) _ _ (Some c.in-Some.last) c.in-Some.ensures.items c.requires.of in
    c.join_all-seat.ensures.table ∙ ap (λ (k : PassView). k.table) c.last.view_is ∙ of.1.0

pub returns-clause-ok : goal.returns-clause-ok
returns-clause-ok c =
    let q = queue_of c.args.table.shared.table_id c.args.table.shared.key in
    let of = All-pop (IsPassOf q) _ _ (Some c.in-Some.last) c.in-Some.ensures.items c.requires.of in
    let few = subst (λ (o : Opening). o.threads ≤ 64) (ap (λ (k : PassView). k.opened) c.last.view_is ∙ of.1.1)
    c.last.invariant.few.0 in
    closes q _ _ _ _ _ _ c.last.inside.seat.me.0 _ c.pop.new.self.items c.in-Some.last
    refl
    c.in-Some.ensures.items
    c.join_all-seat.ensures.all
    (subst (λ (x : ℕ × List PassView). IsComplete x.0 x.1) (λ k. (c.requires.key.1 k, c.as_slice.ensures.value k))
    (c.is_complete.ensures.0 c.if-not-is_complete.false))
    (pass_idle q.opened _ c.last.inside.seat.me c.in-Some.last c.last.invariant
    (ap (λ (k : PassView). k.opened) c.last.view_is ∙ of.1.1)
    (sym (ap (λ (k : PassView). k.thread) c.last.view_is)) (sym (ap (λ (k : PassView). k.seen) c.last.view_is)))
    (λ all b. pass_begins _ c.last.inside.seat.me c.in-Some.last all c.last.invariant
    (sym (ap (λ (k : PassView). k.thread) c.last.view_is))
    (sym (ap (λ (k : PassView). k.seen) c.last.view_is)) b)
    few
    (c.in_ok-items.ensures ∙ ap (items_left c.args.shape) (c.as_slice-2.ensures.value ∙ c.in_ok-words.ensures)
    ∙ ap (λ (s : Shape). items_left s (slots_items c.close_with-closed.result.words)) c.requires.key.0)
    c.close_with-closed.ensures.values.2

pub read_items-requires-clause-head : goal.read_items-requires-clause-head
read_items-requires-clause-head c =
    let words = c.as_slice-2.ensures.value ∙ c.in_ok-words.ensures in
    let P : List ℕ × ℕ → Type 0 = λ x. head_of (get_or x.0 0 0) < x.1 in
    subst P (λ i. (sym words i, ap (λ (s : Shape). s.n) (sym c.requires.key.0) i))
    (final_head _ _ _ _ _ c.close_with-closed.ensures.values.2)
