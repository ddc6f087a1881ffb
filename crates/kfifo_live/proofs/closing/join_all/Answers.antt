use Rattle.std.proofs.Common.{Some, List, ap, sym, ◌∙◌, subst}
use Rattle.std.proofs.lemmas.List.Elements.{All-pop}
use Rattle.kfifo_live.proofs.Types.{Part}
use Rattle.kfifo_live.specs.Schedule.{AllBegin}
use Rattle.kfifo_live.specs.Pass.{PassView, queue_of, AllIdle, AllSeen, IsPassOf}
use Rattle.kfifo_live.proofs.Gathered.{all_idle_push, all_seen_push, pass_idle, all_begin_parts, pass_begins}
use Rattle.kfifo_live.proofs.closing.join_all.Goals as goal

pub join_seats-requires-clause-other : goal.join_seats-requires-clause-other
join_seats-requires-clause-other c =
    let of = All-pop (IsPassOf (queue_of c.args.seat.table_id c.args.seat.me.0.opened)) _ _ (Some c.in-Some.pass)
    c.in-Some.ensures.items
    c.loop-pass.invariant.all_of in
    (ap (λ (k : PassView). k.table) c.pass.view_is ∙ of.1.0 ∙ c.requires.table.0, c.pass.invariant.held)

pub loop-pass-preserved : goal.loop-pass-preserved
loop-pass-preserved c =
    let i = c.loop-pass.invariant in
    let items = c.in-Some.ensures.items in
    let of = All-pop (IsPassOf (queue_of c.args.seat.table_id c.args.seat.me.0.opened)) _ _ (Some c.in-Some.pass) items
    i.all_of in
    let both = c.join_seats.ensures.both in record {
      table = c.join_seats.ensures.same.0 ∙ i.table;
      opened = ap (λ v. v.opened) both ∙ i.opened;
      all_of = of.0;
      covers = λ all b s.
          let parts = all_begin_parts _ _ all (subst (λ (ps : List (Part (Unit {0}))). AllBegin ps all)
          (ap (λ v. v.parts) both) b) in
          let begins = pass_begins _ c.pass.inside.seat.me c.in-Some.pass all c.pass.invariant
          (sym (ap (λ (k : PassView). k.thread) c.pass.view_is)) (sym (ap (λ (k : PassView). k.seen) c.pass.view_is))
          parts.1 in
          i.covers all parts.0 (subst (λ (ps : List PassView). AllSeen ps all) (sym items)
          (all_seen_push _ _ all s begins));
      idle = λ others.
          let o = c.args.seat.me.0.opened in
          let mine = pass_idle o _ c.pass.inside.seat.me c.in-Some.pass c.pass.invariant
          (ap (λ (k : PassView). k.opened) c.pass.view_is ∙ of.1.1)
          (sym (ap (λ (k : PassView). k.thread) c.pass.view_is)) (sym (ap (λ (k : PassView). k.seen) c.pass.view_is)) in
          i.idle (subst (AllIdle o) (sym items) (all_idle_push o _ _ others mine));
    }
