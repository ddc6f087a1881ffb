-- Each pass has one part, which is put behind those of the seat.
use Rattle.std.proofs.Common.{◌≡◌, Some, List, [], ◌∷◌, ap, sym, ◌∙◌, rules, subst}
use Rattle.std.specs.List.{AllByRecursion}
use Rattle.std.proofs.lemmas.List.Elements.{All-pop}
use Rattle.kfifo_model.proofs.Lists.{AllByRecursion-append}
use Rattle.kfifo_live.proofs.Types.{Part}
use Rattle.kfifo_live.specs.Schedule.{AllBegin, AllGiven}
use Rattle.kfifo_live.specs.Pass.{queue_of, AllIdle, IsPassOf}
use Rattle.kfifo_live.specs.Payloads.{EndsIn, PayPassView, passes_of}
use Rattle.kfifo_live.proofs.Gathered.{all_begin_parts, all_given_parts, pass_ends, pass_idle, pays_idle_push}
use Rattle.kfifo_live.proofs.payload.closing.join_all.Goals as goal

pub join_seats-requires-clause-other : goal.join_seats-requires-clause-other
join_seats-requires-clause-other g c =
    let of = All-pop
    (λ (p : PayPassView g.row.T.Denot). IsPassOf (queue_of c.args.seat.table_id c.args.seat.me.0.opened) p.pass) _ _
    (Some c.in-Some.pass) c.in-Some.ensures.items c.loop-pass.invariant.all_of in (
      ap (λ (k : PayPassView g.row.T.Denot). k.pass.table) c.pass.view_is ∙ of.1.0 ∙ c.requires.table.0,
      c.pass.invariant.0.held,
    )

pub loop-pass-preserved : goal.loop-pass-preserved
loop-pass-preserved g c =
    let i = c.loop-pass.invariant in
    let items = c.in-Some.ensures.items in
    let of = All-pop
    (λ (p : PayPassView g.row.T.Denot). IsPassOf (queue_of c.args.seat.table_id c.args.seat.me.0.opened) p.pass) _ _
    (Some c.in-Some.pass) items i.all_of in
    let both = c.join_seats.ensures.both in record {
      table = c.join_seats.ensures.same.0 ∙ i.table;
      opened = ap (λ v. v.opened) both ∙ i.opened;
      all_of = of.0;
      covers = λ all gifts b h s.
          let begins = all_begin_parts _ _ all
          (subst (λ (ps : List (Part g.row.T.Denot)). AllBegin ps all) (ap (λ v. v.parts) both) b) in
          let given = all_given_parts _ _ gifts
          (subst (λ (ps : List (Part g.row.T.Denot)). AllGiven ps gifts) (ap (λ v. v.parts) both) h) in
          let ends = pass_ends _ c.pass.inside.seat.me c.in-Some.pass all gifts c.pass.invariant.0
          (sym (ap (λ (k : PayPassView g.row.T.Denot). k.pass.thread) c.pass.view_is))
          (sym (ap (λ (k : PayPassView g.row.T.Denot). k.pass.seen) c.pass.view_is))
          (sym (ap (λ (k : PayPassView g.row.T.Denot). k.gifts) c.pass.view_is)) begins.1 given.1 in
          i.covers all gifts begins.0 given.0 (subst (AllByRecursion (EndsIn all gifts)) (sym items)
          (AllByRecursion-append (EndsIn all gifts) _ (c.in-Some.pass ∷ []) s (ends, tt)));
      idle = λ others.
          let o = c.args.seat.me.0.opened in
          let mine = pass_idle o _ c.pass.inside.seat.me c.in-Some.pass.pass c.pass.invariant.0
          (ap (λ (k : PayPassView g.row.T.Denot). k.pass.opened) c.pass.view_is ∙ of.1.1)
          (sym (ap (λ (k : PayPassView g.row.T.Denot). k.pass.thread) c.pass.view_is))
          (sym (ap (λ (k : PayPassView g.row.T.Denot). k.pass.seen) c.pass.view_is)) in
          i.idle (subst (λ (ps : List (PayPassView g.row.T.Denot)). AllIdle o (passes_of ps)) (sym items)
          (pays_idle_push o _ _ others mine));
    }

pub returns-clause-all : goal.returns-clause-all
returns-clause-all g c =
    let i = c.loop-pass.invariant in
    let none : c.loop-pass.passes.items ≡ [] = search rules in record {
      opened = i.opened;
      all_end = λ all gifts b h. i.covers all gifts b h (subst (AllByRecursion (EndsIn all gifts)) (sym none) tt);
      all_idle = i.idle
          (subst (λ (ps : List (PayPassView g.row.T.Denot)). AllIdle c.args.seat.me.0.opened (passes_of ps))
          (sym none) tt);
    }
