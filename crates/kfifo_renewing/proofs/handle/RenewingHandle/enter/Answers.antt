-- The generation is in the place, and has its number in the history of both.
use Rattle.std.proofs.Common.{◌≡◌, ◌<◌, rules, sym, ap, ◌∙◌, subst}
use Rattle.kfifo_renewing.specs.declared.change.Change.TheVariants as C
use Rattle.kfifo_renewing.specs.History.{IsMade, IsPlaced, made_by, place_count, queue_in}
use Rattle.kfifo_renewing.specs.Renewing.{Generations, Numbered}
use Rattle.kfifo_renewing.proofs.Histories.{contains-later, made-later, queue-same}
use Rattle.kfifo_renewing.proofs.handle.RenewingHandle.enter.Goals as goal

pub returns-clause-part : goal.returns-clause-part
returns-clause-part g c =
    let generation = c.in_ok-generation.generation.value in
    let joined = c.in_ok-joined.joined in
    let log = c.learn.new.self.log in
    let number : generation.number ≡ c.args.number = sym (ap (λ (v : Numbered). v.number) c.deref-3.ensures)
    ∙ sym c.number.ensures ∙ c.if-number.false in
    let same_part : c.in_ok-part.part.value ≡ generation = search rules in
    let same : joined.number ≡ c.args.number = c.in_ok-joined.ensures.at.0 ∙ ap (λ (v : Numbered). v.number) same_part
    ∙ number in (
      number,
      same,
      record {
        made = subst (λ n. IsMade log n (queue_in joined.handle.held.pass.pass)) (number ∙ sym same)
            (subst (IsMade log generation.number) (queue-same generation.queue.table
            joined.handle.held.pass.pass.table generation.queue.opened joined.handle.held.pass.pass.opened
            (search rules) (search rules))
            (made-later c.history.result.now.log log generation.number (made_by generation.queue) c.learn.ensures.3
            (subst (λ (v : Numbered). IsMade c.history.result.now.log v.number (made_by v.queue)) c.deref-4.ensures
            c.history.ensures.made)));
        inside = subst (λ k. k < place_count) (sym c.in_ok-joined.ensures.at.1) c.requires.inside;
        placed = subst (λ n. IsPlaced log n joined.place) (sym same)
            (subst (IsPlaced log c.args.number) (sym c.in_ok-joined.ensures.at.1)
            (contains-later c.has.new.history.log log (C.Placed c.args.number c.args.place) c.learn.ensures.2
            c.if-not-has.ensures.finds));
      },
      (
        c.in_ok-joined.ensures.of.1.0,
        c.in_ok-joined.ensures.of.1.1 ∙ ap (λ (v : Generations g.row.T.Denot). v.thread)
            c.self.view_is,
      ),
    )
