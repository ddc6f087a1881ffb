-- The first generation has the number 0, and is in its place.
use Rattle.std.proofs.Common.{◌≡◌, ◌<◌, sym, ap, ◌∙◌, subst, rules}
use Rattle.kfifo_renewing.specs.declared.change.Change.TheVariants as C
use Rattle.kfifo_renewing.specs.History.{IsMade, IsPlaced, made_by, opens_more, place_count, queue_in}
use Rattle.kfifo_renewing.specs.Renewing.{Numbered}
use Rattle.kfifo_renewing.proofs.Histories.{contains-later, made-later, made-some, opens-same, queue-same}
use Rattle.kfifo_renewing.proofs.opening.join_first.Goals as goal

pub new-requires-clause-part : goal.new-requires-clause-part
new-requires-clause-part g c =
    let generation = c.in_ok-generation.generation.value in
    let joined = c.in_ok-joined.joined in
    let log = c.learn.new.self.log in
    let first : generation.number ≡ 0 = ap (λ (v : Numbered). v.number) c.in_ok-generation.ensures ∙ c.requires.first in
    let number : joined.number ≡ 0 = search rules in
    let place : joined.place ≡ c.args.place = search rules in
    let table : generation.queue.table ≡ joined.handle.held.pass.pass.table = search rules in
    let opened : generation.queue.opened ≡ joined.handle.held.pass.pass.opened = search rules in
    let made = subst (λ (v : Numbered). IsMade c.history.result.now.log v.number (made_by v.queue)) c.deref.ensures
    c.history.ensures.made in
    record {
      made = subst (λ n. IsMade log n (queue_in joined.handle.held.pass.pass)) (first ∙ sym number)
          (subst (IsMade log generation.number) (queue-same _ _ _ _ table opened)
          (made-later c.history.result.now.log log generation.number (made_by generation.queue) c.learn.ensures.3
          made));
      inside = subst (λ k. k < place_count) (sym place) c.requires.there.1;
      placed = subst (λ n. IsPlaced log n joined.place) (sym number) (subst (IsPlaced log 0) (sym place)
          (contains-later c.again-history.result.log log (C.Placed 0 c.args.place) c.learn.ensures.2
          (subst (λ l. IsPlaced l 0 c.args.place) (sym (ap (λ h. h.log) c.again-history.ensures)) c.requires.there.2)));
    }

pub returns-clause-more : goal.returns-clause-more
returns-clause-more g c =
    let seen = c.history.result.now.log in
    let log = c.learn.new.self.log in
    let made = c.history.ensures.made in
    let same : seen ≡ c.args.generation.now.value.seen = c.history.ensures.book.1 ∙ ap (λ (v : Numbered). v.seen)
    (c.deref.ensures ∙ c.in_ok-generation.ensures) in
    let more : opens_more log ≡ opens_more c.args.generation.now.value.seen =
    opens-same seen log c.learn.ensures.3 (made-some seen _ _ made) ∙ ap opens_more same in
    search (rules, more)
