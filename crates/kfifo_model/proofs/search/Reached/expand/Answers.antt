use Rattle.std.proofs.Common.{ap, ◌∙◌, subst}
use Rattle.std.specs.Result.{OnOk}
use Rattle.kfifo_model.specs.Reach.{Reach, reach}
use Rattle.kfifo_model.specs.Searching.{IsAdded, Extends}
use Rattle.kfifo_model.proofs.search.Reached.expand.Goals as goal

pub returns : goal.returns
returns c =
    let P : Reach → Type 0 = λ r. OnOk c.expand.result
    (IsAdded c.args.k c.args.calls.now r c.args.next.now.items c.expand.new.next.items
    (Extends c.args.k c.args.calls.now r → ⊥)) in
    subst P (ap (λ d. reach d c.deref-2.result.now) c.deref.ensures.value
    ∙ (ap (λ t. reach c.self.inside.done.items t) c.deref-2.ensures.value ∙ c.self.view_is)) c.expand.ensures
