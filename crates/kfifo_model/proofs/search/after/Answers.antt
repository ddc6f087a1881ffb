use Rattle.std.proofs.Common.{sym, ◌∙◌, subst, List, Bool}
use Rattle.kfifo_model.specs.Reach.{reach}
use Rattle.kfifo_model.specs.Searching.{LeadsTo, AreAsGood}
use Rattle.kfifo_model.proofs.Resting.{leads_to, no_next}
use Rattle.kfifo_model.proofs.search.after.Goals as goal

pub returns-in_default : goal.returns-in_default
returns-in_default c =
    let e = rw c.in_default.is at c.in_ok-list.ensures in
    no_next c.args.k c.args.calls.now (reach c.args.done.now c.args.items.now) c.args.n e

pub returns : goal.returns
returns c =
    let e = rw c.in-Some.is at c.in_ok-list.ensures in
    let A : List Bool → Type 0 = λ d. AreAsGood c.args.calls.now d c.in-Some.list.items c.in_ok-items.items.items in
    let P : List Bool → Type 0 = λ d. LeadsTo c.args.k c.args.calls.now (reach c.args.done.now c.args.items.now)
    c.args.n
    (reach d c.in_ok-items.items.items) in
    subst P (sym c.in_ok-done.ensures)
    (leads_to c.args.k c.args.calls.now c.args.done.now c.args.items.now c.in-Some.list.items c.in_ok-items.items.items
    c.args.n
    c.requires.sized c.requires.free e
    (subst A (c.deref.ensures.value ∙ c.in_ok-done.ensures) c.in_ok-items.ensures))
