-- What both have seen begins what the two know together.
use Rattle.std.proofs.Common.{ap, ◌∙◌, subst}
use mathlib.Core.List.{IsPrefix}
use Rattle.kfifo_renewing.specs.History.{queue_in}
use Rattle.kfifo_renewing.specs.declared.change.Made.{Made}
use Rattle.kfifo_renewing.specs.Renewing.{Generations, IsNumbered, opening_in}
use Rattle.kfifo_renewing.proofs.Histories.{made-once}
use Rattle.kfifo_renewing.proofs.Joining.{numbered-by}
use Rattle.kfifo_renewing.proofs.handle.RenewingHandle.is_beside.Goals as goal

pub returns-clause-same : goal.returns-clause-same
returns-clause-same g c same =
    let T = g.row.T.Denot in
    let a = c.args.self.now in
    let b = c.args.other.now in
    let log = c.learn.new.self.log in
    let first = subst (λ l. IsPrefix l log)
    (ap (λ h. h.log) c.again-history.ensures ∙ ap (λ (v : Generations T). v.seen) c.self.view_is) c.learn.ensures.2 in
    let second = subst (λ l. IsPrefix l log) (ap (λ (v : Generations T). v.seen) c.other.view_is) c.learn.ensures.3 in
    ap (λ (q : Made). q.table) (made-once a.seen b.seen log a.number b.number (queue_in a.newest.held.pass.pass)
    (queue_in b.newest.held.pass.pass) first second
    (subst (λ (v : Generations T). IsNumbered v) c.self.view_is
    (numbered-by (opening_in c.self.inside.shared.value) c.self.inside.shared.value.history.book
    c.self.inside.history.book
    c.self.inside.history.log c.self.inside.generation.value c.self.inside.newest c.self.inside.older.items
    c.self.invariant.0))
    (subst (λ (v : Generations T). IsNumbered v) c.other.view_is (numbered-by (opening_in c.other.inside.shared.value)
    c.other.inside.shared.value.history.book c.other.inside.history.book
    c.other.inside.history.log c.other.inside.generation.value c.other.inside.newest c.other.inside.older.items
    c.other.invariant.0)) same)
