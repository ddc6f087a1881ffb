-- The first entry of the history says it, and by the rule a queue that may open none has the first generation alone.
use Rattle.std.proofs.Common.{◌≡◌, ◌<◌, arith, ap, length, ◌∙◌, subst, sym}
use mathlib.Core.List.{IsPrefix}
use Rattle.kfifo_renewing.specs.History.{made, opens_more}
use Rattle.kfifo_renewing.specs.Renewing.{Generations}
use Rattle.kfifo_renewing.specs.declared.places.Lineage.{Lineage}
use Rattle.kfifo_renewing.proofs.Histories.{made-some, opens-same, risen-was, was-later}
use Rattle.kfifo_renewing.proofs.handle.RenewingHandle.may_open_more.Goals as goal

pub returns-clause-more : goal.returns-clause-more
returns-clause-more g c =
    let T = g.row.T.Denot in
    let s = c.self.inside in
    let part = c.self.invariant.0.newest_part in
    let new = c.learn.new.self.log in
    let own = c.again-history.result.log in
    let is : own ≡ s.history.log = ap (λ h. h.log) c.again-history.ensures in
    let same : c.history.result.now ≡ s.shared.value.history = c.history.ensures
    ∙ ap (λ (l : Lineage). l.history) (c.places.ensures ∙ c.deref.ensures) in
    let first : opens_more new ≡ opens_more s.history.log = opens-same s.history.log new
    (subst (λ l. IsPrefix l new) is c.learn.ensures.2) (made-some s.history.log _ _ part.made) in
    let second : opens_more new ≡ opens_more s.shared.value.history.log = opens-same s.shared.value.history.log new
    (subst (λ h. IsPrefix h.log new) same c.learn.ensures.3)
    (subst (λ (l : Lineage). 0 < length (made l.history.log)) c.deref-2.ensures c.opens_more.ensures.some) in
    c.opens_more.ensures.more ∙ ap (λ (l : Lineage). opens_more l.history.log) c.deref-2.ensures ∙ sym second ∙ first
    ∙ ap (λ (h : Generations T). opens_more h.seen) c.self.view_is

pub returns-clause-one : goal.returns-clause-one
returns-clause-one g c none =
    let T = g.row.T.Denot in
    let s = c.self.inside in
    let j = c.self.invariant.0 in
    let part = j.newest_part in
    let new = c.learn.new.self.log in
    let kept = c.learn.ensures.4 in
    let is = ap (λ h. h.log) c.again-history.ensures in
    let own : IsPrefix s.history.log new = subst (λ l. IsPrefix l new) is c.learn.ensures.2 in
    let closed = opens-same s.history.log new own (made-some s.history.log _ _ part.made)
    ∙ ap (λ (h : Generations T). opens_more h.seen) c.self.view_is ∙ sym (returns-clause-more g c) ∙ none in
    let first = kept.1.holds.one closed in
    let up = risen-was new s.generation.value.number kept.1.holds.risen (was-later s.history.log new
    s.generation.value.number own j.was) in
    let number = ap (λ (h : Generations T). h.number) c.self.view_is in
    omega (arith, first, up, number)
