-- What was seen before the new generation was made is seen after it too.
use Rattle.std.proofs.Common.{◌<◌, ℕ, sym, ap, ◌∙◌, subst}
use mathlib.Core.List.{IsPrefix}
use Rattle.kfifo_renewing.specs.History.{IsPlaced, WasNewest, opens_more, place_count}
use Rattle.kfifo_renewing.specs.declared.places.Lineage.{Lineage}
use Rattle.kfifo_renewing.specs.declared.change.Change.TheVariants as C
use Rattle.kfifo_renewing.proofs.Histories.{contains-later, opens-more, prefix-trans, was-later}
use Rattle.kfifo_renewing.proofs.queue.Shared.renew.Goals as goal

pub renew-requires-clause-newest : goal.renew-requires-clause-newest
renew-requires-clause-newest g c =
    let n = c.args.newest.now.number in
    let old = c.again-seen.result.log in
    let mid = c.learn.new.self.log in
    let log = c.learn-3.new.self.log in
    let more : IsPrefix old log = prefix-trans old mid log c.learn.ensures.3
    (prefix-trans mid c.learn-2.new.self.log log c.learn-2.ensures.2 c.learn-3.ensures.2) in
    subst (WasNewest log) (sym c.next-2.ensures.0)
    (was-later old log n more
    (subst (λ h. WasNewest h n) (sym (ap (λ h. h.log) c.again-seen.ensures)) c.requires.newest))

pub renew-requires-clause-there : goal.renew-requires-clause-there
renew-requires-clause-there g c =
    let old = c.again-seen.result.log in
    let mid = c.learn.new.self.log in
    let log = c.learn-3.new.self.log in
    let part = c.requires.part.1 in
    let p = c.args.part.now in
    let more : IsPrefix old log = prefix-trans old mid log c.learn.ensures.3
    (prefix-trans mid c.learn-2.new.self.log log c.learn-2.ensures.2 c.learn-3.ensures.2) in
    let there : IsPlaced log p.number p.place = contains-later old log (C.Placed p.number p.place)
    more (subst (λ h. IsPlaced h p.number p.place) (sym (ap (λ h. h.log) c.again-seen.ensures)) part.placed) in
    subst (λ n. (i : ℕ) × (i < place_count) × IsPlaced log n i) (sym c.next-2.ensures.0)
    (subst (λ n. (i : ℕ) × (i < place_count) × IsPlaced log n i) c.requires.part.0 (p.place, part.inside, there))

pub renew-requires-clause-more : goal.renew-requires-clause-more
renew-requires-clause-more g c =
    opens-more c.history-2.result.now.log c.learn-3.new.self.log c.learn-3.ensures.3
    (ap (λ h. opens_more h.log) c.history-2.ensures ∙ ap (λ (l : Lineage). opens_more l.history.log) c.self.view_is
    ∙ sym c.opens_more.ensures.more ∙ c.if-not-opens_more.false)
