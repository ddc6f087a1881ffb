-- The pass is then among those that have left.
use Rattle.std.proofs.Common.{◌≡◌, ◌+◌, ◌++◌, [], ◌∷◌, ℕ, length, refl, sym, ap, ◌∙◌, subst}
use Rattle.std.specs.List.{Contains}
use Rattle.std.proofs.lemmas.List.{append-nil}
use Rattle.std.proofs.lemmas.List.Elements.{Contains-push}
use mathlib.Core.List.{IsPrefix}
use Rattle.kfifo_live.specs.Groups.{GroupView, Meets}
use Rattle.kfifo_live.specs.Payloads.{EndsIn, PayPassView}
use Rattle.kfifo_pool.specs.Pooled.{Pooled}
use Rattle.kfifo_renewing.specs.Departed.{HaveDeparted}
use Rattle.kfifo_renewing.specs.History.{AreInOne, left_of, made_by, sight_of}
use Rattle.kfifo_renewing.specs.Joining.{PartView}
use Rattle.kfifo_renewing.specs.Renewing.{Numbered}
use Rattle.kfifo_renewing.proofs.Histories.{prefix-trans}
use Rattle.kfifo_renewing.proofs.Leavers.{ends-last, has-left, in-one, left-met, left-more, made-there, over-of, was-of}
use Rattle.kfifo_renewing.proofs.generation.Core.join.Given.{Over}
use Rattle.kfifo_renewing.proofs.generation.Core.join.Goals as goal

pub depart-requires-clause-newest : goal.depart-requires-clause-newest
depart-requires-clause-newest g c =
    let kept = c.learn.ensures.4 in
    was-of kept.0 c.args.history.now.log c.learn.new.self.log c.args.part c.self.inside.next.number
    (c.requires.part.0 ∙ sym (ap (λ (v : Numbered). v.number) c.self.view_is)) kept.1 c.learn.ensures.2
    c.requires.may.part

pub depart-requires-clause-over : goal.depart-requires-clause-over
depart-requires-clause-over g c =
    let kept = c.learn.ensures.4 in
    over-of kept.0 c.args.history.now.log c.learn.new.self.log c.args.part.number c.self.inside.next.number
    (c.requires.part.0 ∙ sym (ap (λ (v : Numbered). v.number) c.self.view_is)) kept.1 c.learn.ensures.2
    c.requires.may.over

pub depart-requires-clause-together : goal.depart-requires-clause-together
depart-requires-clause-together g c =
    let T = g.row.T.Denot in
    let number = ap (λ (v : Numbered). v.number) c.self.view_is in
    let d = c.args.departed in
    let seen = d.history.log in
    let p = c.args.part.handle.held.pass in
    let queue = made_by c.args.self.now.queue in
    let m = subst (λ (v : GroupView T). Meets p v c.meet.new.group) c.into_inner-group.ensures c.meet.ensures.meets in (
      seen,
      queue,
      c.learn.ensures.3,
      subst (λ n. length (left_of n seen) ≡ d.count) (sym number) c.requires.departed.counted,
      made-there c.args.self.now c.args.history.now.log c.learn.new.self.log c.args.part c.self.inside.next.number
          number c.learn.ensures.2 c.requires.part c.requires.may.part,
      subst (λ (x : ℕ × PartView T). AreInOne queue (left_of x.0 seen ++ sight_of x.1.handle.held.pass.pass ∷ []))
          (λ i. (sym number i, sym c.meet.ensures.same i))
          (in-one c.args.self.now d.history.book seen d.count d.passes.inner c.meet.new.group p c.requires.departed m),
    )

pub returns-then-not-depart-clause-departed : goal.returns-then-not-depart-clause-departed
returns-then-not-depart-clause-departed g c =
    let T = g.row.T.Denot in
    let d = c.args.departed in
    let p = c.args.part.handle.held.pass in
    let m = subst (λ (v : GroupView T). Meets p v c.meet.new.group) c.into_inner-group.ensures c.meet.ensures.meets in
    subst (λ (x : GroupView T). HaveDeparted c.args.self.now d.history.book d.history.log d.count x) (sym c.new.ensures)
    (left-met c.args.self.now d.history.book d.history.log d.count d.passes.inner c.meet.new.group p
    c.requires.departed m)

pub join-requires-clause-met : goal.join-requires-clause-met
join-requires-clause-met g c =
    let T = g.row.T.Denot in
    let w : GroupView T = c.meet.new.group in
    let p = c.args.part.handle.held.pass in
    let m = subst (λ (v : GroupView T). Meets p v w) c.into_inner-group.ensures c.meet.ensures.meets in
    let its : c.end.result.held.pass ≡ p = ap (λ (h : Pooled T). h.held.pass) c.end.ensures
    ∙ ap (λ (x : PartView T). x.handle.held.pass) c.meet.ensures.same in
    subst (λ (x : PayPassView T). EndsIn w.first.pass.seen w.first.gifts x) (sym its)
    (ends-last w.first.pass.seen w.first.gifts c.args.departed.passes.inner.others p m.ends).1

entry : (g : Over) (c : goal.After-drop-seen g) → left_of c.args.self.now.number c.again.result.log
    ≡ left_of c.args.self.now.number c.args.departed.history.log ++ sight_of c.args.part.handle.held.pass.pass ∷ []
entry g c =
    let T = g.row.T.Denot in
    let number = ap (λ (v : Numbered). v.number) c.self.view_is in
    let seen = c.args.departed.history.log in
    let n = c.self.inside.next.number in
    subst (λ (x : ℕ × PartView T). left_of x.0 c.again.result.log
    ≡ left_of x.0 seen ++ sight_of x.1.handle.held.pass.pass ∷ []) (λ i. (number i, c.meet.ensures.same i))
    (ap (λ h. left_of n h.log) c.again.ensures
    ∙ c.if-not-depart.ensures.left refl seen c.learn.ensures.3
    (subst (λ m. length (left_of m seen) ≡ c.args.departed.count) (sym number) c.requires.departed.counted))

pub returns-clause-departed : goal.returns-clause-departed
returns-clause-departed g c =
    let T = g.row.T.Denot in
    let d = c.args.departed in
    let seen = d.history.log in
    let p = c.args.part.handle.held.pass in
    let w : GroupView T = c.meet.new.group in
    let m = subst (λ (v : GroupView T). Meets p v w) c.into_inner-group.ensures c.meet.ensures.meets in
    let its : c.end.result.held.pass ≡ p = ap (λ (h : Pooled T). h.held.pass) c.end.ensures
    ∙ ap (λ (x : PartView T). x.handle.held.pass) c.meet.ensures.same in
    subst (λ (x : GroupView T). HaveDeparted c.args.self.now c.again.result.book c.again.result.log (d.count + 1) x)
    (sym c.new-2.ensures)
    (left-more c.args.self.now d.history.book c.again.result.book seen c.again.result.log d.count p w c.join.new.group
    (left-met c.args.self.now d.history.book seen d.count d.passes.inner w p c.requires.departed m)
    (ap (λ h. h.book) c.again.ensures ∙ c.depart.ensures.later.0 ∙ c.learn.ensures.0
    ∙ sym c.requires.may.same_book ∙ c.requires.part.1)
    (entry g c) (ends-last w.first.pass.seen w.first.gifts d.passes.inner.others p m.ends).1 c.join.ensures.first
    (c.join.ensures.others ∙ ap (λ (x : PayPassView T). w.others ++ x ∷ []) its)
    (subst (IsPrefix seen) (sym (ap (λ h. h.log) c.again.ensures))
    (prefix-trans seen c.learn.new.self.log c.depart.new.history.log c.learn.ensures.3 c.depart.ensures.later.1)))

pub returns-clause-left : goal.returns-clause-left
returns-clause-left g c =
    let T = g.row.T.Denot in
    let d = c.args.departed in
    let p = c.args.part.handle.held.pass in
    let t = sight_of p.pass in
    let here = entry g c in
    let m = subst (λ (v : GroupView T). Meets p v c.meet.new.group) c.into_inner-group.ensures c.meet.ensures.meets in
    has-left c.args.self.now c.again.result.log c.depart.new.history.log c.args.part (returns-clause-departed g c).gone
    c.requires.part ([], append-nil c.again.result.log ∙ ap (λ h. h.log) c.again.ensures)
    (subst (λ l. Contains l t) (sym here) (Contains-push (left_of c.args.self.now.number d.history.log) t))
    (subst (AreInOne (made_by c.args.self.now.queue)) (sym here)
    (in-one c.args.self.now d.history.book d.history.log d.count d.passes.inner c.meet.new.group p
    c.requires.departed m))
