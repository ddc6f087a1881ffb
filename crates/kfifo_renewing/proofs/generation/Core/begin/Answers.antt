-- The pass is then the only one that has left.
use Rattle.std.proofs.Common.{◌≡◌, [], ◌∷◌, refl, sym, ap, ◌∙◌, subst}
use Rattle.std.specs.List.{Contains}
use Rattle.std.proofs.lemmas.List.{append-nil}
use mathlib.Core.List.{IsPrefix}
use Rattle.kfifo_live.specs.Groups.{GroupView, LeaveNothing}
use Rattle.kfifo_live.specs.Payloads.{PayPassView}
use Rattle.kfifo_pool.specs.Pooled.{Pooled}
use Rattle.kfifo_renewing.specs.History.{AreInOne, IsGone, left_of, made_by, sight_of}
use Rattle.kfifo_renewing.specs.Renewing.{Numbered}
use Rattle.kfifo_renewing.proofs.Histories.{gone-later, prefix-trans}
use Rattle.kfifo_renewing.proofs.Leavers.{first-one, has-left, left-first, made-there, over-of, was-of}
use Rattle.kfifo_renewing.proofs.Parts.{contains-head}
use Rattle.kfifo_renewing.proofs.generation.Core.begin.Goals as goal

pub depart-requires-clause-newest : goal.depart-requires-clause-newest
depart-requires-clause-newest g c =
    let kept = c.learn.ensures.4 in
    was-of kept.0 c.args.history.now.log c.learn.new.self.log c.args.part c.self.inside.next.number
    (c.requires.part.0 ∙ sym (ap (λ (v : Numbered). v.number) c.self.view_is)) kept.1 c.learn.ensures.2
    c.requires.may.part

pub depart-requires-clause-over : goal.depart-requires-clause-over
depart-requires-clause-over g c =
    let kept = c.learn.ensures.4 in
    over-of kept.0 c.args.history.now.log c.learn.new.self.log c.args.part.number c.self.inside.next.number
    (c.requires.part.0 ∙ sym (ap (λ (v : Numbered). v.number) c.self.view_is)) kept.1 c.learn.ensures.2
    c.requires.may.over

pub depart-requires-clause-together : goal.depart-requires-clause-together
depart-requires-clause-together g c =
    let p = c.args.part.handle.held.pass in
    let log = c.learn.new.self.log in (
      [],
      made_by c.args.self.now.queue,
      (log, refl),
      refl,
      made-there c.args.self.now c.args.history.now.log log c.args.part c.self.inside.next.number
          (ap (λ (v : Numbered). v.number) c.self.view_is) c.learn.ensures.2 c.requires.part c.requires.may.part,
      first-one c.args.self.now p c.requires.part.2 (c.requires.may.sealed refl)
          (subst (λ (x : PayPassView g.row.T.Denot). LeaveNothing (x ∷ []) x.pass) c.pass.ensures c.has_ended.ensures),
    )

pub returns-clause-departed : goal.returns-clause-departed
returns-clause-departed g c =
    let T = g.row.T.Denot in
    let p = c.args.part.handle.held.pass in
    let n = c.self.inside.next.number in
    let old = c.args.history.now.log in
    let mid = c.learn.new.self.log in
    let log = c.again.result.log in
    let number = ap (λ (v : Numbered). v.number) c.self.view_is in
    let is = ap (λ h. h.log) c.again.ensures in
    let entry : left_of c.args.self.now.number log ≡ sight_of p.pass ∷ [] =
    subst (λ m. left_of m log ≡ sight_of p.pass ∷ []) number
    (ap (left_of n) is ∙ c.if-not-depart.ensures.left refl [] (mid, refl) refl) in
    let later : IsPrefix old log = subst (IsPrefix old) (sym is)
    (prefix-trans old mid c.depart.new.history.log c.learn.ensures.2 c.depart.ensures.later.1) in
    let gone : IsGone log c.args.self.now.number = subst (IsGone log) c.requires.part.0
    (gone-later old log c.args.part.number later c.requires.gone) in
    let group : c.new.result.inner ≡ c.into_group.result = c.new.ensures in
    left-first c.args.self.now c.again.result.book log p c.new.result.inner c.requires.part.2
    (ap (λ h. h.book) c.again.ensures ∙ c.depart.ensures.later.0 ∙ c.learn.ensures.0 ∙ sym c.requires.may.same_book
    ∙ c.requires.part.1)
    entry gone (c.requires.may.sealed refl)
    (ap (λ (v : GroupView T). v.first) group ∙ c.into_group.ensures.first
    ∙ ap (λ (h : Pooled T). h.held.pass) c.end.ensures)
    (ap (λ (v : GroupView T). v.others) group ∙ c.into_group.ensures.alone)

pub returns-clause-left : goal.returns-clause-left
returns-clause-left g c =
    let log = c.depart.new.history.log in
    let p = c.args.part.handle.held.pass in
    let n = c.self.inside.next.number in
    let number = ap (λ (v : Numbered). v.number) c.self.view_is in
    let is = ap (λ h. h.log) c.again.ensures in
    let entry : left_of c.args.self.now.number c.again.result.log ≡ sight_of p.pass ∷ [] =
    subst (λ m. left_of m c.again.result.log ≡ sight_of p.pass ∷ []) number
    (ap (left_of n) is ∙ c.if-not-depart.ensures.left refl [] (c.learn.new.self.log, refl) refl) in
    has-left c.args.self.now c.again.result.log log c.args.part (returns-clause-departed g c).gone c.requires.part
    ([], append-nil c.again.result.log ∙ is)
    (subst (λ l. Contains l (sight_of p.pass)) (sym entry) (contains-head (sight_of p.pass) []))
    (subst (AreInOne (made_by c.args.self.now.queue)) (sym entry)
    (first-one c.args.self.now p c.requires.part.2 (c.requires.may.sealed refl)
    (subst (λ (x : PayPassView g.row.T.Denot). LeaveNothing (x ∷ []) x.pass) c.pass.ensures c.has_ended.ensures)))
