-- The last handle has followed others, and these are its generations, and the parts of the others.
use Rattle.std.proofs.Common.{◌≡◌, Bool, All, sym, ap, ◌∙◌, subst}
use Rattle.std.proofs.lemmas.List.Elements.{All-contains, All-push}
use mathlib.Core.List.{IsPrefix}
use Rattle.kfifo_live.specs.declared.view.Opening.{Opening}
use Rattle.kfifo_renewing.specs.Joining.{IsPart, PartView, held_by}
use Rattle.kfifo_renewing.specs.Renewing.{EndsGone, IsOpenedAs, all_of, opening_in, opening_with}
use Rattle.kfifo_renewing.specs.declared.places.Lineage.{Lineage}
use Rattle.kfifo_renewing.proofs.Departures.{ends-later}
use Rattle.kfifo_renewing.proofs.Endings.{have-later, one-queue, seen-later}
use Rattle.kfifo_renewing.proofs.Histories.{prefix-trans}
use Rattle.kfifo_renewing.proofs.Joining.{parts-later}
use Rattle.kfifo_renewing.proofs.Parts.{all-from-contains}
use Rattle.kfifo_renewing.proofs.closing.gather.Goals as goal

pub take_apart-requires-clause-of : goal.take_apart-requires-clause-of
take_apart-requires-clause-of g c k d inside =
    let one = one-queue c.args.handles.items c.pop.new.self.items c.in-Some.last c.in-Some.ensures.items c.requires in
    one.3 k d inside ∙ sym (ap (λ h. h.book) c.again-seen.ensures ∙ c.history.ensures.0 ∙ one.5)

pub learn-requires : goal.learn-requires
learn-requires g c = record {
  book = c.in_ok-theirs.ensures.later.0 ∙ ap (λ h. h.book) c.again-seen.ensures ∙ c.history.ensures.0;
}

pub returns-clause-together : goal.returns-clause-together
returns-clause-together g c = c.learn-2.ensures.4.1.holds.together

pub returns-clause-all : goal.returns-clause-all
returns-clause-all g c =
    let told = c.learn.new.self in
    let log = c.take_apart.new.history.log in
    let left = c.leave_gone.new.history.log in
    let new = c.learn-2.new.self.log in
    let later : IsPrefix c.catch_up.new.self.seen new = prefix-trans c.catch_up.new.self.seen left new
    (subst (λ l. IsPrefix l left) c.in_ok-shared.ensures.history.1 c.leave_gone.ensures.later.1)
    c.learn-2.ensures.2 in (
      c.in-Some.last,
      c.pop.new.self.items,
      c.in-Some.ensures.items,
      (
        told,
        c.learn.ensures.same,
        c.learn.ensures.later,
        seen-later c.pop.new.self.items log told.seen c.learn.ensures.seen c.in_ok-theirs.ensures.seen,
        c.catch_up.new.self,
        c.catch_up.ensures.follows,
        c.if-not-catch_up.ensures.newest,
        c.catch_up.ensures.all,
        later,
        ends-later left new (all_of c.catch_up.new.self) (held_by c.in_ok-parts.parts.items) c.learn-2.ensures.2
            (subst (λ hs. EndsGone left hs (held_by c.in_ok-parts.parts.items)) c.in_ok-shared.ensures.joined
            c.in_ok-parts.ensures.left),
      ),
      have-later log new c.pop.new.self.items c.in_ok-theirs.theirs.items
          (prefix-trans log told.seen new c.learn.ensures.seen
          (prefix-trans told.seen c.catch_up.new.self.seen new c.catch_up.ensures.follows.later.seen later))
          c.in_ok-theirs.ensures.all,
    )

pub returns-clause-book : goal.returns-clause-book
returns-clause-book g c =
    let same = c.learn-2.ensures.0 ∙ c.leave_gone.ensures.later.0 ∙ c.in_ok-shared.ensures.history.0
    ∙ c.catch_up.ensures.follows.later.book ∙ c.learn.ensures.later.book in
    let one = one-queue c.args.handles.items c.pop.new.self.items c.in-Some.last c.in-Some.ensures.items c.requires in
    let book = sym (same ∙ one.5) in
    subst (All (λ h. h.book ≡ c.learn-2.new.self.book)) (sym c.in-Some.ensures.items)
    (All-push (λ h. h.book ≡ c.learn-2.new.self.book) c.pop.new.self.items c.in-Some.last
    (λ k d inside. one.3 k d inside ∙ book) (sym same))

pub returns-clause-parts : goal.returns-clause-parts
returns-clause-parts g c =
    let T = g.row.T.Denot in
    let log = c.take_apart.new.history.log in
    let told = c.learn.new.self.seen in
    let here = c.catch_up.new.self.seen in
    let mine = c.in_ok-shared.field-0.history.log in
    let new = c.leave_gone.new.history.log in
    let parts = c.in_ok-shared.field-0.parts.items in
    let later = c.leave_gone.ensures.later.1 in (
      new,
      all-from-contains (IsPart {T = T} new) c.in_ok-parts.parts.items
          (λ p of. All-contains (IsPart {T = T} new) parts p
          (parts-later mine new parts later c.in_ok-shared.ensures.history.2) (c.in_ok-parts.ensures.among p of)),
      parts-later log new c.in_ok-theirs.theirs.items
          (prefix-trans log mine new (subst (IsPrefix log) (sym c.in_ok-shared.ensures.history.1)
          (prefix-trans log told here c.learn.ensures.seen c.catch_up.ensures.follows.later.seen)) later)
          c.in_ok-theirs.ensures.parts,
    )

pub returns-clause-opened : goal.returns-clause-opened
returns-clause-opened g c =
    let T = g.row.T.Denot in
    let shared = c.in_ok-shared.field-0.shared.value in
    let one = one-queue c.args.handles.items c.pop.new.self.items c.in-Some.last c.in-Some.ensures.items c.requires in
    let same = c.in_ok-shared.ensures.shared.0 ∙ c.catch_up.ensures.follows.later.opened ∙ c.learn.ensures.later.opened
    ∙ one.4 in
    let sizes = c.sizes-sizes.ensures ∙ ap (λ (l : Lineage). l.sizes) c.in-Some-into_inner.ensures in
    let as_asked : opening_in shared ≡ opening_with g.K.Kind.bare c.sizes-sizes.result =
    ap (λ (b : Bool). opening_with b shared.sizes) c.in_ok-shared.ensures.shared.1
    ∙ ap (opening_with g.K.Kind.bare) (sym sizes) in (
      subst (λ (o : Opening). All (λ (p : PartView T). IsOpenedAs o p.handle) c.in_ok-parts.parts.items) as_asked
          (all-from-contains (λ (p : PartView T). IsOpenedAs (opening_in shared) p.handle) c.in_ok-parts.parts.items
          (λ p of. All-contains (λ (q : PartView T). IsOpenedAs (opening_in shared) q.handle)
          c.in_ok-shared.field-0.parts.items p c.in_ok-shared.ensures.of (c.in_ok-parts.ensures.among p of))),
      subst (λ (o : Opening). All (λ (p : PartView T). IsOpenedAs o p.handle) c.in_ok-theirs.theirs.items)
          (sym same ∙ as_asked) (c.in_ok-theirs.ensures.opened one.0 one.2),
    )
