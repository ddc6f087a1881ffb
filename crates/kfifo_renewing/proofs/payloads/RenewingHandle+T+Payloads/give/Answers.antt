-- A look, and then the give, where it found no later generation.
use Rattle.std.proofs.Common.{◌≡◌, refl, ap, ◌∙◌, subst}
use Rattle.kfifo_live.specs.declared.payload.Given.TheVariants as G
use Rattle.kfifo_pool.specs.Pooled.{GivesOne, Pooled}
use Rattle.kfifo_live.specs.Pass.{IsSamePass}
use Rattle.kfifo_renewing.specs.History.{Finds, sight_of}
use Rattle.kfifo_renewing.specs.Renewing.{Generations, GivesToNewest, GoesOn, Numbered, opening_in, with_newest}
use Rattle.kfifo_renewing.specs.Renewing.{with_seen}
use Rattle.kfifo_renewing.proofs.Joining.{numbered-by}
use Rattle.kfifo_renewing.proofs.Following.{Looked, joins-after, looked-follows, same-but-seen}
use Rattle.kfifo_renewing.proofs.Giving.{gave-here, gives-after}
use Rattle.kfifo_renewing.proofs.payloads.RenewingHandle+T+Payloads.give.Goals as goal

pub returns-then-self-eq0 : goal.returns-then-self-eq0
returns-then-self-eq0 g c =
    subst (λ (v : Generations g.row.T.Denot). GivesToNewest c.args.payload c.give_late.result v c.give_late.new.self)
    c.self.view_is
    c.give_late.ensures

pub invariant_of-self-then-look-ne0 : goal.invariant_of-self-then-look-ne0
invariant_of-self-then-look-ne0 g c = (
  joins-after (opening_in c.self.inside.shared.value) c.self.inside.shared.value.history.book
      c.self.inside.history.book c.look.new.history.book c.self.inside.history.log c.look.new.history.log
      c.self.inside.generation.value c.self.inside.newest c.self.inside.newest c.self.inside.older.items
      (sight_of c.self.inside.newest.handle.held.pass.pass)
      c.look.result c.self.invariant.0 (subst
      (λ k. Finds (sight_of c.self.inside.newest.handle.held.pass.pass) k c.look.result c.self.inside.history.log
      c.look.new.history.log)
      (c.next.ensures.0 ∙ ap (λ (v : Numbered). v.number) c.deref-generation.ensures) c.look.ensures.finds)
      c.look.ensures.book (refl, refl, (refl, refl, refl), refl),
  c.self.invariant.1,
)

pub returns-then-look-ne0 : goal.returns-then-look-ne0
returns-then-look-ne0 g c =
    let T = g.row.T.Denot in
    let i = c.self.invariant.0 in
    let log = c.self.inside.history.log in
    let new = c.look.new.history.log in
    let n = c.self.inside.generation.value.number in
    let found = c.look.result in
    let finds = subst (λ k. Finds (sight_of c.self.inside.newest.handle.held.pass.pass) k found log new)
    (c.next.ensures.0 ∙ ap (λ (v : Numbered). v.number) c.deref-generation.ensures) c.look.ensures.finds in
    let now = c.args.self.now in
    let looked = subst (Looked found new) c.self.view_is (
      finds,
      numbered-by (opening_in c.self.inside.shared.value) c.self.inside.shared.value.history.book
          c.self.inside.history.book
          log c.self.inside.generation.value c.self.inside.newest c.self.inside.older.items i,
    ) in
    let h = c.self.inside.newest.handle in
    let r = c.give_late-then-look-ne0.result in
    let end = c.give_late-then-look-ne0.new.self in
    let is = same-but-seen new h now (ap (λ (v : Generations T). v.opened) c.self.view_is)
    (ap (λ (v : Generations T). v.thread) c.self.view_is)
    (c.look.ensures.book ∙ ap (λ (v : Generations T). v.book) c.self.view_is)
    (ap (λ (v : Generations T). v.older) c.self.view_is) (ap (λ (v : Generations T). v.number) c.self.view_is) in
    let here = is ∙ ap (λ (x : Pooled T). with_newest (with_seen now new) x)
    (ap (λ (v : Generations T). v.newest) c.self.view_is) in
    gives-after c.args.payload r now (with_seen now new) end (looked-follows found new now looked)
    (subst (λ (v : Generations T). GivesToNewest c.args.payload r v end) here c.give_late-then-look-ne0.ensures)

pub invariant_of-self-in-Done : goal.invariant_of-self-in-Done
invariant_of-self-in-Done g c = (
  joins-after (opening_in c.self.inside.shared.value) c.self.inside.shared.value.history.book
      c.self.inside.history.book c.look.new.history.book c.self.inside.history.log c.look.new.history.log
      c.self.inside.generation.value c.self.inside.newest c.give.new.self c.self.inside.older.items
      (sight_of c.self.inside.newest.handle.held.pass.pass)
      c.look.result c.self.invariant.0 (subst
      (λ k. Finds (sight_of c.self.inside.newest.handle.held.pass.pass) k c.look.result c.self.inside.history.log
      c.look.new.history.log)
      (c.next.ensures.0 ∙ ap (λ (v : Numbered). v.number) c.deref-generation.ensures) c.look.ensures.finds)
      c.look.ensures.book c.give.ensures.same,
  c.self.invariant.1,
)

pub invariant_of-self-in_default : goal.invariant_of-self-in_default
invariant_of-self-in_default g c = (
  joins-after (opening_in c.self.inside.shared.value) c.self.inside.shared.value.history.book
      c.self.inside.history.book c.look.new.history.book c.self.inside.history.log c.look.new.history.log
      c.self.inside.generation.value c.self.inside.newest c.give.new.self c.self.inside.older.items
      (sight_of c.self.inside.newest.handle.held.pass.pass)
      c.look.result c.self.invariant.0 (subst
      (λ k. Finds (sight_of c.self.inside.newest.handle.held.pass.pass) k c.look.result c.self.inside.history.log
      c.look.new.history.log)
      (c.next.ensures.0 ∙ ap (λ (v : Numbered). v.number) c.deref-generation.ensures) c.look.ensures.finds)
      c.look.ensures.book c.give.ensures.same,
  c.self.invariant.1,
)

pub returns-in-Done : goal.returns-in-Done
returns-in-Done g c =
    let T = g.row.T.Denot in
    let i = c.self.invariant.0 in
    let log = c.self.inside.history.log in
    let new = c.look.new.history.log in
    let n = c.self.inside.generation.value.number in
    let found = c.look.result in
    let finds = subst (λ k. Finds (sight_of c.self.inside.newest.handle.held.pass.pass) k found log new)
    (c.next.ensures.0 ∙ ap (λ (v : Numbered). v.number) c.deref-generation.ensures) c.look.ensures.finds in
    let now = c.args.self.now in
    let looked = subst (Looked found new) c.self.view_is (
      finds,
      numbered-by (opening_in c.self.inside.shared.value) c.self.inside.shared.value.history.book
          c.self.inside.history.book
          log c.self.inside.generation.value c.self.inside.newest c.self.inside.older.items i,
    ) in
    let h = c.give.new.self.handle in
    let none : found ≡ 0 = c.if-look-ne0.false in
    let same = subst (λ (v : Generations T). IsSamePass v.newest.held.pass.pass h.held.pass.pass) c.self.view_is
    c.give.ensures.same.2 in
    let is = same-but-seen new h now (ap (λ (v : Generations T). v.opened) c.self.view_is)
    (ap (λ (v : Generations T). v.thread) c.self.view_is)
    (c.look.ensures.book ∙ ap (λ (v : Generations T). v.book) c.self.view_is)
    (ap (λ (v : Generations T). v.older) c.self.view_is) (ap (λ (v : Generations T). v.number) c.self.view_is) in
    let payload = c.args.payload in
    let gives = subst (λ (v : Generations T). GivesOne payload G.Done v.newest h) c.self.view_is
    c.in-Done.ensures.gives in (
      G.Done,
      with_newest (with_seen now new) h,
      gave-here payload G.Done now found new h looked none same gives,
      (refl, is),
    )

pub returns-in_default : goal.returns-in_default
returns-in_default g c =
    let T = g.row.T.Denot in
    let i = c.self.invariant.0 in
    let log = c.self.inside.history.log in
    let new = c.look.new.history.log in
    let n = c.self.inside.generation.value.number in
    let found = c.look.result in
    let finds = subst (λ k. Finds (sight_of c.self.inside.newest.handle.held.pass.pass) k found log new)
    (c.next.ensures.0 ∙ ap (λ (v : Numbered). v.number) c.deref-generation.ensures) c.look.ensures.finds in
    let now = c.args.self.now in
    let looked = subst (Looked found new) c.self.view_is (
      finds,
      numbered-by (opening_in c.self.inside.shared.value) c.self.inside.shared.value.history.book
          c.self.inside.history.book
          log c.self.inside.generation.value c.self.inside.newest c.self.inside.older.items i,
    ) in
    let h = c.give.new.self.handle in
    let none : found ≡ 0 = c.if-look-ne0.false in
    let same = subst (λ (v : Generations T). IsSamePass v.newest.held.pass.pass h.held.pass.pass) c.self.view_is
    c.give.ensures.same.2 in
    let is = same-but-seen new h now (ap (λ (v : Generations T). v.opened) c.self.view_is)
    (ap (λ (v : Generations T). v.thread) c.self.view_is)
    (c.look.ensures.book ∙ ap (λ (v : Generations T). v.book) c.self.view_is)
    (ap (λ (v : Generations T). v.older) c.self.view_is) (ap (λ (v : Generations T). v.number) c.self.view_is) in
    let payload = c.args.payload in
    let first = c.give.result in
    let here = with_newest (with_seen now new) h in
    let end = c.go_on.new.self in
    let gives = subst (λ (v : Generations T). GivesOne payload first v.newest h) c.self.view_is
    c.give.ensures.gives in (
      first,
      here,
      gave-here payload first now found new h looked none same gives,
      subst (λ (v : Generations T). GoesOn first c.go_on.result v end) is c.go_on.ensures,
    )
