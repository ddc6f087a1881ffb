-- A look, and then the take, where the handle has one generation and the look found no later one.
use Rattle.std.proofs.Common.{refl, ◌≡◌, arith, sym, ap, ◌∙◌, subst}
use Rattle.std.proofs.lemmas.List.{nil_from_length}
use Rattle.kfifo_live.specs.declared.payload.Taken.TheVariants as K
use Rattle.kfifo_pool.specs.Pooled.{Pooled}
use Rattle.kfifo_renewing.specs.History.{Finds, sight_of}
use Rattle.kfifo_renewing.specs.Renewing.{Generations, IsLater, LooksAgain, Numbered, opening_in, TakesBy, TakesThere}
use Rattle.kfifo_renewing.specs.Renewing.{with_newest, with_seen}
use Rattle.kfifo_renewing.specs.Joining.{held_by}
use Rattle.kfifo_renewing.proofs.Joining.{has-all, numbered-by}
use Rattle.kfifo_renewing.proofs.Following.{Looked, joins-after, looked-follows, same-but-seen}
use Rattle.kfifo_renewing.proofs.Looking.{takes-from-after, took-other, took-some}
use Rattle.kfifo_renewing.proofs.handle.RenewingHandle.take_in_order.Goals as goal

pub invariant_of-self : goal.invariant_of-self
invariant_of-self g c = (
  joins-after (opening_in c.self.inside.shared.value) c.self.inside.shared.value.history.book
      c.self.inside.history.book c.look-later.new.history.book c.self.inside.history.log c.look-later.new.history.log
      c.self.inside.generation.value c.self.inside.newest c.self.inside.newest c.self.inside.older.items
      (sight_of c.self.inside.newest.handle.held.pass.pass)
      c.look-later.result c.self.invariant.0 (subst
      (λ k. Finds (sight_of c.self.inside.newest.handle.held.pass.pass) k c.look-later.result c.self.inside.history.log
      c.look-later.new.history.log)
      (c.next.ensures.0 ∙ ap (λ (v : Numbered). v.number) c.deref-generation.ensures) c.look-later.ensures.finds)
      c.look-later.ensures.book (refl, refl, (refl, refl, refl), refl),
  c.self.invariant.1,
)

pub returns-then-later-len-ne0 : goal.returns-then-later-len-ne0
returns-then-later-len-ne0 g c =
    let T = g.row.T.Denot in
    let R = g.K.Kind.takes in
    let S = g.K.Kind.seals in
    let i = c.self.invariant.0 in
    let log = c.self.inside.history.log in
    let new = c.look-later.new.history.log in
    let n = c.self.inside.generation.value.number in
    let found = c.look-later.result in
    let finds = subst (λ k. Finds (sight_of c.self.inside.newest.handle.held.pass.pass) k found log new)
    (c.next.ensures.0 ∙ ap (λ (v : Numbered). v.number) c.deref-generation.ensures) c.look-later.ensures.finds in
    let now = c.args.self.now in
    let looked = subst (Looked found new) c.self.view_is (
      finds,
      numbered-by (opening_in c.self.inside.shared.value) c.self.inside.shared.value.history.book
          c.self.inside.history.book
          log c.self.inside.generation.value c.self.inside.newest c.self.inside.older.items i,
    ) in
    let h = c.self.inside.newest.handle in
    let r = c.take_late-taken.result in
    let end = c.take_late-taken.new.self in
    let is = same-but-seen new h now (ap (λ (v : Generations T). v.opened) c.self.view_is)
    (ap (λ (v : Generations T). v.thread) c.self.view_is)
    (c.look-later.ensures.book ∙ ap (λ (v : Generations T). v.book) c.self.view_is)
    (ap (λ (v : Generations T). v.older) c.self.view_is) (ap (λ (v : Generations T). v.number) c.self.view_is) in
    let here = is ∙ ap (λ (x : Pooled T). with_newest (with_seen now new) x)
    (ap (λ (v : Generations T). v.newest) c.self.view_is) in
    takes-from-after R S r now (with_seen now new) end (looked-follows found new now looked)
    (subst (λ (v : Generations T). TakesBy R S r v end) here c.take_late-taken.ensures)

pub invariant_of-self-in-Got : goal.invariant_of-self-in-Got
invariant_of-self-in-Got g c = (
  joins-after (opening_in c.self.inside.shared.value) c.self.inside.shared.value.history.book
      c.self.inside.history.book c.look-later.new.history.book c.self.inside.history.log c.look-later.new.history.log
      c.self.inside.generation.value c.self.inside.newest c.take.new.self c.self.inside.older.items
      (sight_of c.self.inside.newest.handle.held.pass.pass)
      c.look-later.result c.self.invariant.0 (subst
      (λ k. Finds (sight_of c.self.inside.newest.handle.held.pass.pass) k c.look-later.result c.self.inside.history.log
      c.look-later.new.history.log)
      (c.next.ensures.0 ∙ ap (λ (v : Numbered). v.number) c.deref-generation.ensures) c.look-later.ensures.finds)
      c.look-later.ensures.book c.take.ensures.same,
  c.self.invariant.1,
)

pub invariant_of-self-in_default : goal.invariant_of-self-in_default
invariant_of-self-in_default g c = (
  joins-after (opening_in c.self.inside.shared.value) c.self.inside.shared.value.history.book
      c.self.inside.history.book c.look-later.new.history.book c.self.inside.history.log c.look-later.new.history.log
      c.self.inside.generation.value c.self.inside.newest c.take.new.self c.self.inside.older.items
      (sight_of c.self.inside.newest.handle.held.pass.pass)
      c.look-later.result c.self.invariant.0 (subst
      (λ k. Finds (sight_of c.self.inside.newest.handle.held.pass.pass) k c.look-later.result c.self.inside.history.log
      c.look-later.new.history.log)
      (c.next.ensures.0 ∙ ap (λ (v : Numbered). v.number) c.deref-generation.ensures) c.look-later.ensures.finds)
      c.look-later.ensures.book c.take.ensures.same,
  c.self.invariant.1,
)

pub returns-in-Got : goal.returns-in-Got
returns-in-Got g c =
    let T = g.row.T.Denot in
    let R = g.K.Kind.takes in
    let S = g.K.Kind.seals in
    let i = c.self.invariant.0 in
    let log = c.self.inside.history.log in
    let new = c.look-later.new.history.log in
    let n = c.self.inside.generation.value.number in
    let found = c.look-later.result in
    let finds = subst (λ k. Finds (sight_of c.self.inside.newest.handle.held.pass.pass) k found log new)
    (c.next.ensures.0 ∙ ap (λ (v : Numbered). v.number) c.deref-generation.ensures) c.look-later.ensures.finds in
    let now = c.args.self.now in
    let looked = subst (Looked found new) c.self.view_is (
      finds,
      numbered-by (opening_in c.self.inside.shared.value) c.self.inside.shared.value.history.book
          c.self.inside.history.book
          log c.self.inside.generation.value c.self.inside.newest c.self.inside.older.items i,
    ) in
    let h = c.take.new.self.handle in
    let none : found ≡ 0 = omega (arith, c.if-later-len-ne0.false) in
    let alone = sym (ap (λ (v : Generations T). v.older) c.self.view_is)
    ∙ ap held_by
    (nil_from_length c.self.inside.older.items (omega (arith, c.if-later-len-ne0.false, c.len.ensures.count))) in
    let all = has-all (opening_in c.self.inside.shared.value) c.self.inside.shared.value.history.book
    c.look-later.new.history.book
    c.self.inside.generation.value c.self.inside.newest c.self.inside.older.items (with_seen now new)
    (joins-after (opening_in c.self.inside.shared.value) c.self.inside.shared.value.history.book
    c.self.inside.history.book
    c.look-later.new.history.book log new c.self.inside.generation.value c.self.inside.newest c.self.inside.newest
    c.self.inside.older.items
    (sight_of c.self.inside.newest.handle.held.pass.pass) found i finds c.look-later.ensures.book
    (refl, refl, (refl, refl, refl), refl))
    (ap (λ (v : Generations T). v.older) c.self.view_is) (ap (λ (v : Generations T). v.newest) c.self.view_is)
    (ap (λ (v : Generations T). v.number) c.self.view_is) in
    let takes = subst (λ (v : Generations T). TakesThere R c.take.result v.newest h) c.self.view_is
    c.take.ensures.takes in
    let is = same-but-seen new h now (ap (λ (v : Generations T). v.opened) c.self.view_is)
    (ap (λ (v : Generations T). v.thread) c.self.view_is)
    (c.look-later.ensures.book ∙ ap (λ (v : Generations T). v.book) c.self.view_is)
    (ap (λ (v : Generations T). v.older) c.self.view_is) (ap (λ (v : Generations T). v.number) c.self.view_is) in
    subst (λ (v : Generations T). TakesBy R S (K.Got c.in-Got.got) now v) (sym is)
    (took-some R S (K.Got c.in-Got.got) now found new h looked none all alone
    (subst (λ a. TakesThere R a now.newest h) c.in-Got.is takes) (λ same. absurd cc))

pub returns-in_default : goal.returns-in_default
returns-in_default g c =
    let T = g.row.T.Denot in
    let R = g.K.Kind.takes in
    let S = g.K.Kind.seals in
    let i = c.self.invariant.0 in
    let log = c.self.inside.history.log in
    let new = c.look-later.new.history.log in
    let n = c.self.inside.generation.value.number in
    let found = c.look-later.result in
    let finds = subst (λ k. Finds (sight_of c.self.inside.newest.handle.held.pass.pass) k found log new)
    (c.next.ensures.0 ∙ ap (λ (v : Numbered). v.number) c.deref-generation.ensures) c.look-later.ensures.finds in
    let now = c.args.self.now in
    let looked = subst (Looked found new) c.self.view_is (
      finds,
      numbered-by (opening_in c.self.inside.shared.value) c.self.inside.shared.value.history.book
          c.self.inside.history.book
          log c.self.inside.generation.value c.self.inside.newest c.self.inside.older.items i,
    ) in
    let h = c.take.new.self.handle in
    let none : found ≡ 0 = omega (arith, c.if-later-len-ne0.false) in
    let alone = sym (ap (λ (v : Generations T). v.older) c.self.view_is)
    ∙ ap held_by
    (nil_from_length c.self.inside.older.items (omega (arith, c.if-later-len-ne0.false, c.len.ensures.count))) in
    let all = has-all (opening_in c.self.inside.shared.value) c.self.inside.shared.value.history.book
    c.look-later.new.history.book
    c.self.inside.generation.value c.self.inside.newest c.self.inside.older.items (with_seen now new)
    (joins-after (opening_in c.self.inside.shared.value) c.self.inside.shared.value.history.book
    c.self.inside.history.book
    c.look-later.new.history.book log new c.self.inside.generation.value c.self.inside.newest c.self.inside.newest
    c.self.inside.older.items
    (sight_of c.self.inside.newest.handle.held.pass.pass) found i finds c.look-later.ensures.book
    (refl, refl, (refl, refl, refl), refl))
    (ap (λ (v : Generations T). v.older) c.self.view_is) (ap (λ (v : Generations T). v.newest) c.self.view_is)
    (ap (λ (v : Generations T). v.number) c.self.view_is) in
    let takes = subst (λ (v : Generations T). TakesThere R c.take.result v.newest h) c.self.view_is
    c.take.ensures.takes in
    let is = same-but-seen new h now (ap (λ (v : Generations T). v.opened) c.self.view_is)
    (ap (λ (v : Generations T). v.thread) c.self.view_is)
    (c.look-later.ensures.book ∙ ap (λ (v : Generations T). v.book) c.self.view_is)
    (ap (λ (v : Generations T). v.older) c.self.view_is) (ap (λ (v : Generations T). v.number) c.self.view_is) in
    let end = c.look_again-taken.new.self in
    let r = c.look_again-taken.result in
    took-other R S c.take.result r now end found new h looked none all alone takes
    (subst (λ (v : Generations T). end ≡ with_seen v end.seen) is c.look_again-taken.ensures.same)
    (subst (λ (v : Generations T). IsLater v end) is c.look_again-taken.ensures.later)
    (subst (λ (v : Generations T). LooksAgain c.take.result r v end) is c.look_again-taken.ensures.looks)
