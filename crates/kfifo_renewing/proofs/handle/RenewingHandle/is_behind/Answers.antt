use Rattle.std.proofs.Common.{ap, ◌∙◌, subst, refl, nat_eq}
use mathlib.Core.List.{IsPrefix}
use Rattle.kfifo_renewing.specs.History.{Finds, queue_in, sight_of}
use Rattle.kfifo_renewing.specs.Renewing.{Generations, Numbered, opening_in}
use Rattle.kfifo_renewing.proofs.Histories.{made-later, risen-from}
use Rattle.kfifo_renewing.specs.Joining.{held_by}
use Rattle.kfifo_renewing.proofs.Joining.{has-all, numbered-by}
use Rattle.kfifo_renewing.proofs.Following.{found-or-newest, joins-after, was-prefix}
use Rattle.kfifo_renewing.proofs.handle.RenewingHandle.is_behind.Goals as goal

pub invariant_of-self : goal.invariant_of-self
invariant_of-self g c = (
  joins-after (opening_in c.self.inside.shared.value) c.self.inside.shared.value.history.book
      c.self.inside.history.book c.look-found.new.history.book c.self.inside.history.log c.look-found.new.history.log
      c.self.inside.generation.value c.self.inside.newest c.self.inside.newest c.self.inside.older.items
      (sight_of c.self.inside.newest.handle.held.pass.pass)
      c.look-found.result c.self.invariant.0 (subst
      (λ k. Finds (sight_of c.self.inside.newest.handle.held.pass.pass) k c.look-found.result c.self.inside.history.log
      c.look-found.new.history.log)
      (c.next.ensures.0 ∙ ap (λ (v : Numbered). v.number) c.deref.ensures) c.look-found.ensures.finds)
      c.look-found.ensures.book (refl, refl, (refl, refl, refl), refl),
  c.self.invariant.1,
)

pub returns-clause-later : goal.returns-clause-later
returns-clause-later g c =
    let new = c.look-found.new.history.log in
    let seen = ap (λ (h : Generations g.row.T.Denot). h.seen) c.self.view_is in
    let more = was-prefix (sight_of c.self.inside.newest.handle.held.pass.pass) c.look-found.ensures.finds.number
    c.self.inside.history.log new c.look-found.ensures.finds.was in
    record {
      opened = ap (λ (h : Generations g.row.T.Denot). h.opened) c.self.view_is;
      thread = ap (λ (h : Generations g.row.T.Denot). h.thread) c.self.view_is;
      book = c.look-found.ensures.book ∙ ap (λ (h : Generations g.row.T.Denot). h.book) c.self.view_is;
      seen = subst (λ l. IsPrefix l new) seen more;
      risen = risen-from c.args.self.now.seen new (subst (λ l. IsPrefix l new) seen more)
          c.look-found.ensures.finds.risen;
    }

pub returns-clause-newest : goal.returns-clause-newest
returns-clause-newest g c =
    let log = c.look-found.new.history.log in
    let seen = ap (λ (h : Generations g.row.T.Denot). h.seen) c.self.view_is in
    let n = c.self.inside.generation.value.number in
    let number = c.next.ensures.0 ∙ ap (λ (v : Numbered). v.number) c.deref.ensures in
    let found = subst (λ l. Finds (sight_of c.self.inside.newest.handle.held.pass.pass) n c.look-found.result l
    log) seen
    (subst (λ k. Finds (sight_of c.self.inside.newest.handle.held.pass.pass) k c.look-found.result
    c.self.inside.history.log log) number c.look-found.ensures.finds) in
    found-or-newest c.look-found.result n (sight_of c.self.inside.newest.handle.held.pass.pass) c.args.self.now.seen log
    (queue_in c.self.inside.newest.handle.held.pass.pass)
    found (made-later c.self.inside.history.log log n (queue_in c.self.inside.newest.handle.held.pass.pass)
    (was-prefix (sight_of c.self.inside.newest.handle.held.pass.pass) c.look-found.ensures.finds.number
    c.self.inside.history.log log c.look-found.ensures.finds.was)
    (numbered-by (opening_in c.self.inside.shared.value) c.self.inside.shared.value.history.book
    c.self.inside.history.book
    c.self.inside.history.log c.self.inside.generation.value c.self.inside.newest c.self.inside.older.items
    c.self.invariant.0)) (nat_eq c.look-found.result 0) refl

pub returns-clause-all : goal.returns-clause-all
returns-clause-all g c =
    let T = g.row.T.Denot in
    let s = c.self.inside in
    has-all (opening_in s.shared.value) s.shared.value.history.book c.look-found.new.history.book s.generation.value
    s.newest
    s.older.items (record {
      opened = opening_in s.shared.value;
      thread = s.thread;
      book = c.look-found.new.history.book;
      seen = c.look-found.new.history.log;
      older = held_by s.older.items;
      newest = s.newest.handle;
      number = s.generation.value.number;
    }) (joins-after (opening_in s.shared.value) s.shared.value.history.book s.history.book
    c.look-found.new.history.book s.history.log c.look-found.new.history.log s.generation.value s.newest s.newest
    s.older.items (sight_of s.newest.handle.held.pass.pass)
    c.look-found.result c.self.invariant.0
    (subst (λ k. Finds (sight_of s.newest.handle.held.pass.pass) k c.look-found.result s.history.log
    c.look-found.new.history.log)
    (c.next.ensures.0 ∙ ap (λ (v : Numbered). v.number) c.deref.ensures) c.look-found.ensures.finds)
    c.look-found.ensures.book (refl, refl, (refl, refl, refl), refl)) refl refl refl
