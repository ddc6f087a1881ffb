-- Up to the first that is not empty.
use Rattle.std.proofs.Common.{◌≡◌, ◌-◌, ◌<◌, [], Some, ap, arith, length, refl, sym, ◌∙◌, subst}
use Rattle.std.proofs.lemmas.List.{append-nil, length-map}
use mathlib.Core.List.{IsPrefix}
use Rattle.kfifo_renewing.specs.Joining.{PartView, held_in}
use Rattle.kfifo_renewing.specs.Renewing.{Generations, IsLater, TakesFirst, with_older, with_seen}
use Rattle.kfifo_renewing.proofs.Following.{later-older, later-refl, later-trans}
use Rattle.kfifo_renewing.proofs.Joining.{left-at}
use Rattle.kfifo_renewing.proofs.Drained.{all-empty, as-many, none-yet, one-kept, one-left, one-taken, sealed-there}
use Rattle.kfifo_renewing.proofs.handle.RenewingHandle.take_first.Goals as goal

pub loop-index-init : goal.loop-index-init
loop-index-init g c =
    let now = c.args.self.now in
    record { same = refl; later = later-refl now; empty = none-yet g.K.Kind.takes g.K.Kind.seals now.seen now.older }

-- the handle after a take from one generation more, which it may then have left
goes-on : {T : Type 0} (now was mid new : Generations T) → was ≡ with_older (with_seen now was.seen) was.older
    → IsLater now was → mid ≡ with_older was mid.older → new ≡ with_older (with_seen mid new.seen) new.older
    → IsLater mid new
    → (new ≡ with_older (with_seen now new.seen) new.older) × IsLater now new × IsPrefix was.seen new.seen
goes-on {T} now was mid new same later took left more = (
  left ∙ ap (λ (v : Generations T). with_older (with_seen v new.seen) new.older)
      (took ∙ ap (λ (v : Generations T). with_older v mid.older) same),
  later-trans now was new later (later-trans was mid new (later-older was mid mid.older took) more),
  subst (λ l. IsPrefix l new.seen) (ap (λ (v : Generations T). v.seen) took) more.seen,
)

pub loop-index-preserved-then-not-leave_sealed : goal.loop-index-preserved-then-not-leave_sealed
loop-index-preserved-then-not-leave_sealed g c =
    let i = c.loop-index.invariant in
    let now = c.args.self.now in
    let was = c.loop-index.self in
    let mid = c.take_at-taken.new.self in
    let new = c.leave_sealed.new.self in
    let took = c.take_at-taken.ensures in
    let left = c.leave_sealed.ensures in
    let on = goes-on now was mid new i.same i.later took.same left.same left.later in
    record {
      same = on.0;
      later = on.1;
      empty = one-kept g.K.Kind.takes g.K.Kind.seals was.seen new.seen now.older was.older mid.older c.loop-index.index
          c.take_at-taken.result c.take_at-taken.new.is_sealed on.2 i.empty took.takes new.older c.in_default.is
          c.if-not-leave_sealed.ensures.left;
    }

pub loop-index-preserved : goal.loop-index-preserved
loop-index-preserved g c =
    let i = c.loop-index.invariant in
    let now = c.args.self.now in
    let was = c.loop-index.self in
    let mid = c.take_at-taken.new.self in
    let new = c.leave_sealed.new.self in
    let took = c.take_at-taken.ensures in
    let on = goes-on now was mid new i.same i.later took.same c.leave_sealed.ensures.same
    c.leave_sealed.ensures.later in
    record {
      same = on.0;
      later = on.1;
      empty = one-left g.K.Kind.takes g.K.Kind.seals was.seen new.seen now.older was.older mid.older c.loop-index.index
          c.take_at-taken.result c.take_at-taken.new.is_sealed on.2 i.empty took.takes new.older c.in_default.is
          c.if-not-leave_sealed.ensures.left;
    }

pub returns-in-Some : goal.returns-in-Some
returns-in-Some g c =
    let T = g.row.T.Denot in
    let i = c.loop-index.invariant in
    let now = c.args.self.now in
    let s = c.loop-index.self in
    let mid = c.take_at-taken.new.self in
    let took = c.take_at-taken.ensures in
    let R = g.K.Kind.takes in
    let S = g.K.Kind.seals in
    let same : mid.seen ≡ s.seen = ap (λ (v : Generations T). v.seen) took.same in
    let pre : IsPrefix s.seen mid.seen = ([], append-nil s.seen ∙ sym same) in
    let is : c.take_at-taken.result ≡ Some c.in-Some.taken = c.in-Some.is in
    let all = one-taken R S s.seen mid.seen now.older s.older mid.older c.loop-index.index c.take_at-taken.result
    c.take_at-taken.new.is_sealed pre i.empty took.takes (λ none. absurd cc) in
    record {
      same = took.same ∙ ap (λ (v : Generations T). with_older v mid.older) i.same
          ∙ ap (λ l. with_older (with_seen now l) mid.older) (sym same);
      later = later-trans now s mid i.later (later-older s mid mid.older took.same);
      takes = (all.0, subst (λ a. TakesFirst R S a now.older all.0) is all.1, all.2);
    }

pub returns-clause-takes : goal.returns-clause-takes
returns-clause-takes g c =
    let s = c.loop-index.self in
    all-empty g.K.Kind.takes g.K.Kind.seals s.seen c.args.self.now.older s.older c.loop-index.index
    c.loop-index.invariant.empty
    (omega (
      arith,
      c.loop-index-test.false,
      c.len.ensures.count,
      length-map c.self.inside.older.items (λ (p : PartView g.row.T.Denot). held_in p),
      ap (λ (h : Generations g.row.T.Denot). length h.older) c.self.view_is,
    ))

pub leave_sealed-requires-clause-sealed : goal.leave_sealed-requires-clause-sealed
leave_sealed-requires-clause-sealed g c =
    sealed-there g.K.Kind.takes g.K.Kind.seals c.loop-index.index c.take_at-taken.result c.take_at-taken.new.is_sealed
    c.loop-index.self.older c.take_at-taken.new.self.older c.take_at-taken.ensures.takes

pub loop-index-smaller : goal.loop-index-smaller
loop-index-smaller g c =
    let T = g.row.T.Denot in
    let s = c.loop-index.self in
    let mid = c.take_at-taken.new.self in
    let new = c.leave_sealed.new.self in
    let same : length mid.older ≡ length s.older = as-many g.K.Kind.takes g.K.Kind.seals c.loop-index.index
    c.take_at-taken.result c.take_at-taken.new.is_sealed s.older mid.older c.take_at-taken.ensures.takes in
    let less = (left-at new.seen c.loop-index.index mid.older new.older c.if-not-leave_sealed.ensures.left).1 in
    let before = c.loop-index-test.true in
    let count = c.len.ensures.count in
    let long = length-map c.self.inside.older.items (λ (p : PartView T). held_in p) in
    let view = ap (λ (h : Generations T). length h.older) c.self.view_is in
    let e : length new.older - c.loop-index.index < length s.older - c.loop-index.index =
    omega (arith, same, less, before, count, long, view) in
    e
