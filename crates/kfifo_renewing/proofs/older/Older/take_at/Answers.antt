-- The part at the index has made a call, and the others are as before.
use Rattle.std.proofs.Common.{◌+◌, ◌∷◌, All, List, ap, arith, drop, length, slice_set}
use Rattle.std.proofs.Common.{sym, ◌∙◌, subst, take}
use Rattle.std.proofs.lemmas.List.{length-map, map-append}
use Rattle.kfifo_renewing.specs.Joining.{AreSameParts, HasNoCell, OlderView, PartView, held_by, held_in}
use Rattle.kfifo_renewing.specs.Renewing.{HeldIn}
use Rattle.kfifo_renewing.proofs.Joining.{get-at, same-set}
use Rattle.kfifo_renewing.proofs.NoCells.{all-from-later, drop-set}
use Rattle.kfifo_renewing.proofs.Parts.{split-get, split-set}
use Rattle.kfifo_renewing.proofs.older.Older.take_at.Goals as goal

pub invariant_of-self : goal.invariant_of-self
invariant_of-self g c =
    let items = c.self.inside.parts.items in
    let n = c.max-self-inside.result in
    let is = c.max-self-inside.ensures in
    subst (All HasNoCell) (sym (drop-set items c.args.index n c.take_older.new.self (omega (arith, is))))
    (all-from-later HasNoCell items c.self.inside.with_cells n (omega (arith, is)) c.self.invariant)

pub returns-clause-same : goal.returns-clause-same
returns-clause-same g c =
    let T = g.row.T.Denot in
    let items = c.self.inside.parts.items in
    let p : PartView T = c.index_mut.result.now in
    let long = ap (λ (o : OlderView T). length o.items) c.self.view_is in
    let at = get-at items c.args.index p p (omega (arith, c.requires.index, long)) c.index_mut.ensures.value in
    subst (λ (ps : List (PartView T)). AreSameParts ps (slice_set items c.args.index c.take_older.new.self))
    (ap (λ (o : OlderView T). o.items) c.self.view_is)
    (same-set items c.args.index p c.take_older.new.self at c.take_older.ensures.same)

pub returns-clause-takes : goal.returns-clause-takes
returns-clause-takes g c =
    let T = g.row.T.Denot in
    let f : PartView T → HeldIn T = λ q. held_in q in
    let items = c.self.inside.parts.items in
    let i = c.args.index in
    let p : PartView T = c.index_mut.result.now in
    let q : PartView T = c.take_older.new.self in
    let long = ap (λ (o : OlderView T). length o.items) c.self.view_is in
    let at = get-at items i p p (omega (arith, c.requires.index, long)) c.index_mut.ensures.value in
    let split = split-get items i p at in
    record {
      before = held_by (take i items);
      after = held_by (drop (i + 1) items);
      handle = held_in p;
      next = held_in q;
      was = ap (λ (o : OlderView T). held_by o.items) (sym c.self.view_is) ∙ ap held_by split.0
          ∙ map-append f (take i items) (p ∷ drop (i + 1) items);
      now = ap held_by (split-set items i p q at) ∙ map-append f (take i items) (q ∷ drop (i + 1) items);
      at = length-map (take i items) f ∙ split.1;
      number = c.take_older.ensures.same.0;
      took = c.take_older.ensures.takes;
      sealed = c.take_older.ensures.sealed;
    }
