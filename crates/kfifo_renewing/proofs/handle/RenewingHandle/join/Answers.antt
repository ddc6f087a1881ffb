-- The generation that was the newest is then among the older ones, and behind it those up to the one that is joined.
use Rattle.std.proofs.Common.{◌≡◌, ◌<◌, ◌∷◌, [], ◌++◌, All, arith, slice_index_or, sym, ap, ◌∙◌, subst}
use Rattle.std.proofs.lemmas.List.{append-nil, map-append}
use Rattle.std.proofs.lemmas.List.Elements.{All-map, All-push}
use mathlib.Core.List.{IsPrefix}
use Rattle.kfifo_live.specs.Pass.{IsPassOf}
use Rattle.kfifo_renewing.specs.History.{IsMade, WasNewest, newest_of, queue_in}
use Rattle.kfifo_renewing.specs.Joining.{AreAmong, IsPart, IsPartOf, PartView, held_by, held_in}
use Rattle.kfifo_renewing.specs.Renewing.{Generations, HeldIn, IsFresh, IsNew, LeavesGone, all_of}
use Rattle.kfifo_renewing.specs.Renewing.{opening_in}
use Rattle.kfifo_renewing.proofs.Histories.{risen-from}
use Rattle.kfifo_renewing.proofs.Joining.{among-later, joined-more, part-later, parts-later}
use Rattle.kfifo_renewing.proofs.Departures.{leaves-refl}
use Rattle.kfifo_renewing.proofs.Keeping.{kept-risen}
use Rattle.kfifo_renewing.proofs.NoCells.{fresh-without}
use Rattle.kfifo_renewing.proofs.Following.{follows-jump, follows-less}
use Rattle.kfifo_renewing.proofs.handle.RenewingHandle.join.Goals as goal

pub invariant_of-self-2 : goal.invariant_of-self-2
invariant_of-self-2 g c = (
  let T = g.row.T.Denot in
      let s = c.self.inside in
      let v = sym c.self.view_is in
      let o = opening_in s.shared.value in
      let log = c.learn.new.self.log in
      let seen = c.args.history.now.log in
      let next = c.args.generation.value in
      let k = c.replace-before.new.dest in
      let after = sym c.replace-before.ensures.after in
      joined-more o s.shared.value.history.book s.history.book c.learn.new.self.book s.history.log log
      s.generation.value next s.newest k s.older.items c.args.between.items c.add.new.self.items c.self.invariant.0
      c.learn.ensures.0
      c.learn.ensures.2 (kept-risen c.learn.ensures.4.0 log c.learn.ensures.4.1)
      (subst (λ (x : Generations T). next.book ≡ x.book) v c.requires.books.1)
      (subst (IsPartOf o s.history.book) after
      (subst (λ (x : Generations T). IsPartOf x.opened x.book c.args.newest) v c.requires.of.0))
      (subst (λ (p : PartView T). IsPassOf next.queue p.handle.held.pass.pass) after c.requires.of.1)
      (subst (λ (p : PartView T). p.number ≡ next.number) after c.requires.part.0)
      (subst (IsPart log) after (part-later seen log c.args.newest c.learn.ensures.3 c.requires.part.1))
      (subst (λ (x : Generations T). x.number < next.number) v c.requires.later)
      (subst (λ (x : Generations T). WasNewest x.seen next.number) v c.requires.was)
      (subst (λ (x : Generations T). All (IsPartOf x.opened x.book) c.args.between.items) v
      c.requires.opened)
      (parts-later seen log c.args.between.items c.learn.ensures.3 c.requires.parts)
      c.requires.below
      (among-later s.generation.value.number next.number c.args.between.items s.history.log seen log c.learn.ensures.3
      (subst (λ (x : Generations T). AreAmong x.number next.number c.args.between.items x.seen seen) v c.requires.all))
      (c.add.ensures ∙ ap (λ l. l ++ c.args.between.items)
      (ap (λ l. l ++ c.replace-before.result ∷ []) c.make_room.ensures.items
      ∙ ap (λ x. s.older.items ++ x ∷ []) c.replace-before.ensures.value)),
  c.self.invariant.1,
)

pub returns : goal.returns
returns g c =
    let T = g.row.T.Denot in
    let s = c.self.inside in
    let now = c.args.self.now in
    let view_is = c.self.view_is in
    let log = c.learn.new.self.log in
    let next = c.args.generation.value in
    let k = c.replace-before.new.dest in
    let between = c.args.between.items in
    let P : HeldIn T → Type 0 = IsNew now.thread now.number log in
    let seen = ap (λ (h : Generations T). h.seen) view_is in
    let more = subst (λ l. IsPrefix l log) seen c.learn.ensures.2 in
    let parts = parts-later c.args.history.now.log log between c.learn.ensures.3 c.requires.parts in
    let each : All P (held_by between) = All-map P (λ (p : PartView T). held_in p) between
    (λ i d inside. ((c.requires.unused.1 i d inside).0, (parts i d inside).made, (c.requires.unused.1 i d inside).1)) in
    let part : IsPart log k = subst (IsPart log) (sym c.replace-before.ensures.after)
    (part-later c.args.history.now.log log c.args.newest c.learn.ensures.3 c.requires.part.1) in
    let number : k.number ≡ next.number =
    subst (λ (p : PartView T). p.number ≡ next.number) (sym c.replace-before.ensures.after) c.requires.part.0 in
    let last : P (record { handle = k.handle; number = next.number }) = (
      c.requires.later,
      subst (λ n. IsMade log n (queue_in k.handle.held.pass.pass)) number part.made,
      subst (λ (p : PartView T). IsFresh now.thread p.handle) (sym c.replace-before.ensures.after) c.requires.unused.0,
    ) in
    follows-jump now _ (held_by between) (record {
      opened = ap (λ (h : Generations T). h.opened) view_is;
      thread = ap (λ (h : Generations T). h.thread) view_is;
      book = c.learn.ensures.0 ∙ ap (λ (h : Generations T). h.book) view_is;
      seen = more;
      risen = risen-from now.seen log more (kept-risen c.learn.ensures.4.0 log c.learn.ensures.4.1);
    }) (let above = c.requires.later in omega (arith, above))
    (ap held_by (c.add.ensures ∙ ap (λ l. l ++ between)
    (ap (λ l. l ++ c.replace-before.result ∷ []) c.make_room.ensures.items
    ∙ ap (λ x. s.older.items ++ x ∷ []) c.replace-before.ensures.value))
    ∙ map-append (λ (p : PartView T). held_in p) (s.older.items ++ s.newest ∷ []) between
    ∙ ap (λ l. l ++ held_by between) (map-append (λ (p : PartView T). held_in p) s.older.items (s.newest ∷ [])
    ∙ ap (λ n. held_by s.older.items ++ record { handle = s.newest.handle; number = n } ∷ []) c.self.invariant.0.number
    ∙ ap (λ (h : Generations T). all_of h) view_is))
    (All-push P (held_by between) (record { handle = k.handle; number = next.number }) each last)

pub add-requires-clause-none : goal.add-requires-clause-none
add-requires-clause-none g c i d inside = fresh-without (slice_index_or c.args.between.items i d)
    (c.requires.unused.1 i d inside).1.0

pub leave_unused-requires : goal.leave_unused-requires
leave_unused-requires g c i d inside = (c.requires.unused.1 i d inside).1.0

pub returns-then-not-make_room : goal.returns-then-not-make_room
returns-then-not-make_room g c =
    let T = g.row.T.Denot in
    let view_is = c.self.view_is in
    let older = ap held_by c.make_room.ensures.items ∙ ap (λ (h : Generations T). h.older) view_is in
    follows-less c.args.self.now _ (record {
      opened = ap (λ (h : Generations T). h.opened) view_is;
      thread = ap (λ (h : Generations T). h.thread) view_is;
      book = ap (λ (h : Generations T). h.book) view_is;
      seen = ([], append-nil c.args.self.now.seen ∙ sym (ap (λ (h : Generations T). h.seen) view_is));
      risen = omega (arith, ap (λ (h : Generations T). newest_of h.seen) view_is);
    }) (subst (λ l. LeavesGone c.self.inside.history.log l (held_by c.make_room.new.self.items)) older
    (leaves-refl c.self.inside.history.log (held_by c.make_room.new.self.items)))
    (ap (λ (h : Generations T). h.newest) view_is) (ap (λ (h : Generations T). h.number) view_is)
