-- One part more is kept, or has left.
use Rattle.std.proofs.Common.{◌≡◌, ◌++◌, [], ◌∷◌, ⊎_elim, All, append_assoc, arith, ap, refl, rules, sym, ◌∙◌, subst}
use Rattle.std.specs.List.{Contains}
use Rattle.std.proofs.lemmas.List.{append-nil, map-append, nil_from_length}
use Rattle.std.proofs.lemmas.List.Elements.{Contains-append_left, Contains-push}
use Rattle.kfifo_renewing.specs.Joining.{IsPart, PartView, held_by, held_in}
use Rattle.kfifo_renewing.specs.Renewing.{EndsGone}
use Rattle.kfifo_renewing.proofs.Departures.{ends-kept, ends-later, ends-left}
use Rattle.kfifo_renewing.proofs.Histories.{contains-more, prefix-trans}
use Rattle.kfifo_renewing.proofs.Joining.{part-later}
use Rattle.kfifo_renewing.proofs.Parts.{all-next}
use Rattle.kfifo_renewing.proofs.closing.leave_gone.Goals as goal

pub loop-part-init : goal.loop-part-init
loop-part-init g c =
    let T = g.row.T.Denot in
    let log = c.args.history.now.log in
    let is : c.into_iter-part-iterator.result.rest.items ≡ c.args.parts.items = search rules in
    record {
      book = refl;
      rest = (
        subst (All (IsPart {T = T} log)) (sym is) c.requires.parts.0,
        subst (All (λ (p : PartView T). p.book ≡ c.args.history.now.book)) (sym is) c.requires.parts.1,
      );
      later = ([], append-nil log);
      so_far = (
        [],
        sym is,
        ap held_by c.new-kept.ensures.items,
        λ p of. subst (λ l. Contains l p) c.new-kept.ensures.items of,
      );
    }

pub stay-requires-clause-part : goal.stay-requires-clause-part
stay-requires-clause-part g c =
    let T = g.row.T.Denot in
    let i = c.loop-part.invariant in
    let part = c.in-Some.part in
    let rest = c.next.new.self.rest.items in
    let next = c.in-Some.ensures.steps.0 in (
      part-later c.args.history.now.log c.loop-part.history.log part i.later
          (all-next (IsPart {T = T} c.args.history.now.log) part rest c.loop-part.part-iterator.rest.items next
          i.rest.0).0,
      (all-next (λ (p : PartView T). p.book ≡ c.args.history.now.book) part rest
          c.loop-part.part-iterator.rest.items next i.rest.1).0 ∙ sym i.book,
    )

pub loop-part-preserved-in_default : goal.loop-part-preserved-in_default
loop-part-preserved-in_default g c =
    let T = g.row.T.Denot in
    let i = c.loop-part.invariant in
    let part = c.in-Some.part in
    let rest = c.next.new.self.rest.items in
    let next = c.in-Some.ensures.steps.0 in
    let done = i.so_far.0 in
    let kept = c.loop-part.kept.items in
    let log = c.loop-part.history.log in
    let new = c.stay.new.history.log in
    let later = c.stay.ensures.later in
    let left = c.in_default.ensures.left in
    record {
      book = later.0 ∙ i.book;
      rest = (
        (all-next (IsPart {T = T} c.args.history.now.log) part rest c.loop-part.part-iterator.rest.items next
            i.rest.0).1,
        (all-next (λ (p : PartView T). p.book ≡ c.args.history.now.book) part rest
            c.loop-part.part-iterator.rest.items next i.rest.1).1,
      );
      later = prefix-trans c.args.history.now.log log new i.later later.1;
      so_far = (
        done ++ part ∷ [],
        i.so_far.1 ∙ ap (λ l. done ++ l) next ∙ sym (append_assoc done (part ∷ []) rest),
        subst (λ hs. EndsGone new hs (held_by kept))
            (sym (map-append (λ (p : PartView T). held_in p) done (part ∷ [])))
            (ends-left new (held_by done) (held_by kept) (held_in part)
            (ends-later log new (held_by done) (held_by kept) later.1 i.so_far.2) left),
        λ p of. Contains-append_left done (part ∷ []) p (i.so_far.3 p of),
      );
    }

pub loop-part-preserved : goal.loop-part-preserved
loop-part-preserved g c =
    let T = g.row.T.Denot in
    let i = c.loop-part.invariant in
    let part = c.in-Some.part in
    let rest = c.next.new.self.rest.items in
    let next = c.in-Some.ensures.steps.0 in
    let done = i.so_far.0 in
    let kept = c.loop-part.kept.items in
    let log = c.loop-part.history.log in
    let new = c.stay.new.history.log in
    let later = c.stay.ensures.later in
    let items : c.push.new.self.items ≡ kept ++ part ∷ [] =
    c.in_ok-push.ensures.items ∙ ap (λ (p : PartView T). kept ++ p ∷ []) c.in-Some-stay.ensures.left in
    record {
      book = later.0 ∙ i.book;
      rest = (
        (all-next (IsPart {T = T} c.args.history.now.log) part rest c.loop-part.part-iterator.rest.items next
            i.rest.0).1,
        (all-next (λ (p : PartView T). p.book ≡ c.args.history.now.book) part rest
            c.loop-part.part-iterator.rest.items next i.rest.1).1,
      );
      later = prefix-trans c.args.history.now.log log new i.later later.1;
      so_far = (
        done ++ part ∷ [],
        i.so_far.1 ∙ ap (λ l. done ++ l) next ∙ sym (append_assoc done (part ∷ []) rest),
        subst (λ hs. EndsGone new hs (held_by c.push.new.self.items))
            (sym (map-append (λ (p : PartView T). held_in p) done (part ∷ [])))
            (subst (EndsGone new (held_by done ++ held_in part ∷ []))
            (sym (ap held_by items ∙ map-append (λ (p : PartView T). held_in p) kept (part ∷ [])))
            (ends-kept new (held_by done) (held_by kept) (held_in part)
            (ends-later log new (held_by done) (held_by kept) later.1 i.so_far.2))),
        λ p of. ⊎_elim
            (λ before. Contains-append_left done (part ∷ []) p (i.so_far.3 p before))
            (λ last. subst (Contains (done ++ part ∷ [])) (sym last) (Contains-push done part))
            (contains-more kept part p (subst (λ l. Contains l p) items of)),
      );
    }

pub returns-clause-left : goal.returns-clause-left
returns-clause-left g c =
    let i = c.loop-part.invariant.so_far in
    let over = nil_from_length c.loop-part.part-iterator.rest.items
    (omega (arith, c.in-None.ensures.steps.0, c.loop-part.part-iterator.rest.ok.0)) in
    subst (λ l. EndsGone c.loop-part.history.log (held_by l) (held_by c.loop-part.kept.items))
    (sym (i.1 ∙ ap (λ l. i.0 ++ l) over ∙ append-nil i.0)) i.2

pub returns-clause-among : goal.returns-clause-among
returns-clause-among g c p of =
    let i = c.loop-part.invariant.so_far in
    let over = nil_from_length c.loop-part.part-iterator.rest.items
    (omega (arith, c.in-None.ensures.steps.0, c.loop-part.part-iterator.rest.ok.0)) in
    subst (λ l. Contains l p) (sym (i.1 ∙ ap (λ l. i.0 ++ l) over ∙ append-nil i.0)) (i.3 p of)
