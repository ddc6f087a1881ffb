-- The parts of one handle more.
use Rattle.std.proofs.Common.{◌≡◌, ◌++◌, [], ◌∷◌, All, append_assoc, arith, ap, refl, sym, ◌∙◌, subst}
use Rattle.std.proofs.lemmas.List.{append-nil, nil_from_length}
use Rattle.std.proofs.lemmas.List.Elements.{All-append, All-contains, All-nil, All-push}
use Rattle.std.proofs.lemmas.List.Elements.{Contains-append_left, Contains-push}
use mathlib.Core.List.{IsPrefix}
use Rattle.kfifo_live.specs.declared.view.Opening.{Opening}
use Rattle.kfifo_renewing.specs.Joining.{HaveParts, IsPart, PartView, held_by}
use Rattle.kfifo_renewing.specs.Renewing.{EndsGone, Generations, HaveSeen, IsOpenedAs}
use Rattle.kfifo_renewing.proofs.Endings.{have-later, have-more, have-none, seen-later}
use Rattle.kfifo_renewing.proofs.Histories.{prefix-trans}
use Rattle.kfifo_renewing.proofs.Joining.{parts-later}
use Rattle.kfifo_renewing.proofs.Parts.{all-from-contains, all-next}
use Rattle.kfifo_renewing.proofs.closing.take_apart.Goals as goal

pub loop-handle-init : goal.loop-handle-init
loop-handle-init g c =
    let T = g.row.T.Denot in
    let log = c.args.history.now.log in
    let is = c.into_iter-handle-iterator.ensures.into_iter_gives.0 in
    let none : c.new-theirs.result.items ≡ [] = c.new-theirs.ensures.items in
    record {
      book = refl;
      rest = subst (All (λ (h : Generations T). h.book ≡ c.args.history.now.book)) (sym is) c.requires.of;
      later = ([], append-nil log);
      parts = subst (All (IsPart {T = T} log)) (sym none) (All-nil (IsPart {T = T} log));
      so_far = (
        [],
        sym is,
        have-none log c.new-theirs.result.items,
        All-nil (λ (h : Generations T). IsPrefix h.seen log),
        λ o all. subst (All (λ (p : PartView T). IsOpenedAs o p.handle)) (sym none)
            (All-nil (λ (p : PartView T). IsOpenedAs o p.handle)),
      );
    }

pub leave_gone-requires-clause-parts : goal.leave_gone-requires-clause-parts
leave_gone-requires-clause-parts g c =
    let T = g.row.T.Denot in
    let i = c.loop-handle.invariant in
    let apart = c.in_ok-seen.ensures in
    let parts = c.in_ok-seen.field-0.parts.items in
    let handle = c.in-Some.handle in
    let seen = c.in_ok-seen.field-0.history.log in
    let own = (all-next (λ (h : Generations T). h.book ≡ c.args.history.now.book) handle c.next.new.self.rest.items
    c.loop-handle.handle-iterator.rest.items c.in-Some.ensures.steps.0 i.rest).0 in (
      parts-later seen c.learn.new.self.log parts c.learn.ensures.3 apart.history.2,
      subst (λ b. All (λ (p : PartView T). p.book ≡ b) parts)
          (apart.history.0 ∙ own ∙ sym i.book ∙ sym c.learn.ensures.0) apart.books.1,
    )

pub loop-handle-preserved : goal.loop-handle-preserved
loop-handle-preserved g c =
    let T = g.row.T.Denot in
    let i = c.loop-handle.invariant in
    let done = i.so_far.0 in
    let handle = c.in-Some.handle in
    let next = c.in-Some.ensures.steps.0 in
    let apart = c.in_ok-seen.ensures in
    let before = c.loop-handle.theirs.items in
    let parts = c.in_ok-seen.field-0.parts.items in
    let seen = c.in_ok-seen.field-0.history.log in
    let log = c.loop-handle.history.log in
    let mid = c.learn.new.self.log in
    let new = c.leave_gone.new.history.log in
    let gone = c.leave_gone.ensures.later.1 in
    let later = prefix-trans log mid new c.learn.ensures.2 gone in
    let kept = c.in_ok-kept.kept.items in
    let among = c.in_ok-kept.ensures.among in
    let items = c.in_ok-append.ensures.items in
    record {
      book = c.leave_gone.ensures.later.0 ∙ c.learn.ensures.0 ∙ i.book;
      rest = (all-next (λ (h : Generations T). h.book ≡ c.args.history.now.book) handle c.next.new.self.rest.items
          c.loop-handle.handle-iterator.rest.items next i.rest).1;
      later = prefix-trans c.args.history.now.log log new i.later later;
      parts = subst (All (IsPart new)) (sym items)
          (All-append (IsPart new) before kept (parts-later log new before later i.parts)
          (all-from-contains (IsPart new) kept
          (λ p of. All-contains (IsPart new) parts p
          (parts-later seen new parts (prefix-trans seen mid new c.learn.ensures.3 gone) apart.history.2) (among p
          of))));
      so_far = (
        done ++ handle ∷ [],
        i.so_far.1 ∙ ap (λ l. done ++ l) next ∙ sym (append_assoc done (handle ∷ []) c.next.new.self.rest.items),
        subst (HaveParts new (done ++ handle ∷ [])) (sym items)
            (have-more new done handle before kept (have-later log new done before later i.so_far.2)
            (subst (λ hs. EndsGone new hs (held_by kept)) apart.joined c.in_ok-kept.ensures.left)),
        All-push (λ (h : Generations T). IsPrefix h.seen new) done handle
            (seen-later done log new later i.so_far.3)
            (subst (λ l. IsPrefix l new) apart.history.1 (prefix-trans seen mid new c.learn.ensures.3 gone)),
        λ o all.
            let P : Generations T → Type 0 = λ h. h.opened ≡ o in
            subst (All (λ (p : PartView T). IsOpenedAs o p.handle)) (sym items)
            (All-append (λ (p : PartView T). IsOpenedAs o p.handle) before kept
            (i.so_far.4 o (all-from-contains P done
            (λ h of. All-contains P (done ++ handle ∷ []) h all (Contains-append_left done (handle ∷ []) h of))))
            (all-from-contains (λ (p : PartView T). IsOpenedAs o p.handle) kept
            (λ p of. All-contains (λ (q : PartView T). IsOpenedAs o q.handle) parts p
            (subst (λ (x : Opening). All (λ (q : PartView T). IsOpenedAs x q.handle) parts)
            (apart.shared.0 ∙ All-contains P (done ++ handle ∷ []) handle all (Contains-push done handle)) apart.of)
            (among p of)))),
      );
    }

pub returns-clause-opened : goal.returns-clause-opened
returns-clause-opened g c o all =
    let i = c.loop-handle.invariant.so_far in
    let over = nil_from_length c.loop-handle.handle-iterator.rest.items
    (omega (arith, c.in-None.ensures.steps.0, c.loop-handle.handle-iterator.rest.ok.0)) in
    i.4 o (subst (All (λ (h : Generations g.row.T.Denot). h.opened ≡ o))
    (i.1 ∙ ap (λ l. i.0 ++ l) over ∙ append-nil i.0) all)

pub returns-clause-all : goal.returns-clause-all
returns-clause-all g c =
    let i = c.loop-handle.invariant.so_far in
    let over = nil_from_length c.loop-handle.handle-iterator.rest.items
    (omega (arith, c.in-None.ensures.steps.0, c.loop-handle.handle-iterator.rest.ok.0)) in
    subst (λ l. HaveParts c.loop-handle.history.log l c.loop-handle.theirs.items) (sym (i.1 ∙ ap (λ l. i.0 ++ l)
    over ∙ append-nil i.0)) i.2

pub returns-clause-seen : goal.returns-clause-seen
returns-clause-seen g c =
    let i = c.loop-handle.invariant.so_far in
    let over = nil_from_length c.loop-handle.handle-iterator.rest.items
    (omega (arith, c.in-None.ensures.steps.0, c.loop-handle.handle-iterator.rest.ok.0)) in
    subst (λ l. HaveSeen l c.loop-handle.history.log) (sym (i.1 ∙ ap (λ l. i.0 ++ l) over ∙ append-nil i.0)) i.3
