use Rattle.std.proofs.Common.{◌≡◌, All, [], ◌∷◌, ◌++◌, sym, ap, ◌∙◌, subst}
use Rattle.std.proofs.lemmas.List.{map-append}
use Rattle.std.proofs.lemmas.List.Elements.{All-push}
use Rattle.kfifo_renewing.specs.Joining.{IsPart, PartView, held_by, held_in}
use Rattle.kfifo_renewing.specs.Renewing.{Generations, IsOpenedAs, all_of, opening_in}
use Rattle.kfifo_renewing.proofs.handle.RenewingHandle.into_joined.Goals as goal

pub returns-clause-joined : goal.returns-clause-joined
returns-clause-joined g c =
    let T = g.row.T.Denot in
    ap held_by (c.in_ok-push.ensures.items ∙ ap (λ l. l ++ c.self.inside.newest ∷ []) c.into_parts-parts.ensures)
    ∙ map-append (λ (p : PartView T). held_in p) c.self.inside.older.items (c.self.inside.newest ∷ [])
    ∙ ap (λ n. held_by c.self.inside.older.items ++ record {
      handle = c.self.inside.newest.handle;
      number = n;
    } ∷ []) c.self.invariant.0.number
    ∙ ap (λ (v : Generations T). all_of v) c.self.view_is

pub returns-clause-of : goal.returns-clause-of
returns-clause-of g c =
    let P : PartView g.row.T.Denot
    → Type 0 = λ (p : PartView g.row.T.Denot). IsOpenedAs (opening_in c.self.inside.shared.value) p.handle in
    subst (All P)
    (sym (c.in_ok-push.ensures.items ∙ ap (λ l. l ++ c.self.inside.newest ∷ []) c.into_parts-parts.ensures))
    (All-push P c.self.inside.older.items c.self.inside.newest
    (λ k d inside. (c.self.invariant.0.older_opened k d inside).0) c.self.invariant.0.newest_opened.0)

pub returns-clause-history : goal.returns-clause-history
returns-clause-history g c =
    let log = c.self.inside.history.log in (
      ap (λ (v : Generations g.row.T.Denot). v.book) c.self.view_is,
      ap (λ (v : Generations g.row.T.Denot). v.seen) c.self.view_is,
      subst (All (IsPart log))
          (sym (c.in_ok-push.ensures.items ∙ ap (λ l. l ++ c.self.inside.newest ∷ []) c.into_parts-parts.ensures))
          (All-push (IsPart log) c.self.inside.older.items c.self.inside.newest c.self.invariant.0.older_parts
          c.self.invariant.0.newest_part),
    )

pub returns-clause-books : goal.returns-clause-books
returns-clause-books g c =
    let P : PartView g.row.T.Denot → Type 0 = λ (p : PartView g.row.T.Denot). p.book ≡ c.self.inside.history.book in (
      c.self.invariant.0.same_book,
      subst (All P)
          (sym (c.in_ok-push.ensures.items ∙ ap (λ l. l ++ c.self.inside.newest ∷ []) c.into_parts-parts.ensures))
          (All-push P c.self.inside.older.items c.self.inside.newest
          (λ k d inside. (c.self.invariant.0.older_opened k d inside).1) c.self.invariant.0.newest_opened.1),
    )
