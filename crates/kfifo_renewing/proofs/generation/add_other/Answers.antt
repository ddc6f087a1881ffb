-- One handle more is among those of the others.
use Rattle.std.proofs.Common.{[], ◌∷◌, ◌++◌, All, inl, inr, sym, ⊎_elim, subst}
use Rattle.std.specs.List.{Contains}
use Rattle.std.proofs.lemmas.List.Elements.{All-push, Contains-append_left, Contains-push}
use Rattle.kfifo_live.specs.Pass.{IsPassOf}
use Rattle.kfifo_pool.specs.Pooled.{Pooled}
use Rattle.kfifo_renewing.proofs.generation.add_other.Goals as goal

pub returns-clause-of : goal.returns-clause-of
returns-clause-of g c all =
    let T = g.row.T.Denot in
    let P : Pooled T → Type 0 = λ h. IsPassOf c.args.place h.held.pass.pass in
    subst (All P) (sym c.push_reserved.ensures.items)
    (All-push P c.args.others.now.items c.in_ok-handle.handle all c.in_ok-handle.ensures.of.0)

pub returns-clause-moved : goal.returns-clause-moved
returns-clause-moved g c h of =
    let before = c.args.others.now.items in
    let new = c.in_ok-handle.handle in
    ⊎_elim
    (λ other. inl (subst (λ l. Contains l h) (sym c.push_reserved.ensures.items)
    (Contains-append_left before (new ∷ []) h other)))
    (λ their. ⊎_elim inr
    (λ is. inl (subst (λ l. Contains l h) (sym c.push_reserved.ensures.items)
    (subst (Contains (before ++ new ∷ [])) is (Contains-push before new))))
    (c.in_ok-handle.ensures.others h their))
    of
