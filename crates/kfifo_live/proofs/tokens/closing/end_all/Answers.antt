-- The next pass goes behind those that were ended.
use Rattle.std.proofs.Common.{◌≡◌, ◌++◌, [], ◌∷◌, All, List, ap, arith, false, subst, sym, ◌∙◌}
use Rattle.std.proofs.lemmas.List.{append_assoc, append-nil, nil_from_length}
use Rattle.std.proofs.lemmas.List.Elements.{All-head, All-tail}
use Rattle.kfifo_live.specs.Payloads.{PayPassView}
use Rattle.kfifo_live.proofs.tokens.closing.end_all.Goals as goal

pub loop-pass-preserved : goal.loop-pass-preserved
loop-pass-preserved g c =
    let rest : List (PayPassView g.row.T.Denot) = c.next.new.self.rest.items in
    record {
      made =
          (λ i. c.in_ok-push.ensures.items i ++ rest)
          ∙ (λ i. (c.loop-pass.ended.items ++ c.into_ended.ensures i ∷ []) ++ rest)
          ∙ append_assoc c.loop-pass.ended.items (c.in-Some.pass ∷ []) rest
          ∙ ap (λ (ps : List (PayPassView g.row.T.Denot)). c.loop-pass.ended.items ++ ps)
          (sym c.in-Some.ensures.steps.0)
          ∙ c.loop-pass.invariant.made;
      kind = All-tail (λ (p : PayPassView g.row.T.Denot). p.pass.opened.bare ≡ false) c.in-Some.pass rest
          (subst (All (λ (p : PayPassView g.row.T.Denot). p.pass.opened.bare ≡ false)) c.in-Some.ensures.steps.0
          c.loop-pass.invariant.kind);
    }

pub into_ended-requires : goal.into_ended-requires
into_ended-requires g c = All-head (λ (p : PayPassView g.row.T.Denot). p.pass.opened.bare ≡ false) c.in-Some.pass
    c.next.new.self.rest.items
    (subst (All (λ (p : PayPassView g.row.T.Denot). p.pass.opened.bare ≡ false)) c.in-Some.ensures.steps.0
    c.loop-pass.invariant.kind)

pub returns : goal.returns
returns g c =
    let none : c.loop-pass.pass-iterator.rest.items ≡ [] = nil_from_length c.loop-pass.pass-iterator.rest.items
    (omega (arith, c.in-None.ensures.steps.0, c.loop-pass.pass-iterator.rest.ok.0)) in
    sym (append-nil c.loop-pass.ended.items)
    ∙ ap (λ (ps : List (PayPassView g.row.T.Denot)). c.loop-pass.ended.items ++ ps) (sym none)
    ∙ c.loop-pass.invariant.made
