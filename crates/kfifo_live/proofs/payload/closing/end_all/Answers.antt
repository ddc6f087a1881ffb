-- The next pass goes behind those that were ended.
use Rattle.std.proofs.Common.{◌≡◌, ◌++◌, [], ◌∷◌, List, ap, arith, sym, ◌∙◌}
use Rattle.std.proofs.lemmas.List.{append_assoc, append-nil, nil_from_length}
use Rattle.kfifo_live.specs.Payloads.{PayPassView}
use Rattle.kfifo_live.proofs.payload.closing.end_all.Goals as goal

pub loop-pass-preserved : goal.loop-pass-preserved
loop-pass-preserved g c =
    let rest : List (PayPassView g.row.T.Denot) = c.next.new.self.rest.items in
    record {
      made =
          (λ i. c.in_ok-push.ensures.items i ++ rest)
          ∙ (λ i. (c.loop-pass.ended.items ++ c.into_ended.ensures i ∷ []) ++ rest)
          ∙ append_assoc c.loop-pass.ended.items (c.in-Some.pass ∷ []) rest
          ∙ ap (λ (ps : List (PayPassView g.row.T.Denot)). c.loop-pass.ended.items ++ ps)
          (sym c.in-Some.ensures.steps.0)
          ∙ c.loop-pass.invariant.made;
    }

pub returns : goal.returns
returns g c =
    let none : c.loop-pass.pass-iterator.rest.items ≡ [] = nil_from_length c.loop-pass.pass-iterator.rest.items
    (omega (arith, c.in-None.ensures.steps.0, c.loop-pass.pass-iterator.rest.ok.0)) in
    sym (append-nil c.loop-pass.ended.items)
    ∙ ap (λ (ps : List (PayPassView g.row.T.Denot)). c.loop-pass.ended.items ++ ps) (sym none)
    ∙ c.loop-pass.invariant.made
