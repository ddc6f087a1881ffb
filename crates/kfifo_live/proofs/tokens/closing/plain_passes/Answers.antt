-- The next pass goes behind those that were made.
use Rattle.std.proofs.Common.{◌≡◌, ◌++◌, [], ◌∷◌, List, map, ap, arith, sym, ◌∙◌}
use Rattle.std.proofs.lemmas.List.{append_assoc, append-nil, nil_from_length}
use Rattle.kfifo_live.specs.Pass.{PassView}
use Rattle.kfifo_live.specs.Payloads.{PayPassView}
use Rattle.kfifo_live.proofs.tokens.closing.plain_passes.Goals as goal

pub loop-pass-preserved : goal.loop-pass-preserved
loop-pass-preserved c =
    let rest : List PassView = map (λ (p : PayPassView (Unit {0})). p.pass) c.next.new.self.rest.items in
    record {
      made =
          (λ i. c.in_ok-push.ensures.items i ++ rest)
          ∙ (λ i. (c.loop-pass.plain.items ++ c.into_plain.ensures i ∷ []) ++ rest)
          ∙ append_assoc c.loop-pass.plain.items (c.in-Some.pass.pass ∷ []) rest
          ∙ ap (λ (ps : List (PayPassView (Unit {0}))). c.loop-pass.plain.items ++ map (λ p. p.pass) ps)
          (sym c.in-Some.ensures.steps.0)
          ∙ c.loop-pass.invariant.made;
    }

pub returns : goal.returns
returns c =
    let none : c.loop-pass.pass-iterator.rest.items ≡ [] = nil_from_length c.loop-pass.pass-iterator.rest.items
    (omega (arith, c.in-None.ensures.steps.0, c.loop-pass.pass-iterator.rest.ok.0)) in
    sym (append-nil c.loop-pass.plain.items)
    ∙ ap (λ (ps : List (PayPassView (Unit {0}))). c.loop-pass.plain.items ++ map (λ p. p.pass) ps) (sym none)
    ∙ c.loop-pass.invariant.made
