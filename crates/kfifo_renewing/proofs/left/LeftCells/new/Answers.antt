-- The cell of one token more.
use Rattle.std.proofs.Common.{◌≡◌, ◌-◌, [], ◌∷◌, ◌++◌, append_assoc, arith, map, sym, ap, ◌∙◌}
use Rattle.std.proofs.lemmas.List.{append-nil, map-append, nil_from_length}
use Rattle.kfifo_renewing.specs.Memory.{cells_in}
use Rattle.kfifo_renewing.specs.declared.memory.CellAt.{CellAt}
use Rattle.kfifo_renewing.proofs.left.LeftCells.new.Goals as goal

pub loop-token-preserved : goal.loop-token-preserved
loop-token-preserved c =
    let i = c.loop-token.invariant.so_far in
    let done = i.0 in
    let here = c.in-Some.token in
    let next = c.in-Some.ensures.steps.0 in
    let index = λ (at : CellAt). at.index in
    let cell : c.at.result.index ≡ here - 1 = c.at.ensures ∙ c.saturating_sub.ensures in
    record {
      so_far = (
        done ++ here ∷ [],
        i.1 ∙ ap (λ l. done ++ l) next ∙ sym (append_assoc done (here ∷ []) c.next.new.self.rest.items),
        ap (map index) c.in_ok-push.ensures.items ∙ map-append index c.loop-token.cells.items (c.at.result ∷ [])
            ∙ ap (λ l. l ++ c.at.result.index ∷ []) i.2 ∙ ap (λ n. cells_in done ++ n ∷ []) cell
            ∙ sym (map-append (λ n. n - 1) done (here ∷ [])),
      );
    }

pub returns : goal.returns
returns c =
    let i = c.loop-token.invariant.so_far in
    let over = nil_from_length c.loop-token.token-iterator.rest.items
    (omega (arith, c.in-None.ensures.steps.0, c.loop-token.token-iterator.rest.ok.0)) in
    i.2 ∙ ap cells_in (sym (i.1 ∙ ap (λ l. i.0 ++ l) over ∙ append-nil i.0))
