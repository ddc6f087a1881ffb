use Rattle.std.proofs.Common.{◌≡◌, ◌≤◌, ◌<◌, ◌+◌, ◌∷◌, [], drop, get_or, length, map, sym, ap, ◌∙◌, arith}
use Rattle.std.proofs.lemmas.List.{get_or_read_under, length-map}
use Rattle.std.proofs.Math.ListN.{get_or-map as get_or_map}
use Rattle.kfifo_c.specs.CellQueues.{all_cells}
use Rattle.kfifo_c.proofs.CellLeft.{next_cell, next_generation, no_more}
use Rattle.kfifo_c.proofs.cell_queue.left_seat.LeftSeat.take_next.Goals as goal

pub loop-self-init : goal.loop-self-init
loop-self-init c = record { within = c.self.invariant; same = c.self.view_is }

pub invariant_of-self : goal.invariant_of-self
invariant_of-self c = c.loop-self.invariant.within

pub returns-then-self-cells : goal.returns-then-self-cells
returns-then-self-cells c =
    let gs = c.loop-self.self-inside.left.items in let g = c.loop-self.self-inside.generation in
    let i = c.loop-self.self-inside.cell in
    let below : g < length gs = omega arith in
    let cells : map (λ at. at.index) c.cells-cells.result.now ≡ get_or gs g [] =
    c.cells-cells.ensures ∙ get_or_read_under gs g c.len.result c.index.result.now [] c.index.ensures
    c.loop-self-test.true (omega arith) in
    let many = ap length cells in let all = length-map c.cells-cells.result.now (λ at. at.index) in
    let within : i < length (get_or gs g []) = omega (arith, c.if-self-cells.true, many, all) in
    sym c.loop-self.invariant.same ∙ next_cell gs g i 0 below within
    ∙ ap (λ x. x ∷ drop (i + 1) (all_cells (drop g gs))) (ap (λ l. get_or l i 0) (sym cells)
    ∙ get_or_map (λ at. at.index) c.cells-cells.result.now i _)

pub loop-self-smaller : goal.loop-self-smaller
loop-self-smaller c = omega arith

pub loop-self-preserved : goal.loop-self-preserved
loop-self-preserved c =
    let gs = c.loop-self.self-inside.left.items in let g = c.loop-self.self-inside.generation in
    let i = c.loop-self.self-inside.cell in
    let below : g < length gs = omega arith in
    let cells : map (λ at. at.index) c.cells-cells.result.now ≡ get_or gs g [] =
    c.cells-cells.ensures ∙ get_or_read_under gs g c.len.result c.index.result.now [] c.index.ensures
    c.loop-self-test.true (omega arith) in
    let many = ap length cells in let all = length-map c.cells-cells.result.now (λ at. at.index) in
    let over : length (get_or gs g []) ≤ i = omega (arith, c.if-self-cells.false, many, all) in record {
      within = omega arith;
      same = sym (next_generation gs g i below c.loop-self.invariant.within over) ∙ c.loop-self.invariant.same;
    }

pub returns : goal.returns
returns c =
    let gs = c.loop-self.self-inside.left.items in let g = c.loop-self.self-inside.generation in
    let none = no_more gs g c.loop-self.self-inside.cell (omega arith) in
    (sym c.loop-self.invariant.same ∙ none, none)
