-- No cell is reserved from that index on.
use Rattle.std.proofs.Common.{All, drop, rules, subst, sym}
use Rattle.kfifo_renewing.specs.Joining.{HasNoCell}
use Rattle.kfifo_renewing.proofs.NoCells.{all-from-behind, reserved-none}
use Rattle.kfifo_renewing.proofs.older.+first_reserved.Goals as goal

pub returns-then-with_cells-eq0 : goal.returns-then-with_cells-eq0
returns-then-with_cells-eq0 t c =
    sym (reserved-none c.args.parts.now (subst (λ n. All HasNoCell (drop n c.args.parts.now)) c.if-with_cells-eq0.true
    c.requires))

pub first_reserved-requires : goal.first_reserved-requires
first_reserved-requires t c =
    let rest = all-from-behind HasNoCell c.in_ok-first.first.now c.in_ok-first.rest.now c.args.parts.now
    c.args.with_cells
    c.in_ok-first.ensures.cases.0 c.if-with_cells-eq0.false c.requires in
    search (rules, rest)
