use Rattle.std.proofs.Common.{sym, ap, ◌∙◌}
use Rattle.kfifo_c.specs.Behind.{left_in}
use Rattle.kfifo_c.proofs.ByKind.{left_found, no_left}
use Rattle.kfifo_c.proofs.cell_queue.left.LeftHandle.take.Goals as goal

pub into_seat-requires : goal.into_seat-requires
into_seat-requires c = left_found _ (λ e. c.if-holds-eq0.false (c.replace-held.result.holds_are ∙ e))

pub returns-then-holds-eq0-clause-value : goal.returns-then-holds-eq0-clause-value
returns-then-holds-eq0-clause-value c = ap (λ h. left_in h.held.value) (sym c.replace-held.ensures.value)
    ∙ no_left _ (sym c.replace-held.result.holds_are ∙ c.if-holds-eq0.true)
