-- The sum of start and stride is less than twice k, so that one subtraction brings it below k.
use Rattle.std.proofs.Common.{◌∙◌, ap, arith}
use Rattle.kfifo_live.specs.Handles.{moved}
use Rattle.kfifo_live.proofs.Striding.{steps_on}
use Rattle.kfifo_live.proofs.round_robin.RoundRobin.next.Goals as goal

pub returns-clause-moves : goal.returns-clause-moves
returns-clause-moves c =
    let r = c.self.inside in
    let is = c.unwrap_or-self-inside.ensures
    ∙ steps_on r.k r.stride r.start c.checked_sub.result (omega arith) (omega arith) c.checked_sub.ensures in
    ap (λ (s : _). record { k = r.k; stride = r.stride; start = s }) is ∙ ap moved c.self.view_is
