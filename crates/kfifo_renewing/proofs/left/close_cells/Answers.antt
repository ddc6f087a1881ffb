-- The generations of the last handle are closed, by the parts of all handles.
use Rattle.std.proofs.Common.{ap, sym, subst}
use Rattle.kfifo_renewing.specs.History.{EachLeftTogether}
use Rattle.kfifo_renewing.specs.Joining.{HaveParts, held_by}
use Rattle.kfifo_renewing.specs.Renewing.{Gathers}
use Rattle.kfifo_renewing.proofs.left.close_cells.Goals as goal

pub returns-clause-closes : goal.returns-clause-closes
returns-clause-closes c =
    let (last, others, is, gathers, have) = c.in_ok-gathered.ensures.all in
    let log = sym (ap (λ h. h.log) c.again-history.ensures) in
    let each = c.in_ok-left.ensures c.again-history.result.log others
    (subst (λ l. HaveParts l others c.in_ok-gathered.gathered.theirs.parts.items) log have) in (
      last,
      others,
      is,
      _,
      subst (Gathers others last (held_by c.in_ok-gathered.gathered.all.items))
          log gathers,
      each.0,
      each.1,
      subst EachLeftTogether log c.in_ok-gathered.ensures.together,
    )
