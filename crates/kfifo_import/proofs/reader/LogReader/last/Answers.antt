use Rattle.std.proofs.Common.{[], inl, inr, subst, sym}
use Rattle.kfifo_import.specs.Readers.{HasReadAll}
use Rattle.kfifo_import.proofs.Readers.{handed, read_all, then_both, then_err}
use Rattle.kfifo_import.proofs.reader.LogReader.last.Goals as goal

pub returns-in_err-close_ended-clause-err : goal.returns-in_err-close_ended-clause-err
returns-in_err-close_ended-clause-err c =
    handed c.from_residual.result c.in_err-close_ended.field-0.0 _ c.from_residual.ensures.1
    (λ text is. c.in_err-close_ended.ensures.err.1 text [] is)

pub returns-clause-ok : goal.returns-clause-ok
returns-clause-ok c =
    then_both c.close_ended-2.result _ _ _ c.close_ended-2.ensures.ok c.close_ended-2.ensures.ended
    (λ ok ended text is.
    let first = c.in_ok-close_ended.ensures.ok text [] is in
    let there = c.in_ok-end.ensures text first.rest first.row in
    elim ended [
      | inl same ↦ subst (λ r. HasReadAll r text) (sym same.0)
          (record { rest = first.rest; holds = first.holds; few = first.few; ended = there.none same.1 })
      | inr over ↦ read_all c.close_ended-2.new.self text over.1
          (ok text [] (record { rest = first.rest; row = there.row over.0; holds = first.holds; few = first.few }))
    ])

pub returns-clause-err : goal.returns-clause-err
returns-clause-err c =
    then_err c.close_ended-2.result _ _ c.close_ended-2.ensures.err
    (λ refusal says text is.
    let first = c.in_ok-close_ended.ensures.ok text [] is in
    let there = c.in_ok-end.ensures text first.rest first.row in
    rw c.in_ok-close_ended.ensures.same.0 at
    (says.1 text [] (record { rest = first.rest; row = there.row says.0; holds = first.holds; few = first.few })))
