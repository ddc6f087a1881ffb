-- Whether something was done is what the call of the handle says.
use Rattle.std.proofs.Common.{subst, sym}
use Rattle.kfifo_renewing.specs.declared.cells.CellCall.{CellCall}
use Rattle.kfifo_renewing.specs.Cells.{CallsCell}
use Rattle.kfifo_renewing.proofs.CellCalls.{cancelled, released}
use Rattle.kfifo_renewing.proofs.cells.call_cell.Goals as goal

pub returns-in-Cancel-clause-calls : goal.returns-in-Cancel-clause-calls
returns-in-Cancel-clause-calls c =
    subst (λ (call : CellCall). CallsCell {T = Unit {0}} call c.done_if.result c.args.handle.now c.cancel_cell.new.self)
    (sym c.in-Cancel.is)
    (cancelled c.cancel_cell.result c.done_if.result c.args.handle.now c.cancel_cell.new.self c.done_if.ensures
    c.cancel_cell.ensures.did)

pub returns-in-Release-clause-calls : goal.returns-in-Release-clause-calls
returns-in-Release-clause-calls c =
    subst
    (λ (call : CellCall). CallsCell {T = Unit {0}} call c.done_if-in-Release.result c.args.handle.now
    c.release_cell.new.self)
    (sym c.in-Release.is)
    (released c.release_cell.result c.done_if-in-Release.result c.args.handle.now c.release_cell.new.self
    c.done_if-in-Release.ensures c.release_cell.ensures.did)
