use Rattle.std.proofs.Common.{Some, option_map, rules}
use Rattle.csv.specs.Records.{field_at, fields_of}
use Rattle.kfifo_import.specs.Fields.{GivesText, WritesSmall}
use Rattle.kfifo_import.proofs.Texts.{gives_nothing, no_end}
use Rattle.kfifo_import.proofs.table.call_of.Goals as goal

pub returns-in_err-thread : goal.returns-in_err-thread
returns-in_err-thread c =
    let fields = fields_of c.args.row.now in
    let text : GivesText (field_at fields c.args.columns.now.thread) (Some c.in_ok-field.field-0.now) = search rules in
    rw c.from_residual-in_err-thread.ensures (λ call is.
    gives_nothing WritesSmall (field_at fields c.args.columns.now.thread) c.in_ok-field.field-0.now text
    c.in_err-thread.ensures
    (Some call.thread) is.thread)

pub returns-in_err-end : goal.returns-in_err-end
returns-in_err-end c =
    let fields = fields_of c.args.row.now in
    let columns = c.args.columns.now in
    rw c.from_residual-in_err-end.ensures
    (no_end columns fields c.args.item c.in_ok-last.last c.in_ok-field-3.field-0.now (search rules) (search rules)
    c.in_ok-op.op
    (option_map (λ t. t.now) c.field-4.result)
    (search rules) (search rules) (search rules) (search rules))
