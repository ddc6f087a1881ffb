use Rattle.std.proofs.Common.{rules}
use Rattle.kfifo_import.specs.Fields.{IsDigits}
use Rattle.kfifo_import.proofs.Texts.{is_text, parsed}
use Rattle.kfifo_import.proofs.table.whole.Goals as goal

pub returns-in_default : goal.returns-in_default
returns-in_default c =
    let digits : IsDigits c.args.text.now = search rules in
    absurd (c.in_default.ensures.cases.0 (is_text c.args.text.now digits))

pub returns : goal.returns
returns c =
    rw c.ok.ensures.value (parsed c.args.text.now c.parse.result (rw c.in-Ok.ensures.cases.0 at c.parse.ensures.value.0)
    (search rules))
