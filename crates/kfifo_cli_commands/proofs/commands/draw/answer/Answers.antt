use Rattle.std.proofs.Common.{◌≢◌, rules}
use Rattle.kfifo_cli_texts.specs.declared.fault.Fault.TheVariants.{Output}
use Rattle.kfifo_cli_commands.specs.Inputs.{read_from}
use Rattle.kfifo_cli_commands.specs.Pictures.{IsDrawRefusal}
use Rattle.kfifo_cli_commands.proofs.Drawing.{calls_refused, cut_refused, order_refused, picture_refused, refusal_told}
use Rattle.kfifo_cli_commands.proofs.commands.draw.answer.Goals as goal

pub returns-in_err-cut-clause-err : goal.returns-in_err-cut-clause-err
returns-in_err-cut-clause-err g c =
    let at = g.S.Source.failed c.args.input.now in
    let refusal : IsDrawRefusal c.args.options (read_from c.args.options.file (g.S.Source.remaining c.args.input.now))
    at at c.in_err-cut.field-0.0 =
    cut_refused (read_from c.args.options.file (g.S.Source.remaining c.args.input.now)) at at c.args.options
    c.in_err-cut.field-0.0 c.in_err-cut.ensures in
    search (rules, refusal)

pub returns-in_err-cut-clause-silent : goal.returns-in_err-cut-clause-silent
returns-in_err-cut-clause-silent g c =
    let at = g.S.Source.failed c.args.input.now in
    let refusal : IsDrawRefusal c.args.options (read_from c.args.options.file (g.S.Source.remaining c.args.input.now))
    at at c.in_err-cut.field-0.0 =
    cut_refused (read_from c.args.options.file (g.S.Source.remaining c.args.input.now)) at at c.args.options
    c.in_err-cut.field-0.0 c.in_err-cut.ensures in
    let told : c.in_err-cut.field-0.0 ≢ Output =
    refusal_told (read_from c.args.options.file (g.S.Source.remaining c.args.input.now)) at at c.args.options
    c.in_err-cut.field-0.0 refusal in
    search (rules, told)

pub returns-in_err-order-clause-err : goal.returns-in_err-order-clause-err
returns-in_err-order-clause-err g c =
    let at = g.S.Source.failed c.args.input.now in
    let refusal : IsDrawRefusal c.args.options (read_from c.args.options.file (g.S.Source.remaining c.args.input.now))
    at at c.in_err-order.field-0.0 =
    order_refused (read_from c.args.options.file (g.S.Source.remaining c.args.input.now)) at at c.args.options
    c.in_err-order.field-0.0 c.in_err-order.ensures.err in
    search (rules, refusal)

pub returns-in_err-calls-clause-err : goal.returns-in_err-calls-clause-err
returns-in_err-calls-clause-err g c =
    let input = read_from c.args.options.file (g.S.Source.remaining c.args.input.now) in
    let before = g.S.Source.failed c.args.input.now in
    let after = g.S.Source.failed c.read_calls_given.new.input in
    let fault = c.in_err-calls.field-0.0.fault in
    let refusal : IsDrawRefusal c.args.options input before after fault =
    calls_refused input before after c.args.options c.in_ok-cut.cut c.in_ok-cut.ensures fault
    c.in_err-calls.ensures.err in
    search (rules, refusal)

pub returns-in_err-calls-clause-silent : goal.returns-in_err-calls-clause-silent
returns-in_err-calls-clause-silent g c =
    let input = read_from c.args.options.file (g.S.Source.remaining c.args.input.now) in
    let before = g.S.Source.failed c.args.input.now in
    let after = g.S.Source.failed c.read_calls_given.new.input in
    let fault = c.in_err-calls.field-0.0.fault in
    let told : fault ≢ Output = refusal_told input before after c.args.options fault
    (calls_refused input before after c.args.options c.in_ok-cut.cut c.in_ok-cut.ensures fault
    c.in_err-calls.ensures.err) in
    search (rules, told)

pub returns-in_err-text-clause-err : goal.returns-in_err-text-clause-err
returns-in_err-text-clause-err g c =
    let input = read_from c.args.options.file (g.S.Source.remaining c.args.input.now) in
    let before = g.S.Source.failed c.args.input.now in
    let after = g.S.Source.failed c.read_calls_given.new.input in
    let fault = c.in_err-text.field-0.0 in
    let read = c.in_ok-calls.ensures.ok in
    let refusal : IsDrawRefusal c.args.options input before after fault =
    picture_refused input before after c.args.options c.in_ok-cut.cut c.in_ok-cut.ensures read.0 read.1 fault
    (c.in_err-text.ensures read.0 read.2) in
    search (rules, refusal)

pub returns-in_err-text-clause-silent : goal.returns-in_err-text-clause-silent
returns-in_err-text-clause-silent g c =
    let input = read_from c.args.options.file (g.S.Source.remaining c.args.input.now) in
    let at = g.S.Source.failed c.args.input.now in
    let fault = c.in_err-text.field-0.0 in
    let read = c.in_ok-calls.ensures.ok in
    let told : fault ≢ Output = refusal_told input at at c.args.options fault
    (picture_refused input at at c.args.options c.in_ok-cut.cut c.in_ok-cut.ensures read.0 read.1 fault
    (c.in_err-text.ensures read.0 read.2)) in
    search (rules, told)

pub returns-clause-ok : goal.returns-clause-ok
returns-clause-ok g c =
    let read = c.in_ok-calls.ensures.ok in
    record {
      cut = c.in_ok-cut.cut;
      asked = c.in_ok-cut.ensures;
      order = _;
      order_given = c.in_ok-order.ensures.ok;
      bytes = read.0;
      read = read.1;
      pictured = c.in_ok-text.ensures read.0 read.2;
    }
