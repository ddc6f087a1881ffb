use Rattle.std.proofs.Common.{rules}
use Rattle.kfifo_cli_commands.specs.Runs.{IsRunRefusal}
use Rattle.kfifo_model.proofs.Outcomes.{ok_to}
use Rattle.kfifo_cli_commands.proofs.Outcomes.{word_refused}
use Rattle.kfifo_cli_texts.proofs.Scripts.{all_called}
use Rattle.kfifo_cli_commands.proofs.commands.run.answer.Goals as goal

pub report_of-requires : goal.report_of-requires
report_of-requires c = rw (c.as_slice.ensures.value, ← c.k.ensures)
    (all_called c.k.result c.args.options.turns _ _ c.args.options.some_turns c.in_ok-calls.ensures.calls)

pub returns-in_err-calls-clause-err : goal.returns-in_err-calls-clause-err
returns-in_err-calls-clause-err c =
    let refusal : IsRunRefusal c.args.options c.in_err-calls.field-0.0 =
    word_refused c.args.options c.in_ok-shape.shape c.k.result c.in_err-calls.field-0.0 c.in_ok-shape.ensures.ok
    c.k.ensures
    c.in_err-calls.ensures.fault in
    search (rules, refusal)

pub returns-clause-ok : goal.returns-clause-ok
returns-clause-ok c = ok_to _ _ (λ text told. record {
  shape = c.in_ok-shape.shape;
  shape_given = c.in_ok-shape.ensures.ok;
  calls = c.as_slice.result.now;
  written = rw (c.as_slice.ensures.value, ← c.k.ensures) c.in_ok-calls.ensures.calls;
  report = told;
}) c.report_of.result c.report_of.ensures.ok
