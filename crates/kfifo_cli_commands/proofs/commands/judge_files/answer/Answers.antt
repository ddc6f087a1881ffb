use Rattle.std.proofs.Common.{◌≡◌, ◌++◌, ap, false, refl, subst, sym}
use Rattle.std.specs.Prelude.{List}
use Rattle.kfifo_cli_texts.proofs.Writings.{first_of_two, second_of_two, writes_more}
use Rattle.kfifo_cli_commands.specs.FileVerdicts.{ArePending}
use Rattle.kfifo_cli_commands.specs.Statuses.{status_number}
use Rattle.kfifo_cli_commands.specs.Tallies.{summary, tally_status}
use Rattle.kfifo_cli_commands.specs.declared.commands.judge_files.Pending.{Pending}
use Rattle.kfifo_cli_commands.proofs.Refusals.{any_err}
use Rattle.kfifo_cli_commands.proofs.commands.judge_files.answer.Goals as goal

pub print_lines-requires : goal.print_lines-requires
print_lines-requires g c =
    subst (λ (pending : List Pending). ArePending c.args.options pending) (sym c.as_slice.ensures.value)
    c.in_ok-pending.ensures

pub returns-in_err-tally-clause-broken : goal.returns-in_err-tally-clause-broken
returns-in_err-tally-clause-broken g c = any_err c.from_residual-in_err-tally.result _ (λ fault is.
    let w = c.in_err-tally.ensures.err in (
      w.0 ++ summary c.args.options w.1,
      status_number (tally_status w.1),
      record { lines = w.0; tally = w.1; judged = w.2; text_is = refl; ended = refl },
      first_of_two g.W.Write.contents c.args.output.now c.print_lines.new.output w.0 (summary c.args.options w.1) w.3,
    ))

pub returns-in_err-print_summary-clause-broken : goal.returns-in_err-print_summary-clause-broken
returns-in_err-print_summary-clause-broken g c = any_err c.from_residual-in_err-print_summary.result _ (λ fault is.
    let w = c.in_ok-tally.ensures.ok in
    let tally = c.in_ok-tally.tally in (
      w.0 ++ summary c.args.options tally,
      status_number (tally_status tally),
      record { lines = w.0; tally = tally; judged = w.1; text_is = refl; ended = refl },
      second_of_two g.W.Write.contents false c.args.output.now c.print_lines.new.output c.print_summary.new.output w.0
          (summary c.args.options tally) w.2 c.in_err-print_summary.ensures.err,
    ))

pub returns-clause-printed : goal.returns-clause-printed
returns-clause-printed g c =
    let w = c.in_ok-tally.ensures.ok in
    let tally = c.in_ok-tally.tally in (
      w.0 ++ summary c.args.options tally,
      record {
        lines = w.0;
        tally = tally;
        judged = w.1;
        text_is = refl;
        ended = ap status_number c.status.ensures.known;
      },
      writes_more g.W.Write.contents c.args.output.now c.print_lines.new.output c.print_summary.new.output w.0
          (summary c.args.options tally) w.2 c.in_ok-print_summary.ensures.ok,
    )
