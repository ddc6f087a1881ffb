use Rattle.std.proofs.Common.{◌≡◌, ◌≢◌, refl, subst, sym}
use Rattle.kfifo_cli_texts.specs.declared.fault.Fault.TheVariants.{Input, Output}
use Rattle.kfifo_cli_texts.specs.Printing.{OnPrinter}
use Rattle.kfifo_cli_commands.specs.Endings.{Ends, IsAnswered, IsRefused}
use Rattle.kfifo_cli_commands.specs.Statuses.{status_number}
use Rattle.kfifo_cli_commands.specs.declared.status.Status.{Status}
use Rattle.kfifo_cli_commands.proofs.Endings.{ends_well, ends_with, output_no_input}
use Rattle.kfifo_cli_commands.proofs.ending.carry_out.Goals as goal

pub returns-in-Err : goal.returns-in-Err
returns-in-Err g c =
    let fault = c.in-Err.failure.fault in
    let input = g.S.Source.remaining c.args.input.now in
    let before = g.S.Source.failed c.args.input.now in
    let after = g.S.Source.failed c.answer.new.input in
    let on_output = OnPrinter g.W.Write.contents c.args.output.now c.answer.new.output in
    let on_faults = OnPrinter g.F.Write.contents c.args.faults.now c.end_with_fault-status.new.faults in
    let ends : Ends (IsAnswered c.args.request input before after) (IsRefused c.args.request input before after) ⊥
    on_output on_faults 1 =
    ends_with
    (IsAnswered c.args.request input before after) (IsRefused c.args.request input before after) on_output on_faults
    fault
    (λ is. c.end_with_fault-status.ensures.silent is)
    (λ is.
    let w = c.in-Err.ensures.broken is in
    let answered : IsAnswered c.args.request input before after w.0 w.1 =
    (w.2, c.in-Err.ensures.reads (output_no_input fault is)) in
    (w.0, w.1, answered, w.3))
    (λ not. (c.in-Err.ensures.refused not).1) (λ not. (c.in-Err.ensures.refused not).0)
    (λ not. c.end_with_fault-status.ensures.told not) in
    subst (λ (s : Status). Ends (IsAnswered c.args.request input before after)
    (IsRefused c.args.request input before after) ⊥ on_output
    on_faults (status_number s))
    (sym c.end_with_fault-status.ensures.status) ends

pub returns-in-Ok : goal.returns-in-Ok
returns-in-Ok g c =
    let input = g.S.Source.remaining c.args.input.now in
    let before = g.S.Source.failed c.args.input.now in
    let after = g.S.Source.failed c.answer.new.input in
    let w = c.in-Ok.ensures.printed in
    let answered : IsAnswered c.args.request input before after w.0 (status_number c.in-Ok.status) =
    (w.1, c.in-Ok.ensures.reads) in
    ends_well
    (IsAnswered c.args.request input before after) (IsRefused c.args.request input before after)
    (OnPrinter g.W.Write.contents c.args.output.now c.answer.new.output)
    (OnPrinter g.F.Write.contents c.args.faults.now c.args.faults.now)
    c.in-Ok.status w.0 c.in-Ok.ensures.statuses refl answered w.2
