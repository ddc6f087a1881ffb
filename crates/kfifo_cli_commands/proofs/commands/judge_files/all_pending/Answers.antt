use Rattle.std.proofs.Common.{[], get_or, refl, subst}
use Rattle.std.proofs.lemmas.List.Elements.{All-push}
use Rattle.std.specs.Prelude.{string_bytes}
use Rattle.kfifo_cli_texts.specs.declared.fault.Fault.{Fault}
use Rattle.kfifo_cli_commands.specs.FileVerdicts.{IsFaultLine, IsSpare}
use Rattle.kfifo_cli_commands.specs.declared.commands.judge_files.Pending.{Pending}
use Rattle.kfifo_cli_commands.proofs.Filing.{names_more}
use Rattle.kfifo_cli_commands.proofs.commands.judge_files.all_pending.Goals as goal

pub loop-name-preserved : goal.loop-name-preserved
loop-name-preserved c =
    let n = c.loop-name.name-index in
    let name = get_or c.args.options.files.now n (record { ref_ptr = (0, 0); now = [] }) in
    let file : Pending = record { name = name; spare = c.in_ok-spare.spare } in
    let spare : IsSpare c.args.options file =
    subst (λ (fault : Fault). IsFaultLine c.args.options.json name.now fault (string_bytes c.in_ok-spare.spare))
    c.from.ensures
    c.in_ok-spare.ensures in
    rw c.in_ok-push.ensures.items record {
      names = names_more c.loop-name.pending.items c.args.options.files.now n _ file c.loop-name-test.true
          c.loop-name.invariant.names refl;
      spares = All-push (IsSpare c.args.options) c.loop-name.pending.items file c.loop-name.invariant.spares spare;
    }
