use Rattle.std.proofs.Common.{◌≡◌, ◌+◌, ◌++◌, ap, get_or, subst, sym}
use Rattle.std.proofs.lemmas.List.Elements.{All-get_or}
use Rattle.kfifo_cli_texts.proofs.Writings.{second_breaks, writes_more}
use Rattle.kfifo_cli_commands.specs.FileVerdicts.{IsFileLine, IsSpare}
use Rattle.kfifo_cli_commands.specs.Tallies.{tallied}
use Rattle.kfifo_cli_commands.specs.declared.commands.judge_files.Pending.{Pending}
use Rattle.kfifo_cli_commands.proofs.Filing.{all_judged, below_more, judged_more}
use Rattle.kfifo_cli_commands.proofs.Refusals.{any_err}
use Rattle.kfifo_cli_commands.proofs.commands.judge_files.print_lines.Goals as goal

pub print_line-requires : goal.print_line-requires
print_line-requires g c = subst (IsSpare c.args.options) (sym c.file-item.is)
    (All-get_or (IsSpare c.args.options) c.args.pending.now c.loop-file.file-index c.file-item.result
    c.loop-file-test.true c.requires.1)

pub returns-in_err-found-clause-err : goal.returns-in_err-found-clause-err
returns-in_err-found-clause-err g c = any_err c.from_residual.result _ (λ fault.
    let n = c.loop-file.file-index in
    let before = c.loop-file.invariant.printed in
    let broke = c.in_err-found.ensures.err in
    let line_of : IsFileLine c.args.options (get_or c.args.pending.now n c.file-item.result).name.now broke.1 broke.0 =
    subst (λ (file : Pending). IsFileLine c.args.options file.name.now broke.1 broke.0) c.file-item.is broke.2 in
    let more = judged_more c.args.options c.args.pending.now n c.file-item.result before.0 broke.0 c.loop-file.tally
    broke.1
    c.loop-file-test.true before.1 line_of in
    let all = all_judged c.args.options c.args.pending.now (n + 1) (before.0 ++ broke.0)
    (tallied c.loop-file.tally broke.1) c.requires more in (
      (before.0 ++ broke.0) ++ all.0,
      all.1,
      all.2,
      second_breaks g.W.Write.contents c.args.output.now c.loop-file.output c.print_line.new.output before.0 broke.0
          all.0 before.2 broke.3,
    ))

pub loop-file-preserved : goal.loop-file-preserved
loop-file-preserved g c =
    let n = c.loop-file.file-index in
    let before = c.loop-file.invariant.printed in
    let said = c.in_ok-found.ensures.ok in
    let line_of : IsFileLine c.args.options (get_or c.args.pending.now n c.file-item.result).name.now
    c.in_ok-found.found said.0 =
    subst (λ (file : Pending). IsFileLine c.args.options file.name.now c.in_ok-found.found said.0) c.file-item.is
    said.1 in
    let more = judged_more c.args.options c.args.pending.now n c.file-item.result before.0 said.0 c.loop-file.tally
    c.in_ok-found.found
    c.loop-file-test.true before.1 line_of in
    let printed = writes_more g.W.Write.contents c.args.output.now c.loop-file.output c.print_line.new.output before.0
    said.0 before.2 said.2 in
    record {
      printed = rw c.with-tally.ensures (before.0 ++ said.0, more, printed);
      below = rw c.with-tally.ensures (below_more (n + 1) c.loop-file.tally c.in_ok-found.found
          c.loop-file.invariant.below);
      made = ap (λ m. m + 1) c.loop-file.invariant.made;
    }
