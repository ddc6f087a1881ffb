use Rattle.std.proofs.Common.{◌≡◌, map, take}
use Rattle.std.specs.List.{All}
use Rattle.kfifo_cli_commands.specs.FileVerdicts.{IsSpare}
use Rattle.kfifo_cli_commands.proofs.commands.judge_files.all_pending.Given as goal

abbrev pub invariant-loop-name : goal.invariant-loop-name
invariant-loop-name l = record {
  names : map (λ file. file.name.now) l.pending.items ≡ map (λ name. name.now) (take l.name-index l.name-items);
  spares : All (IsSpare l.options) l.pending.items;
}
