use Rattle.std.proofs.Common.{◌≡◌, map, take}
use Rattle.serde_json.specs.View.{view}
use Rattle.kfifo_judge.specs.Named.{named_call}
use Rattle.kfifo_judge.specs.Reports.{named_value}
use Rattle.kfifo_judge.proofs.report.named_values.Given as goal

abbrev pub invariant-loop-number : goal.invariant-loop-number
invariant-loop-number l = map view l.values.items
    ≡ map (λ n. named_value (named_call l.logged l.history n)) (take l.number-index l.numbers)
