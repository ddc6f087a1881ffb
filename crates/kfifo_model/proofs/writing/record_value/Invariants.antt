use Rattle.std.proofs.Common.{◌≡◌, map, take}
use Rattle.serde_json.specs.View.{view}
use Rattle.kfifo_model.specs.RecordTexts.{call_value}
use Rattle.kfifo_model.proofs.writing.record_value.Given as goal

abbrev pub invariant-loop-call : goal.invariant-loop-call
invariant-loop-call l = map view l.members.items ≡ map call_value (take l.call-index l.calls)
