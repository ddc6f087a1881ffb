use Rattle.std.proofs.Common.{◌≡◌, take}
use Rattle.kfifo_c.specs.Handles.{all_fields, behind, items_behind}
use Rattle.kfifo_c.specs.Exports.{numbers_in}
use Rattle.kfifo_c.proofs.closing.numbers.Given as goal

abbrev pub invariant-loop-handle : goal.invariant-loop-handle
invariant-loop-handle l = record {
  same : behind l.handles ≡ behind l.initial.handles;
  fields : all_fields l.handles ≡ all_fields l.initial.handles;
  found : l.numbers.items ≡ numbers_in (take l.handle-index (items_behind l.initial.handles));
}
