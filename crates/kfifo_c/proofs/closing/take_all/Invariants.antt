use Rattle.std.proofs.Common.{◌≡◌, ◌≤◌, ◌<◌, ℕ, take, get_or, length, vec_capacity}
use Rattle.kfifo_c.specs.declared.handle.Handle.{Handle}
use Rattle.kfifo_c.specs.Handles.{WasClosed, items_behind}
use Rattle.kfifo_c.specs.Exports.{passes_in, AreTheirs}
use Rattle.kfifo_c.proofs.closing.take_all.Given as goal

abbrev pub invariant-loop-handle : goal.invariant-loop-handle
invariant-loop-handle l = record {
  rest : (k : ℕ) (d : Handle) → l.handle-index ≤ k → get_or l.handles k d ≡ get_or l.initial.handles k d;
  closed : (k : ℕ) (d : Handle) → k < l.handle-index
      → WasClosed 1 (get_or l.initial.handles k d) (get_or l.handles k d);
  taken : l.passes.items ≡ passes_in (take l.handle-index (items_behind l.initial.handles));
  theirs : AreTheirs (take l.handle-index (items_behind l.initial.handles));
  few : length l.passes.items ≤ l.handle-index;
  room : length l.initial.handles ≤ vec_capacity l.passes;
}
