use Rattle.std.proofs.Common.{◌≡◌, ◌≤◌, ◌<◌, ℕ, get_or}
use Rattle.kfifo_c.specs.declared.handle.Handle.{Handle}
use Rattle.kfifo_c.specs.Handles.{WasClosed}
use Rattle.kfifo_c.proofs.handles.abandon.Given as goal

abbrev pub invariant-loop-handle : goal.invariant-loop-handle
invariant-loop-handle g l = record {
  rest : (k : ℕ) (d : Handle) → l.handle-index ≤ k → get_or l.handles k d ≡ get_or l.initial.handles k d;
  closed : (k : ℕ) (d : Handle) → k < l.handle-index
      → WasClosed g.S.Seating.KIND (get_or l.initial.handles k d) (get_or l.handles k d);
}
