-- A call of a handle is that of its pass.
use Rattle.std.proofs.Common.{◌+◌, ◌≤◌, arith}
use Rattle.kfifo_words.specs.declared.shape.Shape.{Shape}
use Rattle.kfifo_live.specs.declared.handle.TheConstants.{MAX_TURNS}

-- a call of a handle has rounds enough to be Busy only by another thread's doing
pub turns_enough : (s : Shape) → s.n + 2 ≤ MAX_TURNS
turns_enough s = omega (arith, s.few_segments)
