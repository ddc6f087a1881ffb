use Rattle.std.proofs.Common.{◌≡◌, ◌≤◌, ◌-◌, ◌^◌, length, vec_len}
use Rattle.std.specs.Io.KnownBytes.{Consumes}
use Rattle.kfifo_judge.specs.Inputs.{AreSpaces, IsLongRecord}
use Rattle.kfifo_judge.proofs.streams.begin_reading.Given as goal

abbrev pub invariant-pieces : goal.invariant-pieces
invariant-pieces g l = record {
  came : Consumes (g.R.Source.remaining l.fn.source) (g.R.Source.remaining l.source) l.bytes.items;
  inside : l.spaces ≤ length l.bytes.items;
  spaces : AreSpaces l.bytes.items l.spaces;
  short : ¬ (IsLongRecord l.bytes.items);
  failures : g.R.Source.failed l.source ≡ g.R.Source.failed l.fn.source;
}

abbrev pub decreases-pieces : goal.decreases-pieces
decreases-pieces g l = 2 ^ 63 - vec_len l.bytes
