use Rattle.std.proofs.Common.{◌≡◌, length, map}
use Rattle.serde_json.specs.View.{view}
use Rattle.kfifo_model.specs.Validity.{IsHistory}
use Rattle.kfifo_model.specs.Records.{AreRead}
use Rattle.kfifo_model.proofs.Watching.{AreSoFar}
use Rattle.kfifo_model.proofs.reading.read_members.Given as goal

abbrev pub invariant-loop-n : goal.invariant-loop-n
invariant-loop-n l = record {
  sized : length l.calls.items ≡ l.n;
  valid : IsHistory l.calls.items;
  read : AreRead (map view l.members) l.calls.items;
  seen : AreSoFar l.calls.items l.n l.so_far;
}
