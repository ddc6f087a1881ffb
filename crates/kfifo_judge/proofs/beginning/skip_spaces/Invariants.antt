use Rattle.kfifo_judge.specs.Inputs.{AreSpaces}
use Rattle.kfifo_judge.proofs.beginning.skip_spaces.Given as goal

abbrev pub invariant-loop-place : goal.invariant-loop-place
invariant-loop-place l = AreSpaces l.bytes l.place
