use Rattle.kfifo_model.specs.declared.effects.Side.TheVariants.{In, Out}
use Rattle.kfifo_verdict.specs.Finding.{IsTallied, tally_in}
use Rattle.kfifo_verdict.proofs.tallies.both_tallies.Given as goal

abbrev pub invariant-loop-n : goal.invariant-loop-n
invariant-loop-n l = record {
  puts : IsTallied l.calls In l.n (tally_in l.puts);
  gets : IsTallied l.calls Out l.n (tally_in l.gets);
}
