use Rattle.std.proofs.Common.{◌≡◌, ◌++◌, map}
use Rattle.kfifo_live.proofs.tokens.closing.plain_passes.Given as goal

-- the passes so far, and behind them those that are still to come, are all of them
abbrev pub invariant-loop-pass : goal.invariant-loop-pass
invariant-loop-pass l = record {
  made : l.plain.items ++ map (λ p. p.pass) l.pass-iterator.rest.items ≡ map (λ p. p.pass) l.fn.passes.items;
}
