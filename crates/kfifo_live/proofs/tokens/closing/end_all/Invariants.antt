use Rattle.std.proofs.Common.{◌≡◌, ◌++◌, All, false}
use Rattle.kfifo_live.specs.Payloads.{PayPassView}
use Rattle.kfifo_live.proofs.tokens.closing.end_all.Given as goal

-- the passes so far, and behind them those that are still to come, are all of them
abbrev pub invariant-loop-pass : goal.invariant-loop-pass
invariant-loop-pass g l = record {
  made : l.ended.items ++ l.pass-iterator.rest.items ≡ l.fn.passes.items;
  kind : All (λ (p : PayPassView g.row.T.Denot). p.pass.opened.bare ≡ false) l.pass-iterator.rest.items;
}
