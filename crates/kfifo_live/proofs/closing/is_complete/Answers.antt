use Rattle.std.proofs.Common.{sym, ◌∙◌, true≢false, rules}
use Rattle.kfifo_live.proofs.closing.is_complete.Goals as goal

pub returns-then-not-has_pass : goal.returns-then-not-has_pass
returns-then-not-has_pass c = (
  λ no_way. search rules,
  λ k.
      let there = k.each c.loop-thread.thread c.loop-thread-test.true in
      absurd (true≢false (sym there ∙ sym c.has_pass.ensures ∙ c.if-not-has_pass.true)),
)
