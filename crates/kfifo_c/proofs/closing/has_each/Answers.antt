use Rattle.std.proofs.Common.{sym, ◌∙◌, true≢false, rules}
use Rattle.kfifo_c.proofs.closing.has_each.Goals as goal

pub returns-then-not-has : goal.returns-then-not-has
returns-then-not-has c = (
  λ no_way. search rules,
  λ all.
      let there = all.each c.loop-thread.thread c.loop-thread-test.true in
      absurd (true≢false (sym there ∙ sym c.has.ensures ∙ c.if-not-has.true)),
)
