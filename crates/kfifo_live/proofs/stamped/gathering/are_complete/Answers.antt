use Rattle.std.proofs.Common.{sym, ◌∙◌, true≢false, rules, arith}
use Rattle.kfifo_live.proofs.Records.{any_of, passes-length}
use Rattle.kfifo_live.proofs.stamped.gathering.are_complete.Goals as goal

pub returns-then-passes-threads : goal.returns-then-passes-threads
returns-then-passes-threads c = (
  λ no_way. search rules,
  λ k. absurd (c.if-passes-threads.true (sym (passes-length c.args.passes.now) ∙ k.count)),
)

pub returns-then-not-has_stamped : goal.returns-then-not-has_stamped
returns-then-not-has_stamped c = (
  λ no_way. search rules,
  λ k.
      let there = any_of c.loop-thread.thread c.args.passes.now ∙ k.each c.loop-thread.thread c.loop-thread-test.true in
      absurd (true≢false (sym there ∙ sym c.has_stamped.ensures ∙ c.if-not-has_stamped.true)),
)

pub returns : goal.returns
returns c = (
  λ is_so. record {
    count = passes-length c.args.passes.now ∙ c.if-passes-threads.false;
    each = λ t less. sym (any_of t c.args.passes.now)
        ∙ c.loop-thread.invariant t (omega (arith, less, c.loop-thread-test.false));
  },
  λ k. search rules,
)
