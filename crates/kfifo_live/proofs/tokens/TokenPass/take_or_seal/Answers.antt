-- The look found the ends as the take did, and as the seal did.
use Rattle.std.proofs.Common.{None}
use Rattle.kfifo_model.specs.declared.calls.Answer.TheVariants as A
use Rattle.kfifo_live.proofs.PaySeals.{gets_since, open_since, same_since, sealed_since, token_since, was_seen}
use Rattle.kfifo_live.proofs.tokens.TokenPass.take_or_seal.Goals as goal

pub seal_from-requires-clause-seen : goal.seal_from-requires-clause-seen
seal_from-requires-clause-seen g c =
    let look = c.look_at_ends-ends.ensures in
    was_seen c.args.self.now c.look_at_ends-ends.new.self c.take.new.self c.args.start c.args.turns look.same look.finds
    look.keeps c.in-Empty.ensures.takes.0
    c.take.ensures.same

pub returns-then-seal_from : goal.returns-then-seal_from
returns-then-seal_from g c =
    let look = c.look_at_ends-ends.ensures in
    let takes = c.in-Empty.ensures.takes in
    let seal = c.seal_from.ensures.sealed c.if-seal_from.true in
    let later = c.seal_from.ensures.same in
    record {
      same = same_since c.args.self.now.pass c.look_at_ends-ends.new.self.pass c.seal_from.new.self.pass look.same
          (same_since c.look_at_ends-ends.new.self.pass c.take.new.self.pass c.seal_from.new.self.pass
          c.take.ensures.same later);
      takes = (
        c.take.new.self,
        token_since c.args.self.now c.look_at_ends-ends.new.self c.take.new.self c.args.start c.args.turns look.same
            look.finds look.keeps A.Empty takes,
        record { ends = c.look_at_ends-ends.result; seal = seal; keeps = c.seal_from.ensures.keeps },
      );
      sealed = λ _. sealed_since c.args.self.now c.look_at_ends-ends.new.self c.take.new.self c.args.start c.args.turns
          look.same look.finds look.keeps c.seal_from.new.self takes.0 c.take.ensures.same later seal;
      promise = c.seal_from.ensures.promise;
    }

pub returns-else-seal_from : goal.returns-else-seal_from
returns-else-seal_from g c =
    let look = c.look_at_ends-ends.ensures in
    let takes = c.in-Empty.ensures.takes in
    record {
      same = same_since c.args.self.now.pass c.look_at_ends-ends.new.self.pass c.seal_from.new.self.pass look.same
          (same_since c.look_at_ends-ends.new.self.pass c.take.new.self.pass c.seal_from.new.self.pass
          c.take.ensures.same c.seal_from.ensures.same);
      takes = (
        c.take.new.self,
        token_since c.args.self.now c.look_at_ends-ends.new.self c.take.new.self c.args.start c.args.turns look.same
            look.finds look.keeps A.Empty takes,
        open_since c.args.self.now c.look_at_ends-ends.new.self c.take.new.self c.args.start c.args.turns look.same
            look.finds look.keeps c.seal_from.new.self takes.0
            (c.seal_from.ensures.«open» c.if-seal_from.false) c.seal_from.ensures.keeps,
      );
      sealed = λ e. absurd (cc);
      promise = c.seal_from.ensures.promise;
    }

pub returns-in-Got : goal.returns-in-Got
returns-in-Got g c =
    let look = c.look_at_ends-ends.ensures in
    record {
      same = same_since c.args.self.now.pass c.look_at_ends-ends.new.self.pass c.take.new.self.pass look.same
          c.take.ensures.same;
      takes = gets_since c.args.self.now c.look_at_ends-ends.new.self c.take.new.self c.args.start c.args.turns
          look.same look.finds look.keeps c.in-Got.token None c.in-Got.ensures.takes;
      sealed = λ e. absurd (cc);
      promise = c.take.ensures.promise;
    }

pub returns-in-Busy : goal.returns-in-Busy
returns-in-Busy g c =
    let look = c.look_at_ends-ends.ensures in
    record {
      same = same_since c.args.self.now.pass c.look_at_ends-ends.new.self.pass c.take.new.self.pass look.same
          c.take.ensures.same;
      takes = token_since c.args.self.now c.look_at_ends-ends.new.self c.take.new.self c.args.start c.args.turns
          look.same look.finds look.keeps A.Busy c.in-Busy.ensures.takes;
      sealed = λ e. absurd (cc);
      promise = c.take.ensures.promise;
    }

pub returns-in-Worn : goal.returns-in-Worn
returns-in-Worn g c =
    let look = c.look_at_ends-ends.ensures in
    record {
      same = same_since c.args.self.now.pass c.look_at_ends-ends.new.self.pass c.take.new.self.pass look.same
          c.take.ensures.same;
      takes = token_since c.args.self.now c.look_at_ends-ends.new.self c.take.new.self c.args.start c.args.turns
          look.same look.finds look.keeps A.Worn c.in-Worn.ensures.takes;
      sealed = λ e. absurd (cc);
      promise = c.take.ensures.promise;
    }
