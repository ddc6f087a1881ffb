-- The look found the ends as the take did, and as the seal did.
use Rattle.std.proofs.Common.{Some}
use Rattle.kfifo_model.specs.declared.calls.Answer.TheVariants as A
use Rattle.kfifo_live.proofs.PaySeals.{gets_since, open_since, same_since, sealed_since, token_since, was_seen}
use Rattle.kfifo_live.proofs.tokens.TokenPass.receive_or_seal.Goals as goal

pub seal_from-requires-clause-seen : goal.seal_from-requires-clause-seen
seal_from-requires-clause-seen g c =
    let look = c.look_at_ends-ends.ensures in
    was_seen c.args.self.now c.look_at_ends-ends.new.self c.receive.new.self c.args.start c.args.turns look.same
    look.finds look.keeps c.in-Empty.ensures.receives.0
    c.receive.ensures.same

pub returns-then-seal_from : goal.returns-then-seal_from
returns-then-seal_from g c =
    let look = c.look_at_ends-ends.ensures in
    let takes = c.in-Empty.ensures.receives in
    let seal = c.seal_from.ensures.sealed c.if-seal_from.true in
    let later = c.seal_from.ensures.same in
    record {
      same = same_since c.args.self.now.pass c.look_at_ends-ends.new.self.pass c.seal_from.new.self.pass look.same
          (same_since c.look_at_ends-ends.new.self.pass c.receive.new.self.pass c.seal_from.new.self.pass
          c.receive.ensures.same later);
      receives = (
        c.receive.new.self,
        token_since c.args.self.now c.look_at_ends-ends.new.self c.receive.new.self c.args.start c.args.turns look.same
            look.finds look.keeps A.Empty takes,
        record { ends = c.look_at_ends-ends.result; seal = seal; keeps = c.seal_from.ensures.keeps },
      );
      sealed = λ _. sealed_since c.args.self.now c.look_at_ends-ends.new.self c.receive.new.self c.args.start
          c.args.turns look.same look.finds look.keeps c.seal_from.new.self takes.0 c.receive.ensures.same later seal;
      promise = c.seal_from.ensures.promise;
    }

pub returns-else-seal_from : goal.returns-else-seal_from
returns-else-seal_from g c =
    let look = c.look_at_ends-ends.ensures in
    let takes = c.in-Empty.ensures.receives in
    record {
      same = same_since c.args.self.now.pass c.look_at_ends-ends.new.self.pass c.seal_from.new.self.pass look.same
          (same_since c.look_at_ends-ends.new.self.pass c.receive.new.self.pass c.seal_from.new.self.pass
          c.receive.ensures.same c.seal_from.ensures.same);
      receives = (
        c.receive.new.self,
        token_since c.args.self.now c.look_at_ends-ends.new.self c.receive.new.self c.args.start c.args.turns look.same
            look.finds look.keeps A.Empty takes,
        open_since c.args.self.now c.look_at_ends-ends.new.self c.receive.new.self c.args.start c.args.turns look.same
            look.finds look.keeps c.seal_from.new.self takes.0
            (c.seal_from.ensures.«open» c.if-seal_from.false) c.seal_from.ensures.keeps,
      );
      sealed = λ e. absurd (cc);
      promise = c.seal_from.ensures.promise;
    }

pub returns-in-Got : goal.returns-in-Got
returns-in-Got g c =
    let look = c.look_at_ends-ends.ensures in
    record {
      same = same_since c.args.self.now.pass c.look_at_ends-ends.new.self.pass c.receive.new.self.pass look.same
          c.receive.ensures.same;
      receives = gets_since c.args.self.now c.look_at_ends-ends.new.self c.receive.new.self c.args.start c.args.turns
          look.same look.finds look.keeps c.in-Got.token (Some c.in-Got.payload) c.in-Got.ensures.receives;
      sealed = λ e. absurd (cc);
      promise = c.receive.ensures.promise;
    }

pub returns-in-Busy : goal.returns-in-Busy
returns-in-Busy g c =
    let look = c.look_at_ends-ends.ensures in
    record {
      same = same_since c.args.self.now.pass c.look_at_ends-ends.new.self.pass c.receive.new.self.pass look.same
          c.receive.ensures.same;
      receives = token_since c.args.self.now c.look_at_ends-ends.new.self c.receive.new.self c.args.start c.args.turns
          look.same look.finds look.keeps A.Busy c.in-Busy.ensures.receives;
      sealed = λ e. absurd (cc);
      promise = c.receive.ensures.promise;
    }

pub returns-in-Worn : goal.returns-in-Worn
returns-in-Worn g c =
    let look = c.look_at_ends-ends.ensures in
    record {
      same = same_since c.args.self.now.pass c.look_at_ends-ends.new.self.pass c.receive.new.self.pass look.same
          c.receive.ensures.same;
      receives = token_since c.args.self.now c.look_at_ends-ends.new.self c.receive.new.self c.args.start c.args.turns
          look.same look.finds look.keeps A.Worn c.in-Worn.ensures.receives;
      sealed = λ e. absurd (cc);
      promise = c.receive.ensures.promise;
    }
