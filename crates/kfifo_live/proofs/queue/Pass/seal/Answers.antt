-- The look found the ends as the dequeue did, and as the seal did.
use Rattle.std.proofs.Common.{◌≡◌, ℕ, ◌∙◌, Some, sym, ap, subst}
use Rattle.kfifo_model.specs.declared.calls.Answer.{Answer}
use Rattle.kfifo_model.specs.declared.calls.Answer.TheVariants.{Empty}
use Rattle.kfifo_machine.specs.declared.event.Begin.TheVariants.{Dequeue}
use Rattle.kfifo_machine.specs.Runs.{Begins, CompleteExecution}
use Rattle.kfifo_linear.specs.Seals.{SealedEmpty}
use Rattle.kfifo_live.proofs.Types.{Opening}
use Rattle.kfifo_live.specs.Schedule.{world_after}
use Rattle.kfifo_live.specs.Calls.{MakesCall}
use Rattle.kfifo_live.specs.Pass.{Finds, PassView}
use Rattle.kfifo_live.specs.Seals.{Dequeues, SealsFrom, WasSeen}
use Rattle.kfifo_live.specs.declared.sealing.Sealing.{Sealing}
use Rattle.kfifo_live.specs.declared.sealing.Sealing.TheVariants.{Open}
use Rattle.kfifo_live.proofs.Keeps.{begins_whole}
use Rattle.kfifo_live.proofs.Sealed.{sealed_empty, seen_before}
use Rattle.kfifo_live.proofs.queue.Pass.seal.Goals as goal

pub seal_from-requires-clause-seen : goal.seal_from-requires-clause-seen
seal_from-requires-clause-seen c =
    let f = c.word.ensures.finds in
    let looked = c.word.new.self in
    let made = c.dequeue-answer.new.self in
    let reached : world_after looked.opened looked.seen ≡ Some f.world =
    ap (λ (x : Opening). world_after x looked.seen) c.word.ensures.same.1 ∙ f.reached in
    subst (λ (o : Opening). WasSeen o c.of_bits-ends.result made.seen) (sym c.dequeue-answer.ensures.same.1)
    (seen_before looked.opened reached (c.of_bits-ends.ensures ∙ f.word_is) c.dequeue-answer.ensures.call.run)

pub returns-then-seal_from-clause-sealed : goal.returns-then-seal_from-clause-sealed
returns-then-seal_from-clause-sealed c = λ _.
    let f = c.word.ensures.finds in
    let looked = c.word.new.self in
    let made = c.dequeue-answer.new.self in
    let o = looked.opened in
    let all = c.seal_from.new.self.seen in
    let reached : world_after o looked.seen ≡ Some f.world =
    ap (λ (x : Opening). world_after x looked.seen) c.word.ensures.same.1 ∙ f.reached in
    let whole : CompleteExecution o.shape o.threads looked.thread (Dequeue c.args.start c.args.turns) Empty looked.seen
    made.seen =
    subst (λ (a : Answer). CompleteExecution o.shape o.threads looked.thread (Dequeue c.args.start c.args.turns) a
    looked.seen made.seen)
    c.in-Empty.is c.dequeue-answer.ensures.call.run in
    let from : SealsFrom o made.thread c.of_bits-ends.result made.seen all =
    subst (λ (x : Opening). SealsFrom x made.thread c.of_bits-ends.result made.seen all) c.dequeue-answer.ensures.same.1
    (c.seal_from.ensures.sealed c.if-seal_from.true) in
    subst (λ (x : Opening). SealedEmpty x.shape x.threads all)
    (sym (c.seal_from.ensures.same.1 ∙ c.dequeue-answer.ensures.same.1))
    (sealed_empty o looked.thread (Dequeue c.args.start c.args.turns) looked.seen made.seen all c.of_bits-ends.result
    f.world reached
    (c.of_bits-ends.ensures ∙ f.word_is) whole from)

same_answer : (a b : Answer) → ◌≡◌ {A = Sealing} (Open a) (Open b) → a ≡ b
same_answer a b e = cc

dequeues : {start turns : ℕ} {a b : Answer} {old looked made new : PassView} {ends : ℕ} → Finds old looked 0 ends
    → MakesCall (Dequeue start turns) a looked made → looked.thread ≡ old.thread
    → ◌≡◌ {A = Sealing} (Open a) (Open b) → Begins looked.thread made.seen new.seen → Dequeues start turns b old new
dequeues {start} {turns} {a} {b} {old} {looked} {made} {new} {ends} looks call same is later = record {
  ends = ends;
  looked = looked;
  made = made;
  looks = looks;
  call = subst (λ (x : Answer). MakesCall (Dequeue start turns) x looked made) (same_answer a b is) call;
  later = subst (λ (t : ℕ). Begins t made.seen new.seen) same later;
}

pub returns-else-seal_from-clause-open : goal.returns-else-seal_from-clause-open
returns-else-seal_from-clause-open c = λ answer is.
    dequeues c.word.ensures.finds c.dequeue-answer.ensures.call c.word.ensures.same.2 is
    (subst (λ (t : ℕ). Begins t c.dequeue-answer.new.self.seen c.seal_from.new.self.seen)
    c.dequeue-answer.ensures.same.2
    (c.seal_from.ensures.«open» c.if-seal_from.false).others)

pub returns-in_default : goal.returns-in_default
returns-in_default c = record {
  same = (
    c.dequeue-answer.ensures.same.0 ∙ c.word.ensures.same.0,
    c.dequeue-answer.ensures.same.1 ∙ c.word.ensures.same.1,
    c.dequeue-answer.ensures.same.2 ∙ c.word.ensures.same.2,
  );
  sealed = λ e. absurd (cc);
  «open» = λ answer is.
      dequeues {new = c.dequeue-answer.new.self} c.word.ensures.finds c.dequeue-answer.ensures.call
      c.word.ensures.same.2 is
      (begins_whole c.word.new.self.thread c.dequeue-answer.new.self.seen);
  promise = c.dequeue-answer.ensures.promise;
}
