-- Where the ends stand sealed, or the seal was won, they are sealed; else others' events came alone.
use Rattle.std.proofs.Common.{◌≡◌, ◌≤◌, ◌∙◌, [], inl, refl, sym, ap, arith, eqb-true}
use Rattle.kfifo_words.specs.Words.{head_of, tail_of, version_of}
use Rattle.kfifo_machine.proofs.Sound.{sound_ends}
use Rattle.kfifo_machine.specs.Machine.{word_at}
use Rattle.kfifo_live.proofs.Types.{Shape}
use Rattle.kfifo_live.specs.Schedule.{seen_of, thread_of}
use Rattle.kfifo_live.proofs.Keeps.{begins_whole}
use Rattle.kfifo_live.proofs.Sealed.{sealed_before, tried, tries_fit, tries_gifts, tries_lost, tries_won, untried}
use Rattle.kfifo_live.proofs.sealing.seal_ends.Goals as goal

pub returns-then-head-tail : goal.returns-then-head-tail
returns-then-head-tail g c = record {
  same = (refl, refl);
  idle = c.requires.idle;
  sealed = λ e. absurd (cc);
  «open» = λ _. record {
    others = begins_whole (thread_of c.args.seat.now.me.0) (seen_of c.args.seat.now.me.0);
    why = inl (λ same. c.if-head-tail.true (c.head.ensures.value ∙ same ∙ sym c.tail.ensures.value));
  };
  gifts = ([], untried c.args.seat.now.me c.requires.idle);
  in_turn = λ fits. fits;
}

pub returns-then-version-last : goal.returns-then-version-last
returns-then-version-last g c =
    let s = c.requires.seen in
    let v = c.args.seat.now.me.0 in
    let o = v.opened in
    let last : c.last.result ≡ o.shape.last = c.last.ensures ∙ ap (λ (x : Shape). x.last) (sym c.requires.shape) in
    let most : version_of (word_at s.world 0) ≤ o.shape.last =
    (sound_ends o.shape o.threads s.before s.world s.reached).version in
    let version : c.version.result ≡ version_of c.args.ends = c.version.ensures.value in
    let same : version_of c.args.ends ≡ version_of (word_at s.world 0) = ap version_of s.word_is in
    let low : c.last.result ≤ c.version.result = c.if-version-last.true in
    let together : head_of c.args.ends ≡ tail_of c.args.ends = sym c.head.ensures.value ∙ c.if-head-tail.false
    ∙ c.tail.ensures.value in
    record {
      same = (refl, refl);
      idle = c.requires.idle;
      sealed = λ _. sealed_before o (thread_of v) c.args.ends (seen_of v) s (record {
        together = together;
        last = omega arith;
      });
      «open» = λ e. absurd (cc);
      gifts = ([], untried c.args.seat.now.me c.requires.idle);
      in_turn = λ fits. fits;
    }

pub returns : goal.returns
returns g c =
    let v = c.args.seat.now.me.0 in
    let w = c.try_seal.new.seat.me.0 in
    let tries = c.try_seal.ensures.tries in
    record {
      same = c.try_seal.ensures.same;
      idle = tried c.args.ends c.try_seal.result c.args.seat.now.me c.try_seal.new.seat.me c.requires.idle
          c.try_seal.ensures.same.1 tries;
      sealed = λ won. tries_won c.args.ends c.try_seal.result v w tries
          (eqb-true c.try_seal.result c.args.ends (sym c.eq.ensures ∙ won));
      «open» = λ lost. tries_lost c.args.ends c.try_seal.result v w tries (sym c.eq.ensures ∙ lost);
      gifts = (tries.given, tries_gifts tries);
      in_turn = λ _. tries_fit tries;
    }
