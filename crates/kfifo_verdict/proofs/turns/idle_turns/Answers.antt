use Rattle.std.proofs.Common.{ℕ, length, sym, ◌∙◌, ap, subst, arith}
use Rattle.kfifo_model.specs.Histories.{effect_of}
use Rattle.kfifo_model.proofs.Checking.{read}
use Rattle.kfifo_verdict.specs.Plain.{IsIdleTurn}
use Rattle.kfifo_verdict.proofs.Lining.{idle_at_start, idle_at_gap, idle_more, idle_all}
use Rattle.kfifo_verdict.proofs.turns.idle_turns.Goals as goal
use Rattle.kfifo_verdict.proofs.turns.idle_turns.Goals.{in-FindsNone+in_ok-gap+in-Gap}
use Rattle.kfifo_verdict.proofs.turns.idle_turns.Goals.{in-FindsNone+in_ok-gap+in_default-2+in-Whole-1}
use Rattle.kfifo_verdict.proofs.turns.idle_turns.Goals.{in-FindsNone+in_ok-gap+in_default-2+in-Gap-1, in_default}

pub loop-n-preserved : goal.loop-n-preserved
loop-n-preserved c =
    let h = c.args.calls.now in
    let ps = c.args.presences.now in
    let n = c.loop-n.n in
    let rank = c.args.rank in
    let same = ap effect_of (read h n _ c.loop-n-test.true) in
    let T : ℕ → Type 0 = λ m. IsIdleTurn h ps rank n (record { moment = m; rank = rank }) in
    let is : T c.match-effect.moment = elim c.match-effect.branch [
      | in-FindsNone+in_ok-gap+in-Gap w ↦ subst T (sym w.moment-is)
          (idle_at_gap h ps c.args.stays.now rank n w.in-Gap.gap c.requires.longest c.requires.sized
          (rw w.in-Gap.is at w.in_ok-gap.ensures))
      | in-FindsNone+in_ok-gap+in_default-2+in-Whole-1 w ↦
          absurd (c.requires.clear.2 n (w.in_default-2.field-0.items, rw w.in_default-2.is at w.in_ok-gap.ensures))
      | in-FindsNone+in_ok-gap+in_default-2+in-Gap-1 w ↦
          absurd (c.requires.clear.2 n (w.in_default-2.field-0.items, rw w.in_default-2.is at w.in_ok-gap.ensures))
      | in_default w ↦ subst T (sym w.moment-is)
          (idle_at_start h ps rank n c.requires.history c.loop-n-test.true
          (λ e. w.in_default.not-FindsNone (c.effect.ensures ∙ same ∙ e)))
    ] in
    idle_more h ps rank n c.loop-n.turns.items c.push.new.self.items (record {
      moment = c.match-effect.moment;
      rank = rank;
    }) is
    c.in_ok-push.ensures.items c.loop-n.invariant

pub returns : goal.returns
returns c =
    let test = c.loop-n-test.false in
    let end = c.loop-n.auto.n-end in
    idle_all c.args.calls.now c.args.presences.now c.args.rank c.loop-n.n (length c.args.calls.now) c.loop-n.turns.items
    (omega (arith, test, end)) c.loop-n.invariant
