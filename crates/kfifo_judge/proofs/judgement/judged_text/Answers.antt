use Rattle.std.proofs.Common.{string_bytes, ◌∙◌, ap, refl}
use Rattle.kfifo_judge.specs.Judgements.{IsJudgementText, legal_text}
use Rattle.kfifo_judge.proofs.judgement.judged_text.Goals as goal
use Rattle.kfifo_judge.proofs.judgement.judged_text.Goals.{in-Legal+in_ok-legal-in-Legal}
use Rattle.kfifo_judge.proofs.judgement.judged_text.Goals.{in-NoOrder+in_ok-no_order-in-NoOrder}
use Rattle.kfifo_judge.proofs.judgement.judged_text.Goals.{in-Undecided+in_ok-undecided-in-Undecided}

pub returns : goal.returns
returns c =
    let told : IsJudgementText c.args.k c.args.show c.args.logged.now c.args.history.now c.in_ok-judgement.judgement
    (string_bytes c.match-judgement.text.0) c.match-judgement.text.1 = elim c.match-judgement.branch [
      | in-Legal+in_ok-legal-in-Legal w ↦ rw (w.in-Legal.is, w.text-is) (
        w.in_ok-legal-in-Legal.ensures
            ∙ ap (legal_text c.args.k c.args.show c.args.history.now) w.deref.ensures.value,
        refl,
      )
      | in-NoOrder+in_ok-no_order-in-NoOrder w ↦ rw (w.in-NoOrder.is, w.text-is) w.in_ok-no_order-in-NoOrder.ensures
      | in-Undecided+in_ok-undecided-in-Undecided w ↦ rw (w.in-Undecided.is, w.text-is)
          (w.in_ok-undecided-in-Undecided.ensures, refl)
    ] in
    record { judged = c.in_ok-judgement.ensures.judgement; told = told; left = c.in_ok-judgement.ensures.left }
