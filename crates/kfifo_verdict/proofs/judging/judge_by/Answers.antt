use Rattle.std.proofs.Common.{ℕ, List, sym, subst}
use Rattle.std.proofs.lemmas.Bool.{false≢true}
use Rattle.kfifo_verdict.proofs.Types.{Call}
use Rattle.kfifo_verdict.specs.Judging.{HasNoEvidence, IsPlain}
use Rattle.kfifo_verdict.proofs.judging.judge_by.Goals as goal
use Rattle.kfifo_verdict.proofs.judging.judge_by.Goals.{then-k-eq1+in_ok-order+in_default-2, else-k-eq1}

pub order_of_plain-requires-clause-clear : goal.order_of_plain-requires-clause-clear
order_of_plain-requires-clause-clear c =
    let h = c.args.history.now in
    let none = rw c.in_default.is at c.in_ok-found.ensures.first in
    let K : ℕ → Type 0 = λ w. HasNoEvidence w h in
    let H : List Call → Type 0 = λ w. HasNoEvidence 1 w in
    subst H (sym c.calls.ensures.calls) (subst K c.if-k-eq1.true none)

pub returns-in-Err-clause-complete : goal.returns-in-Err-clause-complete
returns-in-Err-clause-complete c = λ one plain. elim c.if-k-eq1.branch [
  | then-k-eq1+in_ok-order+in_default-2 w ↦ (
      let P : List Call → Type 0 = λ v. IsPlain v in
      let some = w.in_ok-order.ensures.complete (subst P (sym w.calls.ensures.calls) plain) in
      absurd (false≢true (rw w.in_default-2.is at some))
      )
  | else-k-eq1 w ↦ absurd (w.if-k-eq1.false one)
]
