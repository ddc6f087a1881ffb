use Rattle.std.proofs.Common.{◌≡◌, ◌<◌, length, arith}
use Rattle.kfifo_verdict.specs.Finding.{first_of}
use Rattle.kfifo_verdict.specs.Plain.{place}
use Rattle.kfifo_verdict.proofs.EmptyWhileLeft.{gone_from, none_gone}
use Rattle.kfifo_verdict.proofs.left.gone_at.Goals as goal
use Rattle.kfifo_verdict.proofs.left.gone_at.Goals.{else-at-gets-via-then-at-gets+else-gets-at}
use Rattle.kfifo_verdict.proofs.left.gone_at.Goals.{else-at-gets-via-else-at-gets}

pub returns-then-gets-at : goal.returns-then-gets-at
returns-then-gets-at c = λ n inside.
    let begun = c.begun_before.ensures n inside in
    let gone = gone_from c.args.item c.args.at (first_of c.args.calls.now n) c.args.gets.now c.requires.gets.sorted
    c.if-at-gets.true c.if-gets-at.true in
    (λ lt. gone.0 (begun.0 lt), λ le. begun.1 (gone.1 le))

pub returns-else-at-gets : goal.returns-else-at-gets
returns-else-at-gets c = λ n inside.
    let none : c.args.at < length c.args.gets.now → (place c.args.gets.now c.args.at).0 ≡ c.args.item → ⊥ =
    elim c.else-at-gets.branch [
      | else-at-gets-via-then-at-gets+else-gets-at w ↦ (λ lt e. w.if-gets-at.false e)
      | else-at-gets-via-else-at-gets w ↦ (λ lt e. (let le = w.if-at-gets.false in absurd (omega (arith, lt, le))))
    ] in (
      λ _. none_gone c.args.item c.args.at (first_of c.args.calls.now n) c.args.gets.now c.requires.gets.sorted
          c.requires.behind none,
      λ _. inside,
    )
