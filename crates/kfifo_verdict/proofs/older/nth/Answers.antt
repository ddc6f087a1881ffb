use Rattle.std.proofs.Common.{ℕ, ◌≡◌, ◌+◌, sym, subst, arith}
use Rattle.kfifo_verdict.specs.Plain.{place}
use Rattle.kfifo_verdict.proofs.Ageing.{nth_found, nth_none}
use Rattle.kfifo_verdict.proofs.older.nth.Goals as goal
use Rattle.kfifo_verdict.proofs.older.nth.Goals.{else-count-numbers-via-then-count-numbers+else-numbers-below}
use Rattle.kfifo_verdict.proofs.older.nth.Goals.{else-count-numbers-via-else-count-numbers}

pub returns-then-numbers-below : goal.returns-then-numbers-below
returns-then-numbers-below c =
    let below = c.count_below-below.ensures in
    let test = c.if-count-numbers.true in
    nth_found c.args.calls.now c.args.side c.args.item c.args.count (c.count_below-below.result + c.args.count)
    c.args.numbers.now
    c.requires (omega (arith, test)) c.if-numbers-below.true (omega (arith, below))

pub returns-else-count-numbers : goal.returns-else-count-numbers
returns-else-count-numbers c =
    let numbers = c.args.numbers.now in
    let x = c.args.item in
    let below = c.count_below-below.ensures in
    nth_none c.args.calls.now c.args.side x c.args.count numbers c.requires (λ lt is.
    elim c.else-count-numbers.branch [
      | else-count-numbers-via-then-count-numbers+else-numbers-below w ↦ (
          let P : ℕ → Type 0 = λ v. (place numbers (v + c.args.count)).0 ≡ x in
          w.if-numbers-below.false (subst P (sym below) is)
          )
      | else-count-numbers-via-else-count-numbers w
          ↦ (let le = w.if-count-numbers.false in absurd (omega (arith, lt, le, below)))
    ])
