use Rattle.std.proofs.Common.{rules, sym, ◌∙◌, ◌≡◌, true, false, is_some}
use Rattle.std.specs.Result.{is_ok}
use Rattle.kfifo_import.specs.Stamping.{end_at}
use Rattle.kfifo_import.proofs.Ending.{no_end, one_end}
use Rattle.kfifo_import.proofs.ends.finished.Goals as goal
use Rattle.kfifo_import.proofs.ends.finished.Goals.{then-has_ended+in_ok-push, else-has_ended}

pub loop-number-preserved : goal.loop-number-preserved
loop-number-preserved c =
    let calls = c.args.calls.now in
    let n = c.loop-number.number in
    elim c.if-has_ended.branch [
      | then-has_ended+in_ok-push w ↦
          let good : is_ok w.push.result ≡ true = search rules in
          let items = rw good at w.push.ensures.items in
          let is : is_some (end_at calls n) ≡ true = sym c.has_ended.ensures ∙ w.if-has_ended.true in
          rw (w.ends-is, items, w.last_at-time.ensures)
          (one_end calls c.loop-number.ends.items n c.loop-number-test.true c.loop-number.invariant is)
      | else-has_ended w ↦
          let is : is_some (end_at calls n) ≡ false = sym c.has_ended.ensures ∙ w.if-has_ended.false in
          rw w.ends-is (no_end calls c.loop-number.ends.items n c.loop-number-test.true c.loop-number.invariant is)
    ]
