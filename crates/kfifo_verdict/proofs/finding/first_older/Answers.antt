use Rattle.std.proofs.Common.{List, Bool, ℕ, ◌≤◌, ◌<◌, ◌+◌, length, sym, ap, subst, arith}
use Rattle.kfifo_verdict.specs.Finding.{AreFirst, lasts_at}
use Rattle.kfifo_verdict.proofs.Younger.{first_skip, first_full, first_more}
use Rattle.kfifo_verdict.proofs.finding.first_older.Goals as goal
use Rattle.kfifo_verdict.proofs.finding.first_older.Goals.{then-len-k+then-outlasts+in_ok-push, else-len-k}
use Rattle.kfifo_verdict.proofs.finding.first_older.Goals.{else-len-k-via-then-len-k+else-outlasts}
use Rattle.kfifo_verdict.proofs.finding.first_older.Goals.{else-len-k-via-else-len-k}

pub loop-p-preserved : goal.loop-p-preserved
loop-p-preserved c =
    let p = c.loop-p.p in
    let k = c.args.k in
    let test : ℕ → Bool = λ q. lasts_at c.args.presences.now c.args.put c.args.after q in
    let long = c.len.ensures in
    let P : List ℕ → Type 0 = λ w. AreFirst test k (p + 1) w in
    elim c.if-len-k.branch [
      | then-len-k+then-outlasts+in_ok-push w ↦ (
          let lt = w.if-len-k.true in
          let room : length c.loop-p.puts.items < k = omega (arith, lt, long) in
          subst P (ap (λ v. v.items) (sym w.puts-is))
          (first_more test k p c.loop-p.puts.items w.push.new.self.items c.loop-p.invariant room
          (sym w.if-outlasts.ensures)
          w.in_ok-push.ensures.items)
          )
      | else-len-k w ↦ subst P (ap (λ v. v.items) (sym w.puts-is)) (elim w.else-len-k.branch [
        | else-len-k-via-then-len-k+else-outlasts v
            ↦ first_skip test k p c.loop-p.puts.items c.loop-p.invariant (sym v.if-outlasts.ensures)
        | else-len-k-via-else-len-k v ↦ (
            let le = v.if-len-k.false in
            let full : k ≤ length c.loop-p.puts.items = omega (arith, le, long) in
            first_full test k p c.loop-p.puts.items c.loop-p.invariant full
            )
      ])
    ]
