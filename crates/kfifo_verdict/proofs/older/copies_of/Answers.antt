use Rattle.std.proofs.Common.{ℕ, ◌≡◌, length, subst, arith}
use Rattle.kfifo_verdict.specs.Older.{AreCopies}
use Rattle.kfifo_verdict.proofs.Ageing.{copies_more}
use Rattle.kfifo_verdict.proofs.older.copies_of.Goals as goal

pub loop-p-preserved : goal.loop-p-preserved
loop-p-preserved c =
    copies_more c.args.calls.now c.loop-p.p c.loop-p.copies.items c.push.new.self.items c.copy_of.result
    c.loop-p.invariant
    c.copy_of.ensures c.in_ok-push.ensures.items

pub returns : goal.returns
returns c =
    let most = c.loop-p.auto.p-end in
    let least = c.loop-p-test.false in
    let all : c.loop-p.p ≡ length c.args.calls.now = omega (arith, most, least) in
    let P : ℕ → Type 0 = λ w. AreCopies c.args.calls.now w c.loop-p.copies.items in
    subst P all c.loop-p.invariant
