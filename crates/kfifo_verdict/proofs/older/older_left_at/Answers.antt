use Rattle.std.proofs.Common.{subst}
use Rattle.kfifo_model.specs.declared.calls.Call.{Call}
use Rattle.kfifo_model.proofs.Checking.{read}
use Rattle.kfifo_verdict.specs.Finding.{IsStart}
use Rattle.kfifo_verdict.proofs.Ageing.{older_tells, left_none, left_found}
use Rattle.kfifo_verdict.proofs.older.older_left_at.Goals as goal

pub returns-in_default-clause-older : goal.returns-in_default-clause-older
returns-in_default-clause-older c = λ o. let q = older_tells c.args.calls.now c.args.k c.args.n o in
    c.in_default.ensures q.0 q.1

pub returns-then-count_older-k-clause-older : goal.returns-then-count_older-k-clause-older
returns-then-count_older-k-clause-older c =
    let h = c.args.calls.now in
    let n = c.args.n in
    let after = c.first_after-after.result in
    let B : Call → Type 0 = λ w. IsStart h w.end after in
    left_none h c.args.copies.now n c.in-Some.put after c.args.k c.count_older.result c.requires.history
    c.requires.copies
    (subst B (read h n _ c.requires.inside) c.first_after-after.ensures) c.in-Some.ensures c.count_older.ensures.counted
    c.if-count_older-k.true

pub returns-clause-older : goal.returns-clause-older
returns-clause-older c =
    let h = c.args.calls.now in
    let n = c.args.n in
    let after = c.first_after-after.result in
    let B : Call → Type 0 = λ w. IsStart h w.end after in
    left_found h c.args.copies.now n c.in-Some.put after c.args.k c.count_older.result c.in_ok-first_older.field-0.items
    c.requires.copies
    (subst B (read h n _ c.requires.inside) c.first_after-after.ensures) c.in-Some.ensures c.count_older.ensures.counted
    c.if-count_older-k.false c.in_ok-first_older.ensures
