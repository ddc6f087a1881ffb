use Rattle.std.proofs.Common.{List, length, sym, subst}
use Rattle.kfifo_verdict.proofs.Types.{Call, Presence}
use Rattle.kfifo_model.proofs.Checking.{read}
use Rattle.kfifo_verdict.specs.Evidence.{count_below}
use Rattle.kfifo_verdict.specs.Finding.{IsStart, ArePresences, IsCountedTo, lasts_at, AreFirst}
use Rattle.kfifo_verdict.proofs.Younger.{young_none, young_found}
use Rattle.kfifo_verdict.proofs.finding.too_young_at.Goals as goal

pub returns-then-count_older-k-clause-young : goal.returns-then-count_older-k-clause-young
returns-then-count_older-k-clause-young c =
    let h = c.args.calls.now in
    let n = c.args.n in
    let ps = c.deref.result.now in
    let after = c.first_after-after.result in
    let A : List Presence → Type 0 = λ w. ArePresences h (length h) w in
    let B : Call → Type 0 = λ w. IsStart h w.end after in
    young_none h ps n c.in-Some.put after c.args.k c.count_older.result c.requires.history
    (subst A (sym c.deref.ensures.value) c.requires.items.presences)
    (subst B (read h n _ c.requires.inside) c.first_after-after.ensures) c.in-Some.ensures c.count_older.ensures.counted
    c.if-count_older-k.true

pub returns-clause-young : goal.returns-clause-young
returns-clause-young c =
    let h = c.args.calls.now in
    let n = c.args.n in
    let ps = c.args.items.now.presences.items in
    let put = c.in-Some.put in
    let after = c.first_after-after.result in
    let B : Call → Type 0 = λ w. IsStart h w.end after in
    let C : List Presence
    → Type 0 = λ w. IsCountedTo c.args.k (count_below (lasts_at w put after) put) c.count_older.result in
    let F : List Presence
    → Type 0 = λ w. AreFirst (lasts_at w put after) c.args.k put c.in_ok-first_older.field-0.items in
    young_found h ps n put after c.args.k c.count_older.result c.in_ok-first_older.field-0.items
    c.requires.items.presences
    (subst B (read h n _ c.requires.inside) c.first_after-after.ensures) c.in-Some.ensures
    (subst C c.deref.ensures.value c.count_older.ensures.counted) c.if-count_older-k.false
    (subst F c.deref-2.ensures.value c.in_ok-first_older.ensures)
