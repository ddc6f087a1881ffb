use Rattle.std.proofs.Common.{sym, subst, ◌≡◌, ℕ}
use Rattle.kfifo_model.specs.Histories.{IsLegal}
use Rattle.kfifo_model.specs.Ranks.{ranks_of}
use Rattle.kfifo_judge.specs.Numbers.{greatest}
use Rattle.kfifo_judge.proofs.Ranking.{none_passed}
use Rattle.kfifo_judge.proofs.judgement.worst_rank.Goals as goal

pub returns-then-k-eq1 : goal.returns-then-k-eq1
returns-then-k-eq1 c =
    let h = c.args.history.now in
    let order = c.args.order.now in
    let one = c.if-k-eq1.true in
    let legal : IsLegal 1 h order = subst (λ (k : ℕ). IsLegal k h order) one c.requires.legal in
    subst (λ (k : ℕ). 0 ≡ greatest (ranks_of k h order)) (sym one) (sym (none_passed h order legal))
