use Rattle.std.specs.Prelude.{⊤}
use Rattle.kfifo_judge_c.specs.Reports.{IsFoundOf, IsLeastOn}
use Rattle.kfifo_judge_c.proofs.Answering.{answered}
use Rattle.kfifo_judge_c.proofs.exports.kfifo_judge_c_least.Goals as goal

pub returns : goal.returns
returns c =
    answered ⊤ (IsFoundOf IsLeastOn c.args.calls.now)
    c.least_of_calls.result c.hand_over.result _ _ _ _ _ _ _ _ tt
    c.least_of_calls.ensures c.hand_over.ensures
