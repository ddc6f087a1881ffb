use Rattle.std.proofs.Common.{refl}
use Rattle.kfifo_judge_c.specs.Reports.{IsFoundOf, IsK, IsVerdictOn}
use Rattle.kfifo_judge_c.proofs.Answering.{answered}
use Rattle.kfifo_judge_c.proofs.exports.kfifo_judge_c_calls.Goals as goal

pub returns : goal.returns
returns c =
    answered (IsK c.args.k) (IsFoundOf (IsVerdictOn c.args.k) c.args.calls.now)
    c.judge_calls.result c.hand_over.result _ _ _ _ _ _ _ _ (c.if-not-is_k.ensures.0 refl)
    c.judge_calls.ensures c.hand_over.ensures
