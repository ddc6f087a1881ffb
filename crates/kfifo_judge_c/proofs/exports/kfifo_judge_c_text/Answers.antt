use Rattle.std.proofs.Common.{refl}
use Rattle.kfifo_judge_c.specs.Reports.{IsK}
use Rattle.kfifo_judge_c.specs.Texts.{IsFoundOfText}
use Rattle.kfifo_judge_c.proofs.Answering.{answered}
use Rattle.kfifo_judge_c.proofs.exports.kfifo_judge_c_text.Goals as goal

pub returns : goal.returns
returns c =
    answered (IsK c.args.k) (IsFoundOfText c.args.k c.args.bytes.now)
    c.judge_bytes.result c.hand_over.result _ _ _ _ _ _ _ _ (c.if-not-is_k.ensures.0 refl)
    c.judge_bytes.ensures c.hand_over.ensures
