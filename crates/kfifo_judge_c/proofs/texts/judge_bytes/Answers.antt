use Rattle.std.proofs.Common.{◌≡◌, false, true}
use Rattle.kfifo_judge.specs.Inputs.{BeginsRecord}
use Rattle.kfifo_judge_c.proofs.Refusing.{unjudged}
use Rattle.kfifo_judge_c.proofs.texts.judge_bytes.Goals as goal

pub returns-in-Err-read_log_to_judge : goal.returns-in-Err-read_log_to_judge
returns-in-Err-read_log_to_judge c =
    let no_record : ¬ (BeginsRecord c.args.bytes.now) = λ begins.
    let h : false ≡ true = c.if-begins_record.ensures.1 begins in cc in
    unjudged c.args.k c.args.bytes.now c.in-Err-read_log_to_judge.refusal.fault no_record
    c.in-Err-read_log_to_judge.ensures.read c.fault_report.result c.fault_report.ensures
