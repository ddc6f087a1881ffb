use Rattle.std.proofs.Common.{◌≡◌, ◌≤◌, ◌∙◌, List, MatchResult, None, length, subst, sym}
use Rattle.std.specs.Prelude.{position}
use Rattle.kfifo_import.specs.declared.log.Line.{Line}
use Rattle.kfifo_import.specs.Foreign.{IsFaultToJudge, IsLogToJudge}
use Rattle.kfifo_import.specs.declared.log.TheConstants.{MAX_LOG_CALLS}
use Rattle.kfifo_judge_c.specs.Lines.{is_unknown}
use Rattle.kfifo_judge_c.proofs.Logs.{all_known, few, of_calls}
use Rattle.kfifo_judge_c.proofs.calls.log_from.Goals as goal
use Rattle.kfifo_judge_c.proofs.calls.log_from.Goals.{in-Some+else-place-lt-MAX_LOG_CALLS, in_default}

pub log_to_judge-requires : goal.log_to_judge-requires
log_to_judge-requires c =
    subst (λ (lines : List Line). length lines ≤ MAX_LOG_CALLS) (sym c.in_ok-lines.ensures)
    (few c.args.calls.now c.if-calls-gt-MAX_LOG_CALLS.false)

pub returns : goal.returns
returns c =
    let calls = c.args.calls.now in
    let known : position is_unknown calls ≡ None = elim c.match-first_unknown.branch [
      | in-Some+else-place-lt-MAX_LOG_CALLS w
          ↦ all_known calls w.in-Some.place (sym c.first_unknown.ensures ∙ w.in-Some.is)
          w.if-place-lt-MAX_LOG_CALLS.false c.if-calls-gt-MAX_LOG_CALLS.false
      | in_default w ↦ sym c.first_unknown.ensures ∙ w.in_default.is
    ] in
    let S : List Line → Type 0 = λ lines. MatchResult c.log_to_judge.result
    (λ log. IsLogToJudge lines log.history log.calls.items) (IsFaultToJudge lines) in
    of_calls calls c.log_to_judge.result known (subst S c.in_ok-lines.ensures c.log_to_judge.ensures)
