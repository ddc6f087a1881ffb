use Rattle.std.proofs.Common.{◌≡◌, ◌∙◌, ap, false, option_map, string_bytes}
use Rattle.serde_json.specs.Data.{Data}
use Rattle.serde_json.specs.View.{view}
use Rattle.serde_json.specs.Written.{compact_text, has_float}
use Rattle.kfifo_model.specs.RecordTexts.{line}
use Rattle.kfifo_judge.specs.Reports.{report_value}
use Rattle.kfifo_judge.proofs.Reporting.{no_float}
use Rattle.kfifo_judge.proofs.report.judge_report.Goals as goal

pub returns : goal.returns
returns c =
    let judged = c.in_ok-judged.judged in
    let value : Data = report_value (option_map (λ t. t.now) c.args.file) c.args.k c.args.show c.args.logged.now
    c.args.history.now judged in
    let same : view c.in_ok-value.value ≡ value = c.in_ok-value.ensures in
    let plain : has_float (view c.in_ok-value.value) ≡ false = ap has_float same
    ∙ no_float _ c.args.k c.args.show c.args.logged.now c.args.history.now judged in
    let written : string_bytes c.in_ok-text.text ≡ line (compact_text (view c.in_ok-value.value)) =
    c.in_ok-text.ensures plain in
    (judged, c.in_ok-judged.ensures, written ∙ ap (λ (d : Data). line (compact_text d)) same, c.outcome_of.ensures)
