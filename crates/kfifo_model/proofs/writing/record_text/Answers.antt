use Rattle.std.proofs.Common.{◌≡◌, ◌≤◌, ◌∙◌, ap, arith, false, subst, sym}
use Rattle.std.proofs.lemmas.Str.{IsUtf8-string_bytes}
use Rattle.serde_json.specs.Data.{Data, depth}
use Rattle.serde_json.specs.View.{view}
use Rattle.serde_json.specs.Written.{compact_text, has_float}
use Rattle.kfifo_model.specs.Records.{IsRecordOf}
use Rattle.kfifo_model.specs.RecordTexts.{record_value}
use Rattle.kfifo_model.proofs.Outcomes.{ok_to}
use Rattle.kfifo_model.proofs.Recorded.{few_levels, is_record, no_float}
use Rattle.kfifo_model.proofs.writing.record_text.Goals as goal

pub returns-clause-text : goal.returns-clause-text
returns-clause-text c =
    let same : view c.in_ok-record_value.field-0 ≡ record_value c.args.history.now =
    c.in_ok-record_value.ensures ∙ ap record_value c.calls.ensures.calls in
    let plain : has_float (view c.in_ok-record_value.field-0) ≡ false = ap has_float same
    ∙ no_float c.args.history.now in
    ok_to _ _ (λ text told. told plain ∙ ap compact_text same) c.to_string.result c.to_string.ensures.text

pub returns-clause-read_back : goal.returns-clause-read_back
returns-clause-read_back c =
    let same : view c.in_ok-record_value.field-0 ≡ record_value c.args.history.now =
    c.in_ok-record_value.ensures ∙ ap record_value c.calls.ensures.calls in
    let levels = few_levels c.args.history.now in
    let depths : depth (view c.in_ok-record_value.field-0) ≤ 127 =
    subst (λ (d : Data). depth d ≤ 127) (sym same) (omega (arith, levels)) in
    ok_to _ _ (λ text told few. record {
      value = view c.in_ok-record_value.field-0;
      json = (IsUtf8-string_bytes text, told depths);
      calls = subst (λ (d : Data). IsRecordOf d c.args.history.now) (sym same)
          (is_record c.args.history.now c.calls.ensures.valid few);
      valid = c.calls.ensures.valid;
    }) c.to_string.result c.to_string.ensures.reads_back
