use Rattle.std.proofs.Common.{◌≡◌, ◌∙◌, List, ℕ, ap}
use Rattle.std.specs.Prelude.{string_bytes}
use Rattle.std.proofs.lemmas.Result.{IfOk-weaker}
use Rattle.kfifo_judge.specs.Reports.{fault_report}
use Rattle.kfifo_cli_texts.specs.Faults.{fault_text}
use Rattle.kfifo_cli_commands.specs.FileVerdicts.{fault_said, named_line}
use Rattle.kfifo_cli_commands.proofs.file_line.fault_line.Goals as goal

pub returns-then-options : goal.returns-then-options
returns-then-options c = IfOk-weaker c.fault_report.result _ _ (λ text told.
    let fault : c.as_str.result.now ≡ fault_text c.args.failure.now.fault = c.as_str.ensures.value
    ∙ c.in_ok-fault.ensures in
    let is : string_bytes text ≡ fault_report c.args.name.now (fault_text c.args.failure.now.fault)
    c.as_str-then-options.result.now =
    told ∙ ap (λ (f : List ℕ). fault_report c.args.name.now f c.as_str-then-options.result.now) fault in
    rw c.if-options.true (c.as_str-then-options.result.now, is))
    c.fault_report.ensures

pub returns : goal.returns
returns c = IfOk-weaker c.named_line.result _ _ (λ text told.
    let fault : c.as_str-2.result.now ≡ fault_text c.args.failure.now.fault = c.as_str-2.ensures.value
    ∙ c.in_ok-fault.ensures in
    let said : c.as_str-4.result.now ≡ fault_said (fault_text c.args.failure.now.fault) c.as_str-3.result.now =
    c.as_str-4.ensures.value ∙ (c.in_ok-said.ensures ∙ ap (λ (f : List ℕ). fault_said f c.as_str-3.result.now) fault) in
    let is : string_bytes text
    ≡ named_line c.args.name.now (fault_said (fault_text c.args.failure.now.fault) c.as_str-3.result.now) =
    told ∙ ap (named_line c.args.name.now) said in
    rw c.if-options.false (c.as_str-3.result.now, is))
    c.named_line.ensures
