use Rattle.std.proofs.Common.{◌≡◌, ◌≤◌, ◌++◌, inr, refl, arith, string_bytes, subst}
use Rattle.kfifo_replay.specs.Traces.{IsTrace}
use Rattle.kfifo_cli_texts.specs.TraceLines.{trace_lines}
use Rattle.kfifo_cli_commands.proofs.EventLines.{is_long, is_traced}
use Rattle.kfifo_cli_commands.proofs.tracing.text_of.Goals as goal

pub returns-then-count-clause-err : goal.returns-then-count-clause-err
returns-then-count-clause-err c = inr (inr (
  refl,
  λ scripts picks stands.
      is_long c.args.shape scripts picks c.count.result (c.count.ensures c.args.shape scripts picks stands)
      c.args.replay.now stands
      (omega (arith, c.if-count.true)),
))

pub returns-clause-ok : goal.returns-clause-ok
returns-clause-ok c scripts picks stands =
    let counted = c.count.ensures c.args.shape scripts picks stands in
    let trace = subst (λ most. IsTrace c.args.shape scripts picks most c.steps.result.now) c.requires
    (c.steps.ensures c.args.shape scripts picks stands) in
    let few : c.count.result ≤ 65536 = omega (arith, c.if-count.false) in
    let reported = c.in_ok-report.ensures.ok c.args.shape scripts picks stands in
    let is : string_bytes c.push_str.new.self ≡ trace_lines c.args.shape.k 0 c.steps.result.now
    ++ string_bytes c.in_ok-report.report =
    rw (
      c.in_ok-push_str.ensures.bytes,
      c.in_ok-push_trace.ensures,
      c.new-text.ensures.bytes,
      c.k.ensures,
      c.as_str.ensures.value,
    ) refl in
    is_traced c.args.shape scripts picks c.count.result counted c.steps.result.now trace few c.args.options.now.points
    c.args.options.now.stopped
    (string_bytes c.in_ok-report.report) (string_bytes c.push_str.new.self) reported is
