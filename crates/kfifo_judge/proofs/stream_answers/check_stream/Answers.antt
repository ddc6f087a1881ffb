use Rattle.std.proofs.Common.{rules, option_map, Err}
use Rattle.kfifo_judge.specs.Check.{IsCheckFault, IsChecked}
use Rattle.kfifo_judge.specs.StreamAnswers.{IsSilent, IsStreamAnswer, Streams}
use Rattle.kfifo_judge.proofs.Streaming.{has_read, never, refused}
use Rattle.kfifo_judge.proofs.stream_answers.check_stream.Goals as goal

pub returns-in_err-text : goal.returns-in_err-text
returns-in_err-text g c =
    let s : Streams = record {
      given = g.R.Source.remaining c.args.source.now;
      reads = g.R.Source.failed c.args.source.now;
      reads_after = g.R.Source.failed c.read_all.new.source;
      held = g.W.Sink.contents c.args.sink.now;
      held_after = g.W.Sink.contents c.args.sink.now;
      writes = g.W.Sink.failed c.args.sink.now;
      writes_after = g.W.Sink.failed c.args.sink.now;
    } in
    let silent : IsSilent s = search rules in
    let read = has_read s c.in_ok-bytes.bytes.items c.as_slice.result.now c.as_slice.ensures.value
    c.in_ok-bytes.ensures.failures
    c.in_ok-bytes.ensures.read c.in_ok-bytes.ensures.small in
    let fault = c.in_err-text.field-0.0 in
    let answer : IsStreamAnswer (IsChecked c.args.k (option_map (λ s. s.now) c.args.order))
    (IsCheckFault (option_map (λ s. s.now) c.args.order)) s (Err fault) =
    refused s (IsChecked c.args.k (option_map (λ s. s.now) c.args.order))
    (IsCheckFault (option_map (λ s. s.now) c.args.order)) c.as_slice.result.now read never never silent fault
    c.in_err-text.ensures in
    search (rules, answer)
