use Rattle.std.proofs.Common.{rules, Err, refl}
use Rattle.kfifo_judge.specs.declared.outcome.Outcome.TheVariants.{Answered}
use Rattle.kfifo_judge.specs.Measure.{IsMeasuringFault}
use Rattle.kfifo_judge.specs.StreamAnswers.{IsMeasureAnswer, IsSilent, IsStreamAnswer, Streams}
use Rattle.kfifo_judge.proofs.Streaming.{broken, has_read, never, refused}
use Rattle.kfifo_judge.proofs.stream_answers.measure_stream.Goals as goal

pub returns-in_err-text : goal.returns-in_err-text
returns-in_err-text g c =
    let s : Streams = record {
      given = g.R.Source.remaining c.args.source.now;
      reads = g.R.Source.failed c.args.source.now;
      reads_after = g.R.Source.failed c.read_all.new.source;
      held = g.W.Sink.contents c.args.sink.now;
      held_after = g.W.Sink.contents c.args.sink.now;
      writes = g.W.Sink.failed c.args.sink.now;
      writes_after = g.W.Sink.failed c.args.sink.now;
    } in
    let silent : IsSilent s = search rules in
    let read = has_read s c.in_ok-bytes.bytes.items c.as_slice.result.now c.as_slice.ensures.value
    c.in_ok-bytes.ensures.failures
    c.in_ok-bytes.ensures.read c.in_ok-bytes.ensures.small in
    let fault = c.in_err-text.field-0.0 in
    let answer : IsStreamAnswer (IsMeasureAnswer) (IsMeasuringFault) s (Err fault) =
    refused s (IsMeasureAnswer) (IsMeasuringFault) c.as_slice.result.now read never never silent fault
    c.in_err-text.ensures in
    search (rules, answer)

pub returns-in_err-send : goal.returns-in_err-send
returns-in_err-send g c =
    let s : Streams = record {
      given = g.R.Source.remaining c.args.source.now;
      reads = g.R.Source.failed c.args.source.now;
      reads_after = g.R.Source.failed c.read_all.new.source;
      held = g.W.Sink.contents c.args.sink.now;
      held_after = g.W.Sink.contents c.send.new.sink;
      writes = g.W.Sink.failed c.args.sink.now;
      writes_after = g.W.Sink.failed c.send.new.sink;
    } in
    let bytes = c.as_slice.result.now in
    let read = has_read s c.in_ok-bytes.bytes.items bytes c.as_slice.ensures.value c.in_ok-bytes.ensures.failures
    c.in_ok-bytes.ensures.read c.in_ok-bytes.ensures.small in
    let text = c.as_str.result.now in
    let told : IsMeasureAnswer bytes text Answered = (rw c.as_str.ensures.value c.in_ok-text.ensures, refl) in
    let fault = c.in_err-send.field-0.0 in
    let answer : IsStreamAnswer IsMeasureAnswer IsMeasuringFault s (Err fault) =
    broken s IsMeasureAnswer IsMeasuringFault bytes text Answered read told fault c.in_err-send.ensures in
    search (rules, answer)
