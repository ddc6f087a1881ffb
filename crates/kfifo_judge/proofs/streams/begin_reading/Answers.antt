use Rattle.std.proofs.Common.{rules, ◌≡◌, ◌∙◌, ◌++◌, subst, take}
use Rattle.std.proofs.KnownBytes.{Consumes-trans}
use Rattle.kfifo_judge.specs.Inputs.{IsLongRecord}
use Rattle.kfifo_judge.proofs.Reading.{long_read}
use Rattle.kfifo_judge.proofs.streams.begin_reading.Goals as goal

pub returns-then-is_long_record-clause-too_long : goal.returns-then-is_long_record-clause-too_long
returns-then-is_long_record-clause-too_long g c = λ _.
    let came = Consumes-trans _ _ _ _ _ c.pieces.invariant.came c.in-Ok.ensures.bytes.0 in
    let long : IsLongRecord c.as_slice-in-pieces-2.result.now = c.is_long_record.ensures.0 c.if-is_long_record.true in
    let grown : c.extend_from_slice.new.self.items ≡ c.pieces.bytes.items ++ take c.in-Ok.count c.read.new.piece =
    search rules in
    long_read _ _ _ came (subst IsLongRecord (c.as_slice-in-pieces-2.ensures.value ∙ grown) long)
