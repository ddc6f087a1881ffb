use Rattle.std.proofs.Common.{◌++◌, ◌∙◌, sym}
use Rattle.csv.specs.Reading.{strip_bom}
use Rattle.kfifo_import.proofs.Readers.{aside, reading_head, reading_plain, then_err, then_ok}
use Rattle.kfifo_import.proofs.reader.LogReader.take.Goals as goal

pub returns-in-Some-clause-ok : goal.returns-in-Some-clause-ok
returns-in-Some-clause-ok c =
    then_ok c.take_head.result _ _ c.take_head.ensures.ok
    (λ ok text more is.
    let held = reading_head (λ held. held.items) c.args.self.now.head c.in-Some.head c.args.self.now text
    (c.args.piece.now ++ more) (sym c.take.ensures.value ∙ c.in-Some.is) is in
    ok text more held.0 (λ any. aside c.args.self.now _ any any (held.2 any)))

pub returns-in-Some-clause-err : goal.returns-in-Some-clause-err
returns-in-Some-clause-err c =
    then_err c.take_head.result _ _ c.take_head.ensures.err
    (λ refusal says text more is.
    let held = reading_head (λ held. held.items) c.args.self.now.head c.in-Some.head c.args.self.now text
    (c.args.piece.now ++ more) (sym c.take.ensures.value ∙ c.in-Some.is) is in
    says text more held.0 (λ any. aside c.args.self.now _ any any (held.2 any)))

pub returns-in-None-clause-err : goal.returns-in-None-clause-err
returns-in-None-clause-err c =
    then_err c.feed.result _ _ c.feed.ensures.err
    (λ refusal says text more is.
    let plain = reading_plain (λ held. held.items) c.args.self.now.head c.args.self.now text (c.args.piece.now ++ more)
    (sym c.take.ensures.value ∙ c.in-None.is) is in
    says (strip_bom text) more (aside c.args.self.now _ (strip_bom text) (c.args.piece.now ++ more) plain))
