use Rattle.std.proofs.Common.{[], ◌∙◌, sym}
use Rattle.csv.specs.Reading.{strip_bom}
use Rattle.kfifo_import.proofs.Readers.{all_held, reading_head, then_err, then_ok}
use Rattle.kfifo_import.proofs.reader.LogReader.flush.Goals as goal

pub returns-in-Some-clause-ok : goal.returns-in-Some-clause-ok
returns-in-Some-clause-ok c =
    then_ok c.feed.result _ _ (rw c.as_slice.ensures.value at c.feed.ensures.ok)
    (λ ok text is.
    ok (strip_bom text) [] (all_held c.args.self.now _ text c.in-Some.head.items
    (reading_head (λ held. held.items) c.args.self.now.head c.in-Some.head c.args.self.now text []
    (sym c.take.ensures.value ∙ c.in-Some.is) is)))

pub returns-in-Some-clause-err : goal.returns-in-Some-clause-err
returns-in-Some-clause-err c =
    then_err c.feed.result _ _ (rw c.as_slice.ensures.value at c.feed.ensures.err)
    (λ refusal says text is.
    says (strip_bom text) [] (all_held c.args.self.now _ text c.in-Some.head.items
    (reading_head (λ held. held.items) c.args.self.now.head c.in-Some.head c.args.self.now text []
    (sym c.take.ensures.value ∙ c.in-Some.is) is)))
