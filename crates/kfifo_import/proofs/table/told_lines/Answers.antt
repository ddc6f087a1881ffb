use Rattle.std.proofs.Common.{[], ◌∙◌}
use Rattle.csv.specs.Reading.{strip_bom}
use Rattle.kfifo_import.proofs.Readers.{begun, handed, plain_reading, then_err, then_lines}
use Rattle.kfifo_import.proofs.table.told_lines.Goals as goal

pub returns-in_err-feed-clause-err : goal.returns-in_err-feed-clause-err
returns-in_err-feed-clause-err c =
    let text = strip_bom c.args.text.now in
    let told = c.in_err-feed.ensures.err text []
    (begun c.plain-reader.result text c.without_mark.result.now c.without_mark.ensures c.plain-reader.ensures.reads) in
    handed c.from_residual.result c.in_err-feed.field-0.0 _ c.from_residual.ensures.1
    (rw c.plain-reader.ensures.most at told.0)

pub returns-in_err-feed-clause-wrong : goal.returns-in_err-feed-clause-wrong
returns-in_err-feed-clause-wrong c =
    let text = strip_bom c.args.text.now in
    let told = c.in_err-feed.ensures.err text []
    (begun c.plain-reader.result text c.without_mark.result.now c.without_mark.ensures c.plain-reader.ensures.reads) in
    handed c.from_residual.result c.in_err-feed.field-0.0 _ c.from_residual.ensures.1 told.1

pub returns-clause-few : goal.returns-clause-few
returns-clause-few c =
    let text = c.args.text.now in
    let read = c.in_ok-feed.ensures.ok (strip_bom text) []
    (begun c.plain-reader.result (strip_bom text) c.without_mark.result.now c.without_mark.ensures
    c.plain-reader.ensures.reads) in
    let reading = plain_reading (λ held. held.items) c.feed.new.self.head c.feed.new.self text []
    (c.in_ok-feed.ensures.same.1 ∙ c.plain-reader.ensures.none) read in
    then_lines c.ended.result _ _ c.ended.ensures.ok
    (λ both says. rw (c.in_ok-feed.ensures.same.0, c.plain-reader.ensures.most) at (says text reading).1)

pub returns-clause-err : goal.returns-clause-err
returns-clause-err c =
    let text = c.args.text.now in
    let read = c.in_ok-feed.ensures.ok (strip_bom text) []
    (begun c.plain-reader.result (strip_bom text) c.without_mark.result.now c.without_mark.ensures
    c.plain-reader.ensures.reads) in
    let reading = plain_reading (λ held. held.items) c.feed.new.self.head c.feed.new.self text []
    (c.in_ok-feed.ensures.same.1 ∙ c.plain-reader.ensures.none) read in
    then_err c.ended.result _ _ c.ended.ensures.err
    (λ refusal says. rw (c.in_ok-feed.ensures.same.0, c.plain-reader.ensures.most) at (says text reading).0)
