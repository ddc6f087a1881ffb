-- The reader has read both pieces.
use Rattle.std.proofs.Common.{◌++◌, [], ◌∙◌}
use Rattle.test_judge.proofs.tests.import.judge_pieces.Goals as goal

pub log_to_judge-requires-clause-reading : goal.log_to_judge-requires-clause-reading
log_to_judge-requires-clause-reading c =
    let second = c.args.second.now in
    let text = c.args.first.now ++ (second ++ []) in
    let after_first = c.in_ok-take.ensures.ok text (second ++ []) (c.new-reader.ensures.reads text) in
    (text, c.in_ok-take-2.ensures.ok text [] after_first)

pub log_to_judge-requires-clause-most : goal.log_to_judge-requires-clause-most
log_to_judge-requires-clause-most c = c.in_ok-take-2.ensures.same ∙ c.in_ok-take.ensures.same
    ∙ c.new-reader.ensures.most
