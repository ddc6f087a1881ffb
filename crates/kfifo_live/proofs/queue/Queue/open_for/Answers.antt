-- The table opens by the rule.
use Rattle.std.proofs.Common.{◌≡◌, replicate, ◌+◌, ◌*◌, ◌∙◌, refl, rules}
use Rattle.kfifo_live.proofs.Cuts.{opens_plain}
use Rattle.kfifo_live.proofs.queue.Queue.open_for.Goals as goal

pub of_words-requires : goal.of_words-requires
of_words-requires c =
    let zeros : c.in_ok-words.words.items ≡ replicate (2 + c.args.shape.n * c.args.shape.k) 0 = search rules in
    opens_plain _ _ (c.as_slice.ensures.value ∙ zeros) refl
