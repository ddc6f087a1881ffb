-- The table opens by the rule, with an empty slot for each token.
use Rattle.std.proofs.Common.{◌≡◌, replicate, ◌+◌, ◌*◌, ◌∙◌, rules}
use Rattle.kfifo_live.proofs.Cuts.{opens}
use Rattle.kfifo_live.proofs.payload.PayQueue.open_for.Goals as goal

pub vacant-requires : goal.vacant-requires
vacant-requires g c =
    let zeros : c.in_ok-words.words.items ≡ replicate (2 + c.args.shape.n * c.args.shape.k) 0 = search rules in
    opens _ _ (c.as_slice.ensures.value ∙ zeros)
