-- The table opens by the rule, with an empty slot for each token.
use Rattle.std.proofs.Common.{◌≡◌, All, replicate, subst, sym, ◌+◌, ◌*◌, ◌∙◌, rules}
use Rattle.kfifo_live.specs.Pass.{IsPassOf, queue_of}
use Rattle.kfifo_live.specs.Tokens.{new_token_passes, token_opening}
use Rattle.kfifo_live.proofs.Cuts.{opens}
use Rattle.kfifo_live.proofs.Minting.{token_passes_of_new}
use Rattle.kfifo_live.proofs.NewPasses.{zeroed}
use Rattle.kfifo_live.proofs.tokens.TokenQueue.open_as.Goals as goal

pub vacant-requires : goal.vacant-requires
vacant-requires g c =
    let zeros : c.in_ok-words.words.items ≡ replicate (2 + c.args.shape.n * c.args.shape.k) 0 = search rules in
    opens _ _ (c.as_slice.ensures.value ∙ zeros)

pub returns-clause-of : goal.returns-clause-of
returns-clause-of g c =
    let q = queue_of c.in_ok-table.table.shared.table_id (token_opening c.args.bare c.args.shape c.args.threads
    c.args.tokens) in
    let are : c.in_ok-passes.passes.items ≡ new_token_passes q 0 c.args.threads = search rules in
    subst (All (λ p. IsPassOf q p.pass)) (sym are) (token_passes_of_new q 0 c.args.threads)

pub returns-clause-zeroed : goal.returns-clause-zeroed
returns-clause-zeroed g c = zeroed (token_opening c.args.bare c.args.shape c.args.threads c.args.tokens)
