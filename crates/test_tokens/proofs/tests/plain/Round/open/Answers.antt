-- The pass and all tokens are of the queue.
use Rattle.std.proofs.Common.{◌≡◌, ℕ, zero, suc, All, Some, ap, refl, subst, sym, arith}
use Rattle.std.proofs.lemmas.List.Elements.{All-pop}
use Rattle.kfifo_live.specs.declared.view.Opening.{Opening}
use Rattle.kfifo_live.specs.Pass.{IsPassOf, OpenQueue}
use Rattle.kfifo_live.specs.Payloads.{PayPassView, TokenView}
use Rattle.kfifo_live.specs.Tokens.{TokenHandleView, tokens_from}
use Rattle.test_tokens.proofs.tests.plain.Round.open.Goals as goal

all_of : (q : OpenQueue) (first count : ℕ) → All (λ (t : TokenView). t.queue ≡ q) (tokens_from q first count)
all_of q first zero k d less = absurd (omega (arith, less))
all_of q first (suc count) zero d less = refl
all_of q first (suc count) (suc k) d less = all_of q (suc first) count k d (omega (arith, less))

pub invariant_of-result : goal.invariant_of-result
invariant_of-result c =
    let q = c.in_ok-queue.queue in
    let of = All-pop (λ (p : PayPassView (Unit {0})). IsPassOf q p.pass) _ _ (Some c.in-Some.pass)
    c.in-Some.ensures.items
    c.in_ok-queue.ensures.of in (
      subst (IsPassOf q) (sym (ap (λ (h : TokenHandleView (Unit {0})). h.pass.pass) c.new-handle.ensures)) of.1,
      ap (λ (o : Opening). o.bare) c.in_ok-queue.ensures.opened,
      subst (All (λ (t : TokenView). t.queue ≡ q)) (sym c.in_ok-queue.ensures.tokens) (all_of q 1 _),
    )
