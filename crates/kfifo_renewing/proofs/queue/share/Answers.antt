-- The first generation was the newest, and is shown in its place.
use Rattle.std.proofs.Common.{◌≡◌, ◌<◌, ◌≤◌, ◌-◌, ℕ, arith, length, sym, ap, ◌∙◌, subst}
use Rattle.std.specs.Prelude.{◌==◌, ◌&&◌, not}
use Rattle.std.proofs.lemmas.Bool.Decides.{nat_tests}
use Rattle.kfifo_renewing.specs.History.{WasNewest, made, opens_more}
use Rattle.kfifo_renewing.specs.Renewing.{AreInRange, Numbered}
use Rattle.kfifo_renewing.specs.declared.places.Lineage.{Lineage}
use Rattle.kfifo_renewing.specs.declared.queue.TheConstants.{NO_RENEWAL}
use Rattle.kfifo_renewing.proofs.Histories.{made-some, was_first}
use Rattle.kfifo_renewing.proofs.queue.share.Goals as goal

one-less : (n : ℕ) → 1 ≤ n → (n == 1) ≡ (n - 1 == 0)
one-less n some = grind (arith, nat_tests)

pub find-requires-clause-newest : goal.find-requires-clause-newest
find-requires-clause-newest g c =
    let log = c.again-history.result.log in
    subst (WasNewest log) (sym (c.number-number.ensures ∙ ap (λ (v : Numbered). v.number) c.deref-3.ensures
    ∙ c.requires.first)) (was_first log)

pub invariant_of-shared : goal.invariant_of-shared
invariant_of-shared g c =
    let r = c.args.plan.renewals in
    let same = c.in_ok-places.ensures in
    let own = c.again.ensures in
    let log : c.in_ok-places.places.history.log ≡ c.history.result.now.log =
    ap (λ (l : Lineage). l.history.log) same ∙ ap (λ h. h.log) own in
    let seen = log ∙ c.history.ensures.book.1 ∙ ap (λ (v : Numbered). v.seen) c.deref.ensures in
    let one : (r.generations == 1) ≡ (r.generations - 1 == 0) = one-less r.generations c.requires.plan.1 in (
      c.requires.numbers.0 ∙ sym (ap (λ (l : Lineage). l.history.book) same ∙ ap (λ h. h.book) own
          ∙ c.history.ensures.book.0 ∙ ap (λ (v : Numbered). v.book) c.deref.ensures),
      subst AreInRange (sym (ap (λ (l : Lineage). l.sizes) same)) c.requires.plan.0,
      ap opens_more seen ∙ c.requires.more ∙ ap (λ b. not ((r.reserve == NO_RENEWAL) && b)) one,
      subst (λ l. 0 < length (made l)) (sym log) (made-some c.history.result.now.log _ _ c.history.ensures.made),
    )
