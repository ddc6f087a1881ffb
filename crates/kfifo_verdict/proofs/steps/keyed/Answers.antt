use Rattle.std.proofs.Common.{ℕ, ◌≡◌, ◌+◌, List, length, sym, ◌∙◌, ap, subst, arith, Some, None}
use Rattle.kfifo_model.specs.declared.calls.Call.{Call}
use Rattle.kfifo_model.specs.Histories.{effect_of}
use Rattle.kfifo_model.proofs.Checking.{read}
use Rattle.kfifo_verdict.specs.Steps.{IsKey, AreKeyed}
use Rattle.kfifo_verdict.proofs.Listing.{keyed_skip, keyed_more, of_no_item, with_no_key}
use Rattle.kfifo_verdict.proofs.steps.keyed.Goals as goal
use Rattle.kfifo_verdict.proofs.steps.keyed.Goals.{in-Some+in-Some-key_of+in_ok-push, in-Some+in_default-key_of}
use Rattle.kfifo_verdict.proofs.steps.keyed.Goals.{in_default}

pub loop-n-preserved : goal.loop-n-preserved
loop-n-preserved c =
    let h = c.args.calls.now in
    let n = c.loop-n.n in
    let side = c.args.side in
    let key = c.args.key in
    let was = c.loop-n.steps.items in
    let same = read h n _ c.loop-n-test.true in
    let P : List (ℕ × ℕ × ℕ) → Type 0 = λ steps. AreKeyed key h side (n + 1) steps in
    elim c.match-item_of.branch [
      | in-Some+in-Some-key_of+in_ok-push w ↦ (
          let S : Call → Type 0 = λ v. IsKey key side n v (Some w.in-Some-key_of.counted) in
          subst P (ap (λ v. v.items) (sym w.steps-is))
          (keyed_more key h side n w.in-Some.item w.in-Some-key_of.counted was w.push.new.self.items c.loop-n.invariant
          (ap effect_of (sym same) ∙ w.in-Some.ensures) (subst S same w.in-Some-key_of.ensures)
          w.in_ok-push.ensures.items)
          )
      | in-Some+in_default-key_of w ↦ (
          let S : Call → Type 0 = λ v. IsKey key side n v None in
          subst P (ap (λ v. v.items) (sym w.steps-is))
          (keyed_skip key h side n was c.loop-n.invariant
          (with_no_key key h side n (subst S same w.in_default-key_of.ensures)))
          )
      | in_default w ↦ subst P (ap (λ v. v.items) (sym w.steps-is))
          (keyed_skip key h side n was c.loop-n.invariant
          (of_no_item key h side n (λ x e. w.in_default.ensures x (ap effect_of same ∙ e))))
    ]

pub returns : goal.returns
returns c =
    let h = c.args.calls.now in
    let most = c.loop-n.auto.n-end in
    let least = c.loop-n-test.false in
    let all : c.loop-n.n ≡ length h = omega (arith, most, least) in
    let P : ℕ → Type 0 = λ n. AreKeyed c.args.key h c.args.side n c.loop-n.steps.items in
    subst P all c.loop-n.invariant
