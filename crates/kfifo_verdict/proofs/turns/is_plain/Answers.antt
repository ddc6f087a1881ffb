use Rattle.std.proofs.Common.{ℕ, length, sym, ◌∙◌, ap, subst, refl, arith, Option}
use Rattle.std.proofs.lemmas.Bool.{false≢true}
use Rattle.kfifo_verdict.proofs.Types.{End, Tally}
use Rattle.kfifo_model.specs.Histories.{effect_of, HasEnd}
use Rattle.kfifo_model.proofs.Checking.{read}
use Rattle.kfifo_model.specs.declared.effects.Side.TheVariants.{In, Out}
use Rattle.kfifo_verdict.specs.Evidence.{IsSingle}
use Rattle.kfifo_verdict.specs.Finding.{IsTally, has_item, first_of}
use Rattle.kfifo_verdict.proofs.ItemPresence.{same_put}
use Rattle.kfifo_verdict.proofs.Telling.{single_from, single_put_once, single_got_once}
use Rattle.kfifo_verdict.proofs.Lining.{has_end, plain_more, plain_all}
use Rattle.kfifo_verdict.proofs.turns.is_plain.Goals as goal
use Rattle.kfifo_verdict.proofs.turns.is_plain.Goals.{then-tally_of-ne1-via-then-tally_of-ne1}
use Rattle.kfifo_verdict.proofs.turns.is_plain.Goals.{then-tally_of-ne1-via-else-tally_of-ne1+then-tally_of-gt1}
use Rattle.kfifo_verdict.proofs.turns.is_plain.Goals.{in-Adds+else-tally_of-ne1+else-tally_of-gt1, in_default}

pub returns-then-tally_of-ne1 : goal.returns-then-tally_of-ne1
returns-then-tally_of-ne1 c =
    let h = c.args.calls.now in
    let n = c.loop-n.n in
    let item = c.in-Adds.item in
    let is = ap effect_of (sym (read h n _ c.loop-n-test.true)) ∙ sym c.in-Adds.ensures in
    let P : Tally → Type 0 = λ t. IsTally (has_item In h item) (first_of h) (length h) t in
    let G : Tally → Type 0 = λ t. IsTally (has_item Out h item) (first_of h) (length h) t in
    let put = subst P (sym c.tally_of.ensures) (c.requires.puts item) in (
      λ t. absurd (false≢true t),
      λ plain. absurd (elim c.then-tally_of-ne1.branch [
        | then-tally_of-ne1-via-then-tally_of-ne1 w ↦
            w.if-tally_of-ne1.true (single_put_once h item n c.tally_of.result put (plain.0 item n is))
        | then-tally_of-ne1-via-else-tally_of-ne1+then-tally_of-gt1 w ↦ (
            let got = subst G (sym w.tally_of-else-tally_of-ne1.ensures) (c.requires.gets item) in
            let more = w.if-tally_of-gt1.true in
            let le = single_got_once h item n w.tally_of-else-tally_of-ne1.result got (plain.0 item n is) in
            omega (arith, more, le)
            )
      ]),
    )

pub loop-n-preserved : goal.loop-n-preserved
loop-n-preserved c =
    let h = c.args.calls.now in
    let n = c.loop-n.n in
    let same = ap effect_of (sym (read h n _ c.loop-n-test.true)) in
    plain_more h n c.loop-n.invariant (let E : Option End
    → Type 0 = λ o. HasEnd o in subst E (ap (λ w. w.end) (read h n _ c.loop-n-test.true))
    (has_end _ c.is_none.result c.is_none.ensures c.if-is_none.false)) (λ x a. elim c.match-effect.branch [
      | in-Adds+else-tally_of-ne1+else-tally_of-gt1 w ↦ (
          let item = w.in-Adds.item in
          let is = same ∙ sym w.in-Adds.ensures in
          let P : Tally → Type 0 = λ t. IsTally (has_item In h item) (first_of h) (length h) t in
          let G : Tally → Type 0 = λ t. IsTally (has_item Out h item) (first_of h) (length h) t in
          let put = subst P (sym w.tally_of.ensures) (c.requires.puts item) in
          let got = subst G (sym w.tally_of-else-tally_of-ne1.ensures) (c.requires.gets item) in
          let S : ℕ → Type 0 = λ v. IsSingle h v n in
          subst S (same_put h item x n is a) (single_from h item n w.tally_of.result w.tally_of-else-tally_of-ne1.result
          put got is
          w.if-tally_of-ne1.false w.if-tally_of-gt1.false)
          )
      | in_default w ↦ absurd (w.in_default.not-Adds x (c.effect.ensures ∙ sym same ∙ a))
    ])

pub returns : goal.returns
returns c = (λ t. plain_all c.args.calls.now c.loop-n.n c.loop-n-test.false c.loop-n.invariant, λ plain. refl)
