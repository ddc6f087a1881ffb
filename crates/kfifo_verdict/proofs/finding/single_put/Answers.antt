use Rattle.std.proofs.Common.{ℕ, length, sym, ◌∙◌, ap, subst, arith}
use Rattle.kfifo_model.specs.Histories.{effect_of}
use Rattle.kfifo_model.proofs.Checking.{read}
use Rattle.kfifo_model.specs.declared.effects.Side.TheVariants.{In, Out}
use Rattle.kfifo_verdict.proofs.Types.{Tally}
use Rattle.kfifo_verdict.specs.Evidence.{IsSingle}
use Rattle.kfifo_verdict.specs.Finding.{IsTally, has_item, first_of}
use Rattle.kfifo_verdict.proofs.Refuting.{put_inside}
use Rattle.kfifo_verdict.proofs.Telling.{single_from, single_put_once, single_got_once, got_once, put_last, same_item}
use Rattle.kfifo_verdict.proofs.finding.single_put.Goals as goal
use Rattle.kfifo_verdict.proofs.finding.single_put.Goals.{else-put-eq1-via-then-put-eq1+else-tally_of-eq1}
use Rattle.kfifo_verdict.proofs.finding.single_put.Goals.{else-put-eq1-via-else-put-eq1}

pub returns-then-tally_of-eq1 : goal.returns-then-tally_of-eq1
returns-then-tally_of-eq1 c =
    let h = c.args.calls.now in
    let n = c.args.n in
    let item = c.in-Takes.item in
    let is = ap effect_of (sym (read h n _ c.requires.inside)) ∙ sym c.in-Takes.ensures in
    let P : Tally → Type 0 = λ t. IsTally (has_item In h item) (first_of h) (length h) t in
    let G : Tally → Type 0 = λ t. IsTally (has_item Out h item) (first_of h) (length h) t in
    let put = subst P (sym c.tally_of-put.ensures) (c.requires.items.puts item) in
    let got = subst G (sym c.tally_of.ensures) (c.requires.items.gets item) in
    let puts = put_last h item c.tally_of-put.result put c.if-put-eq1.true in
    let once = c.if-tally_of-eq1.true in (
      item,
      single_from h item c.tally_of-put.result.last c.tally_of-put.result c.tally_of.result put got puts
          c.if-put-eq1.true (omega (arith, once)),
      is,
      put_inside h item c.tally_of-put.result.last puts,
    )

pub returns-else-put-eq1 : goal.returns-else-put-eq1
returns-else-put-eq1 c = λ x p s gets.
    let h = c.args.calls.now in
    let n = c.args.n in
    let item = c.in-Takes.item in
    let is = ap effect_of (sym (read h n _ c.requires.inside)) ∙ sym c.in-Takes.ensures in
    let P : Tally → Type 0 = λ t. IsTally (has_item In h item) (first_of h) (length h) t in
    let G : Tally → Type 0 = λ t. IsTally (has_item Out h item) (first_of h) (length h) t in
    let put = subst P (sym c.tally_of-put.ensures) (c.requires.items.puts item) in
    let S : ℕ → Type 0 = λ w. IsSingle h w p in
    let single = subst S (same_item h x item n gets is) s in
    elim c.else-put-eq1.branch [
      | else-put-eq1-via-then-put-eq1+else-tally_of-eq1 w ↦ (
          let got = subst G (sym w.tally_of.ensures) (c.requires.items.gets item) in
          w.if-tally_of-eq1.false
          (got_once h item n w.tally_of.result got is (single_got_once h item p w.tally_of.result got single))
          )
      | else-put-eq1-via-else-put-eq1 w ↦ w.if-put-eq1.false (single_put_once h item p c.tally_of-put.result put single)
    ]
