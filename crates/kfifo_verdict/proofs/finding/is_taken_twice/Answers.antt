use Rattle.std.proofs.Common.{length, sym, ◌∙◌, ap, subst}
use Rattle.std.proofs.lemmas.Bool.{ltb-true, lt-ltb, eqb-true}
use Rattle.kfifo_model.specs.Histories.{effect_of}
use Rattle.kfifo_model.proofs.Checking.{read}
use Rattle.kfifo_model.specs.declared.effects.Side.TheVariants.{In, Out}
use Rattle.kfifo_verdict.proofs.Types.{Tally}
use Rattle.kfifo_verdict.specs.Finding.{IsTally, has_item, first_of}
use Rattle.kfifo_verdict.proofs.Telling.{twice_from, twice_tells}
use Rattle.kfifo_verdict.proofs.finding.is_taken_twice.Goals as goal

pub returns-then-got-n : goal.returns-then-got-n
returns-then-got-n c =
    let h = c.args.calls.now in
    let n = c.args.n in
    let item = c.in-Takes.item in
    let is = ap effect_of (sym (read h n _ c.requires.inside)) ∙ sym c.in-Takes.ensures in
    let P : Tally → Type 0 = λ t. IsTally (has_item In h item) (first_of h) (length h) t in
    let G : Tally → Type 0 = λ t. IsTally (has_item Out h item) (first_of h) (length h) t in
    let put = subst P (sym c.tally_of.ensures) (c.requires.puts item) in
    let got = subst G (sym c.tally_of-got.ensures) (c.requires.gets item) in (
      λ t. twice_from h item n c.tally_of.result c.tally_of-got.result put got is c.if-got-n.true
          (ltb-true c.tally_of.result.count c.tally_of-got.result.count t),
      λ t. lt-ltb c.tally_of.result.count c.tally_of-got.result.count
          (twice_tells h item n c.tally_of.result c.tally_of-got.result put got is t).1,
    )

pub returns-else-got-n : goal.returns-else-got-n
returns-else-got-n c =
    let h = c.args.calls.now in
    let n = c.args.n in
    let item = c.in-Takes.item in
    let is = ap effect_of (sym (read h n _ c.requires.inside)) ∙ sym c.in-Takes.ensures in
    let G : Tally → Type 0 = λ t. IsTally (has_item Out h item) (first_of h) (length h) t in
    let got = subst G (sym c.tally_of-got.ensures) (c.requires.gets item) in (
      λ t. absurd (c.if-got-n.false (eqb-true c.tally_of-got.result.last n t)),
      λ t. absurd (c.if-got-n.false (twice_tells h item n _ c.tally_of-got.result (c.requires.puts item) got is t).0),
    )
