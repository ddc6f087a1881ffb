use Rattle.std.proofs.Common.{ℕ, length, sym, ◌∙◌, ap, subst, refl, inl, inr, arith}
use Rattle.kfifo_verdict.proofs.Types.{Call, Tally}
use Rattle.kfifo_model.specs.Histories.{effect_of}
use Rattle.kfifo_model.proofs.Checking.{read}
use Rattle.kfifo_model.specs.declared.effects.Side.TheVariants.{In, Out}
use Rattle.kfifo_verdict.specs.Evidence.{IsSingle}
use Rattle.kfifo_verdict.specs.Finding.{IsTally, IsStart, has_item, first_of}
use Rattle.kfifo_verdict.proofs.Telling.{single_from, single_put_once, single_got_once, got_last, got_none}
use Rattle.kfifo_verdict.proofs.ItemPresence.{same_put, known_presence, never_presence}
use Rattle.kfifo_verdict.proofs.presences.presence_of.Goals as goal
use Rattle.kfifo_verdict.proofs.presences.presence_of.Goals.{then-tally_of-ne1-via-then-tally_of-ne1}
use Rattle.kfifo_verdict.proofs.presences.presence_of.Goals.{then-tally_of-ne1-via-else-tally_of-ne1+then-got-gt1}

pub returns-then-tally_of-ne1 : goal.returns-then-tally_of-ne1
returns-then-tally_of-ne1 c =
    let h = c.args.calls.now in
    let p = c.args.p in
    let item = c.in-Adds.item in
    let is = ap effect_of (sym (read h p _ c.requires.inside)) ∙ sym c.in-Adds.ensures in
    let P : Tally → Type 0 = λ t. IsTally (has_item In h item) (first_of h) (length h) t in
    let G : Tally → Type 0 = λ t. IsTally (has_item Out h item) (first_of h) (length h) t in
    let put = subst P (sym c.tally_of.ensures) (c.requires.puts item) in
    let got = subst G (sym c.tally_of-got.ensures) (c.requires.gets item) in
    never_presence h p _ c.never-never.ensures.start c.never-never.ensures.gone (λ x s.
    let S : ℕ → Type 0 = λ w. IsSingle h w p in
    let single = subst S (same_put h x item p s.puts is) s in
    elim c.then-tally_of-ne1.branch [
      | then-tally_of-ne1-via-then-tally_of-ne1 w
          ↦ w.if-tally_of-ne1.true (single_put_once h item p c.tally_of.result put single)
      | then-tally_of-ne1-via-else-tally_of-ne1+then-got-gt1 w ↦ (
          let more = w.if-got-gt1.true in
          let le = single_got_once h item p c.tally_of-got.result got single in
          absurd (omega (arith, more, le))
          )
    ])

pub returns-then-got-eq0 : goal.returns-then-got-eq0
returns-then-got-eq0 c =
    let h = c.args.calls.now in
    let p = c.args.p in
    let item = c.in-Adds.item in
    let same = read h p _ c.requires.inside in
    let is = ap effect_of (sym same) ∙ sym c.in-Adds.ensures in
    let P : Tally → Type 0 = λ t. IsTally (has_item In h item) (first_of h) (length h) t in
    let G : Tally → Type 0 = λ t. IsTally (has_item Out h item) (first_of h) (length h) t in
    let put = subst P (sym c.tally_of.ensures) (c.requires.puts item) in
    let got = subst G (sym c.tally_of-got.ensures) (c.requires.gets item) in
    let B : Call → Type 0 = λ w. IsStart h w.end c.first_after.result in
    known_presence h item p _ c.requires.history
    (record {
      single = single_from h item p c.tally_of.result c.tally_of-got.result put got is c.if-tally_of-ne1.false
          c.if-got-gt1.false;
      start = subst B same c.first_after.ensures;
      gone = inl (refl, got_none h item c.tally_of-got.result got c.if-got-eq0.true);
    })

pub returns-else-got-eq0 : goal.returns-else-got-eq0
returns-else-got-eq0 c =
    let h = c.args.calls.now in
    let p = c.args.p in
    let item = c.in-Adds.item in
    let same = read h p _ c.requires.inside in
    let is = ap effect_of (sym same) ∙ sym c.in-Adds.ensures in
    let P : Tally → Type 0 = λ t. IsTally (has_item In h item) (first_of h) (length h) t in
    let G : Tally → Type 0 = λ t. IsTally (has_item Out h item) (first_of h) (length h) t in
    let put = subst P (sym c.tally_of.ensures) (c.requires.puts item) in
    let got = subst G (sym c.tally_of-got.ensures) (c.requires.gets item) in
    let B : Call → Type 0 = λ w. IsStart h w.end c.first_after.result in
    known_presence h item p _ c.requires.history
    (record {
      single = single_from h item p c.tally_of.result c.tally_of-got.result put got is c.if-tally_of-ne1.false
          c.if-got-gt1.false;
      start = subst B same c.first_after.ensures;
      gone = inr (got_last h item c.tally_of-got.result got c.if-got-eq0.false);
    })
