use Rattle.std.proofs.Common.{ℕ, ◌≡◌, ◌+◌, sym, ◌∙◌, ap, subst}
use Rattle.kfifo_model.specs.Histories.{does, effect_of}
use Rattle.kfifo_model.proofs.Checking.{read}
use Rattle.kfifo_model.specs.declared.effects.Effect.{Effect}
use Rattle.kfifo_model.specs.declared.effects.Effect.TheVariants.{Adds, Takes, FindsNone, Refused, Wrong}
use Rattle.kfifo_model.specs.declared.effects.Side.TheVariants.{In, Out}
use Rattle.kfifo_verdict.specs.declared.tallies.ByItem.{ByItem}
use Rattle.kfifo_verdict.specs.Finding.{IsTallied, tally_in, has_item, first_of}
use Rattle.kfifo_verdict.proofs.Telling.{tallied_skip, tallied_more, side_here}
use Rattle.kfifo_verdict.proofs.tallies.both_tallies.Goals as goal
use Rattle.kfifo_verdict.proofs.tallies.both_tallies.Goals.{in-Adds+in_ok-count_call-in-Adds}
use Rattle.kfifo_verdict.proofs.tallies.both_tallies.Goals.{in-Takes+in_ok-count_call-in-Takes, in_default}

not_both : (e : Effect) (x y : ℕ) → e ≡ Adds x → e ≡ Takes y → ⊥
not_both (Adds z) x y a t = absurd (cc)
not_both (Takes z) x y a t = absurd (cc)
not_both FindsNone x y a t = absurd (cc)
not_both Refused x y a t = absurd (cc)
not_both Wrong x y a t = absurd (cc)

pub loop-n-preserved : goal.loop-n-preserved
loop-n-preserved c =
    let h = c.args.calls.now in
    let n = c.loop-n.n in
    let same = read h n _ c.loop-n-test.true in
    let P : ByItem → Type 0 = λ m. IsTallied h In (n + 1) (tally_in m) in
    let G : ByItem → Type 0 = λ m. IsTallied h Out (n + 1) (tally_in m) in
    elim c.match-effect.branch [
      | in-Adds+in_ok-count_call-in-Adds w ↦ (
          let x = w.in-Adds.item in
          let is = ap effect_of (sym same) ∙ sym w.in-Adds.ensures in
          let counted = w.in_ok-count_call-in-Adds.ensures.counted (has_item In h x) (first_of h)
          (c.loop-n.invariant.puts x)
          (side_here In h x n is) (ap (λ t. t.first) (sym same)) in
          record {
            puts = subst P (sym w.puts-is)
                (tallied_more h In n x (tally_in c.loop-n.puts) (tally_in w.count_call.new.tallies)
                c.loop-n.invariant.puts is counted w.in_ok-count_call-in-Adds.ensures.others);
            gets = subst G (sym w.gets-is) (tallied_skip h Out n (tally_in c.loop-n.gets) c.loop-n.invariant.gets
                (λ y e. not_both (does h n) x y is e));
          }
          )
      | in-Takes+in_ok-count_call-in-Takes w ↦ (
          let x = w.in-Takes.item in
          let is = ap effect_of (sym same) ∙ sym w.in-Takes.ensures in
          let counted = w.in_ok-count_call-in-Takes.ensures.counted (has_item Out h x) (first_of h)
          (c.loop-n.invariant.gets x)
          (side_here Out h x n is) (ap (λ t. t.first) (sym same)) in
          record {
            puts = subst P (sym w.puts-is) (tallied_skip h In n (tally_in c.loop-n.puts) c.loop-n.invariant.puts
                (λ y e. not_both (does h n) y x e is));
            gets = subst G (sym w.gets-is)
                (tallied_more h Out n x (tally_in c.loop-n.gets) (tally_in w.count_call-in-Takes.new.tallies)
                c.loop-n.invariant.gets is counted w.in_ok-count_call-in-Takes.ensures.others);
          }
          )
      | in_default w ↦ record {
        puts = subst P (sym w.puts-is) (tallied_skip h In n (tally_in c.loop-n.puts) c.loop-n.invariant.puts
            (λ y e. w.in_default.not-Adds y (c.effect.ensures ∙ (ap effect_of same ∙ e))));
        gets = subst G (sym w.gets-is) (tallied_skip h Out n (tally_in c.loop-n.gets) c.loop-n.invariant.gets
            (λ y e. w.in_default.not-Takes y (c.effect.ensures ∙ (ap effect_of same ∙ e))));
      }
    ]
