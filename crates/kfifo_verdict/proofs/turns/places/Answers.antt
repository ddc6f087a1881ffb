use Rattle.std.proofs.Common.{ℕ, List, ◌+◌, sym, ◌∙◌, ap, subst, refl}
use Rattle.kfifo_model.specs.Histories.{effect_of}
use Rattle.kfifo_model.proofs.Checking.{read}
use Rattle.kfifo_verdict.specs.Plain.{IsPlace, IsLate, ArePlaces}
use Rattle.kfifo_verdict.proofs.Lining.{start_within, places_skip, places_more}
use Rattle.kfifo_verdict.proofs.turns.places.Goals as goal
use Rattle.kfifo_verdict.proofs.turns.places.Goals.{in-Adds+in_ok-push, in_default}

pub due_of-requires-clause-bound : goal.due_of-requires-clause-bound
due_of-requires-clause-bound c =
    let h = c.args.calls.now in
    let p = c.loop-p.p in
    start_within h c.args.presences.now c.in-Adds.field-0 p c.requires.plain c.requires.presences
    (ap effect_of (sym (read h p _ c.loop-p-test.true)) ∙ sym c.in-Adds.ensures)

pub loop-p-preserved : goal.loop-p-preserved
loop-p-preserved c =
    let h = c.args.calls.now in
    let ps = c.args.presences.now in
    let p = c.loop-p.p in
    let same = ap effect_of (sym (read h p _ c.loop-p-test.true)) in
    let Q : List (ℕ × ℕ × ℕ) → Type 0 = λ w. ArePlaces h ps (p + 1) w in
    elim c.match-effect.branch [
      | in-Adds+in_ok-push w ↦ (
          let late = w.late_of-late.result in
          let L : ℕ → Type 0 = λ g. IsLate h g late in
          let here : IsPlace h ps (w.due_of.result, late, p) =
          record {
            item = w.in-Adds.field-0;
            puts = same ∙ sym w.in-Adds.ensures;
            late = subst L w.gone_of.ensures w.late_of-late.ensures;
            due = w.due_of.ensures;
          } in
          subst Q (sym (ap (λ v. v.items) w.places-is))
          (places_more h ps p c.loop-p.places.items w.push.new.self.items (w.due_of.result, late, p) here refl
          w.in_ok-push.ensures.items c.loop-p.invariant)
          )
      | in_default w ↦ subst Q (sym (ap (λ v. v.items) w.places-is))
          (places_skip h ps p c.loop-p.places.items
          (λ x a. w.in_default.not-Adds x (c.effect.ensures ∙ sym same ∙ a)) c.loop-p.invariant)
    ]
