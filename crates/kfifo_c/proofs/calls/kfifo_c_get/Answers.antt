use Rattle.std.proofs.Common.{◌≡◌, Some, refl, sym, subst, ◌∙◌, rules, None}
use Rattle.kfifo_model.specs.declared.calls.Answer.{Answer}
use Rattle.kfifo_c.specs.Exports.{Gets}
use Rattle.kfifo_c.proofs.ByKind.{items_from, no_items}
use Rattle.kfifo_c.proofs.calls.kfifo_c_get.Goals.{in-Got, in_default}
use Rattle.kfifo_c.proofs.calls.kfifo_c_get.Goals as goal

pub seat_mut-requires : goal.seat_mut-requires
seat_mut-requires c = items_from _ (λ e. c.if-pass-eq0.false (c.args.pass.now.starts_are ∙ e))

pub returns-clause-answer : goal.returns-clause-answer
returns-clause-answer c =
    let same : c.match-answer.answer ≡ c.get-answer.result =
    elim c.match-answer.branch [ in-Got w ↦ search rules | in_default w ↦ search rules ] in (
      Some c.match-answer.answer,
      c.status.ensures,
      elim c.match-answer.branch [ in-Got w ↦ search rules | in_default w ↦ search rules ],
      (
        c.seat_mut.result.now,
        c.get-answer.new.self,
        c.seat_mut.ensures.value,
        refl,
        tt,
        subst (λ (a : Answer). Gets a c.seat_mut.result.now c.get-answer.new.self) (sym same) c.get-answer.ensures,
      ),
    )

pub returns-then-pass-eq0-clause-answer : goal.returns-then-pass-eq0-clause-answer
returns-then-pass-eq0-clause-answer c = (
  None,
  refl,
  refl,
  (
    refl,
    λ seat there _. no_items _ (sym c.args.pass.now.starts_are ∙ c.if-pass-eq0.true) seat
        there,
  ),
)
