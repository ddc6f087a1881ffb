use Rattle.std.proofs.Common.{◌≡◌, ℕ, Some, refl, subst, sym, ◌∙◌, None}
use Rattle.kfifo_live.specs.declared.payload.Taken.{Taken}
use Rattle.kfifo_live.specs.declared.payload.Taken.TheVariants as K
use Rattle.kfifo_renewing.specs.Renewing.{TakesFromOldest}
use Rattle.kfifo_c.specs.Values.{value_after}
use Rattle.kfifo_c.specs.Behind.{Values, values_found}
use Rattle.kfifo_c.proofs.ByKind.{no_seat}
use Rattle.kfifo_c.proofs.value_queue.calls.kfifo_c_take.Goals as goal

-- what is no Got leaves the variable as it is
unchanged : (old : ℕ) (taken : Taken ℕ) → ((x : ℕ) → taken ≡ K.Got x → ⊥) → old ≡ value_after old (Some taken)
unchanged old (K.Got x) other = absurd (other x refl)
unchanged old K.Empty other = refl
unchanged old K.Busy other = refl
unchanged old K.Worn other = refl

pub seat_mut-requires : goal.seat_mut-requires
seat_mut-requires c = values_found _ (sym c.args.pass.now.kind_is ∙ c.if-pass-ne-VALUES.false)

pub returns-in-Got-clause-answer : goal.returns-in-Got-clause-answer
returns-in-Got-clause-answer c = (
  Some (K.Got c.in-Got.got),
  refl,
  refl,
  (
    c.seat_mut.result.now,
    c.take-taken.new.self,
    c.seat_mut.ensures.value,
    refl,
    tt,
    subst (λ (a : Taken ℕ). TakesFromOldest a c.seat_mut.result.now c.take-taken.new.self) c.in-Got.is
        c.take-taken.ensures,
  ),
)

pub returns-clause-answer : goal.returns-clause-answer
returns-clause-answer c = (
  Some c.take-taken.result,
  c.nothing_status.ensures,
  unchanged c.args.value.now c.take-taken.result c.in_default.not-Got,
  (c.seat_mut.result.now, c.take-taken.new.self, c.seat_mut.ensures.value, refl, tt, c.take-taken.ensures),
)

pub returns-then-pass-ne-VALUES-clause-answer : goal.returns-then-pass-ne-VALUES-clause-answer
returns-then-pass-ne-VALUES-clause-answer c = (
  None,
  refl,
  refl,
  (
    refl,
    λ seat there _. no_seat Values 2 (λ x. refl) _
        (λ e. c.if-pass-ne-VALUES.true (c.args.pass.now.kind_is ∙ e)) seat there,
  ),
)
