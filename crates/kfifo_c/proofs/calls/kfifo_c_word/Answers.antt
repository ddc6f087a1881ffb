use Rattle.std.proofs.Common.{refl, ◌∙◌, Some, None, sym}
use Rattle.kfifo_c.proofs.ByKind.{items_from, no_items}
use Rattle.kfifo_c.proofs.Tried.{tried}
use Rattle.kfifo_c.specs.Exports.{HasRead, MayRead}
use Rattle.kfifo_c.proofs.calls.kfifo_c_word.Goals as goal

pub seat_mut-requires : goal.seat_mut-requires
seat_mut-requires c = items_from _ (λ e. c.if-pass-eq0.false (c.args.pass.now.starts_are ∙ e))

pub returns-in-Some-clause-read : goal.returns-in-Some-clause-read
returns-in-Some-clause-read c = (
  Some c.in-Some.bits,
  refl,
  refl,
  (c.seat_mut.result.now, c.word.new.self, c.seat_mut.ensures.value, refl, c.in-Some.ensures.0, c.in-Some.ensures.1),
)

pub returns-then-pass-eq0-clause-read : goal.returns-then-pass-eq0-clause-read
returns-then-pass-eq0-clause-read c = (
  None,
  refl,
  refl,
  (
    refl,
    λ seat there _. no_items _ (sym c.args.pass.now.starts_are ∙ c.if-pass-eq0.true) seat
        there,
  ),
)

pub returns-in-None-clause-read : goal.returns-in-None-clause-read
returns-in-None-clause-read c = (
  None,
  refl,
  refl,
  tried (MayRead c.args.index) (HasRead c.args.index) None _ _ c.seat_mut.result.now c.word.new.self
      c.seat_mut.ensures.value refl c.in-None.ensures,
)
