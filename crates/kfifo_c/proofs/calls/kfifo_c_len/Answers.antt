use Rattle.std.proofs.Common.{Some, refl, ◌∙◌, None, sym}
use Rattle.kfifo_c.proofs.ByKind.{items_from, no_items}
use Rattle.kfifo_c.proofs.calls.kfifo_c_len.Goals as goal

pub seat_mut-requires : goal.seat_mut-requires
seat_mut-requires c = items_from _ (λ e. c.if-pass-eq0.false (c.args.pass.now.starts_are ∙ e))

pub returns-clause-counted : goal.returns-clause-counted
returns-clause-counted c = (
  Some c.len.result,
  refl,
  (c.seat_mut.result.now, c.seat_mut.result.now, c.seat_mut.ensures.value, refl, tt, (refl, c.len.ensures)),
)

pub returns-then-pass-eq0-clause-counted : goal.returns-then-pass-eq0-clause-counted
returns-then-pass-eq0-clause-counted c =
    (None, refl, (refl, λ seat there _. no_items _ (sym c.args.pass.now.starts_are ∙ c.if-pass-eq0.true) seat there))
