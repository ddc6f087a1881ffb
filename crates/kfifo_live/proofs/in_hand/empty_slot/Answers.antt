use Rattle.std.proofs.Common.{◌-◌, ◌∷◌, Some, ap, sym, ◌∙◌}
use Rattle.atomic_table.specs.Table.{rest}
use Rattle.kfifo_live.proofs.in_hand.empty_slot.Goals as goal

pub exchange-held-requires : goal.exchange-held-requires
exchange-held-requires g c =
    let held = c.requires.holds.1 in (
      c.requires.table,
      (
        Some c.requires.holds.0,
        held ∙ ap (λ xs. (c.args.token - 1, Some c.requires.holds.0) ∷ rest xs)
            (sym held),
      ),
    )
