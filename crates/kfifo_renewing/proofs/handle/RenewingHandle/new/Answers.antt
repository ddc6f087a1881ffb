-- The handle gives to the first generation.
use Rattle.std.proofs.Common.{[], sym, subst}
use Rattle.kfifo_renewing.specs.Joining.{HasJoined, PartView}
use Rattle.kfifo_renewing.specs.Renewing.{opening_in}
use Rattle.kfifo_renewing.proofs.Joining.{joined-first}
use Rattle.kfifo_renewing.proofs.handle.RenewingHandle.new.Goals as goal

pub invariant_of-result : goal.invariant_of-result
invariant_of-result g c = (
  let T = g.row.T.Denot in
      let o = opening_in c.args.shared.value in
      let log = c.args.history.log in
      subst (HasJoined {T = T} o c.args.shared.value.history.book c.args.history.book log c.args.generation.value
      c.start_giving.new.self)
      (sym c.in_ok-older.ensures)
      (subst (λ (p : PartView T). HasJoined o c.args.shared.value.history.book c.args.history.book log
      c.args.generation.value p [])
      (sym c.start_giving.ensures)
      (joined-first o c.args.shared.value.history.book c.args.history.book log c.args.generation.value c.args.newest
      (c.requires.opened, c.requires.books.2)
      c.requires.books.0 c.requires.books.1 c.requires.of c.requires.first.0 c.requires.first.1 c.requires.part
      c.requires.risen)),
  c.requires.bare,
)
