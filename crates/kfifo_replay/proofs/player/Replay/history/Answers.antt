-- The calls of a schedule are a history.
use Rattle.std.proofs.Common.{◌≡◌, ◌∙◌, length, ap, subst, sym}
use Rattle.kfifo_model.specs.Validity.{IsHistory}
use Rattle.kfifo_machine.specs.Calls.{Log}
use Rattle.kfifo_machine.proofs.Calls.{history_is, no_fault}
use Rattle.kfifo_replay.specs.contracts.player.Replay.{the_view}
use Rattle.kfifo_replay.proofs.Picking.{reached_by}
use Rattle.kfifo_replay.proofs.player.Replay.history.Goals as goal

pub unreachable-requires : goal.unreachable-requires
unreachable-requires c =
    let i = c.self.invariant in
    let calls : c.in_ok-from_slice.field-0.items ≡ c.self.inside.book.log.calls = c.in_ok-from_slice.ensures.items
    ∙ c.calls.ensures in
    let good : IsHistory c.in_ok-from_slice.field-0.items =
    subst IsHistory (sym (calls ∙ ap (λ (l : Log). l.calls) i.stands.log))
    (history_is i.shape (length i.scripts) i.stands.events (the_view c.self.inside).follower.world
    i.stands.are_scripts.few
    (reached_by i.shape i.scripts i.picks (the_view c.self.inside) i.stands)) in
    no_fault c.in_ok-from_slice.field-0.items c.in-Err._fault good c.in-Err.ensures
