-- The tick is one of an idle thread that may tick once more.
use Rattle.std.proofs.Common.{◌≡◌, ℕ, ◌<◌, ◌*◌, ◌∙◌, ap, sym, subst, arith}
use Rattle.kfifo_words.specs.Ring.{clock_at}
use Rattle.kfifo_machine.specs.Runs.{own}
use Rattle.kfifo_live.proofs.Types.{Opening}
use Rattle.kfifo_live.specs.Schedule.{IsSmall, ticks, thread_of, seen_of, stamped_opening}
use Rattle.kfifo_live.specs.Pass.{PassView, OpenQueue}
use Rattle.kfifo_live.proofs.Keeps.{draws}
use Rattle.kfifo_live.proofs.Passes.{drawn, draws_known, pass_thread, promised}
use Rattle.kfifo_live.proofs.queue.Pass.draw_stamp.Goals as goal

pub fetch_add-requires : goal.fetch_add-requires
fetch_add-requires c =
    let me = c.self.inside.seat.me in
    let table : c.self.inside.seat.table_id ≡ c.queue.inside.table.shared.table_id =
    ap (λ (k : PassView). k.table) c.self.view_is ∙ c.requires.of.0
    ∙ sym (ap (λ (q : OpenQueue). q.table) c.queue.view_is) in
    let opened : me.0.opened ≡ stamped_opening c.queue.inside.shape c.queue.inside.threads c.queue.inside.calls =
    ap (λ (k : PassView). k.opened) c.self.view_is ∙ c.requires.of.1
    ∙ sym (ap (λ (q : OpenQueue). q.opened) c.queue.view_is) in
    let clock : c.clock_index-clock.result ≡ clock_at me.0.opened.shape.k me.0.opened.shape.n =
    c.clock_index-clock.ensures ∙ ap (λ (o : Opening). clock_at o.shape.k o.shape.n) (sym opened) in
    let size = c.queue.invariant.1 in
    let index = c.clock_index-clock.ensures in
    let room : ticks (own (thread_of me.0) (seen_of me.0)) < 2 * me.0.opened.calls =
    subst (λ (t : ℕ). ticks (own t (seen_of me.0)) < 2 * me.0.opened.calls)
    (sym (pass_thread c.self.inside.thread me c.self.invariant))
    (subst (λ (k : PassView). ticks (own k.thread k.seen) < 2 * k.opened.calls) (sym c.self.view_is)
    c.requires.room) in (
      table,
      omega (arith, size, index),
      draws _ _ _ me c.clock_index-clock.result clock c.self.invariant.idle
          (ap (λ (o : Opening). o.tokens) opened) c.self.invariant.few room,
    )

pub invariant_of-self : goal.invariant_of-self
invariant_of-self c = drawn c.fetch_add.result _ c.self.inside.seat.me c.fetch_add.new.seat.me c.self.invariant
    c.fetch_add.ensures.2.1 c.fetch_add.ensures.2.0

pub returns-clause-draws : goal.returns-clause-draws
returns-clause-draws c = draws_known c.fetch_add.result c.self.inside.thread c.self.inside.seat c.fetch_add.new.seat _
    c.self.invariant c.self.view_is c.fetch_add.ensures.0 c.fetch_add.ensures.2.0

pub returns-clause-small : goal.returns-clause-small
returns-clause-small c = subst IsSmall (ap (λ (k : PassView). k.opened) c.self.view_is) c.self.invariant.few

pub returns-clause-promise : goal.returns-clause-promise
returns-clause-promise c = promised _ c.fetch_add.new.seat.me
    (drawn c.fetch_add.result _ c.self.inside.seat.me c.fetch_add.new.seat.me c.self.invariant c.fetch_add.ensures.2.1
    c.fetch_add.ensures.2.0)
