-- What the renewing queue refuses is refused. Where it was opened, it refused nothing.
use Rattle.std.proofs.Common.{◌≡◌, get_or, length, ap, subst, sym, ◌∙◌, false}
use Rattle.kfifo_live.specs.declared.view.Opening.{Opening}
use Rattle.kfifo_renewing.specs.Renewing.{HaveOne, opening_with, sizes_again}
use Rattle.kfifo_renewing.proofs.Shapes.{holds}
use Rattle.kfifo_c.proofs.Openings.{refuses_memory, refuses_none, refuses_same}
use Rattle.kfifo_c.proofs.Passes.{length_read}
use Rattle.kfifo_c.proofs.value_queue.opening.open_seats.Goals as goal

pub returns-in-Err-clause-refused : goal.returns-in-Err-clause-refused
returns-in-Err-clause-refused c =
    let e = c.in-Err.ensures in
    refuses_same c.args.sizes c.args.renewals c.in-Err.fault (e.reserve, e.threads, e.tokens, e.generations)

pub seat_all-requires : goal.seat_all-requires
seat_all-requires c = λ i d below.
    let have = c.in-Ok.ensures.ok.0 in let shape = c.args.sizes.shape in let again = c.holding_again.result in
    let same = c.holding_again.ensures in
    let opened : (get_or c.in-Ok.handles.items i d).opened ≡ opening_with false (sizes_again c.args.sizes) =
    (have.3 i d below).0 ∙ have.2 in (
      holds shape again same.0 same.1 same.2 same.3 same.4 ∙ sym (ap (λ (o : Opening). o.shape) opened),
      sym (ap (λ (o : Opening). o.threads) opened),
    )

pub returns-in-Ok-seat_all-clause-ok : goal.returns-in-Ok-seat_all-clause-ok
returns-in-Ok-seat_all-clause-ok c =
    let same = c.in-Ok-seat_all.ensures in (
      subst (HaveOne (opening_with false (sizes_again c.args.sizes))) (sym same) c.in-Ok.ensures.ok.0,
      sym (length_read (λ s. s.value) c.in-Ok-seat_all.seats.items) ∙ ap length same ∙ c.in-Ok.ensures.ok.1,
    )

pub returns-in-Ok-seat_all-clause-refused : goal.returns-in-Ok-seat_all-clause-refused
returns-in-Ok-seat_all-clause-refused c =
    let e = c.in-Ok.ensures in
    refuses_none c.args.sizes c.args.renewals c.in-Ok.handles c.in-Ok-seat_all.seats
    (e.reserve, e.threads, e.tokens, e.generations)

pub returns-in-Err-seat_all-clause-refused : goal.returns-in-Err-seat_all-clause-refused
returns-in-Err-seat_all-clause-refused c =
    let e = c.in-Ok.ensures in
    refuses_memory c.args.sizes c.args.renewals c.in-Ok.handles (e.reserve, e.threads, e.tokens, e.generations)
