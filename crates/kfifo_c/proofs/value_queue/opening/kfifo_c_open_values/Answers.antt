-- What an opening returns once there are sizes for its capacity.
use Rattle.std.proofs.Common.{◌≡◌, ◌≤◌, ap, arith, false, length, map, reverse, subst, sym, ◌∙◌}
use Rattle.kfifo_renewing.specs.declared.queue.Renewals.{Renewals}
use Rattle.kfifo_c.proofs.HandleLists.{values, read_seats}
use Rattle.kfifo_c.proofs.Openings.{AreFor, answer_done, answer_refused, never_done, opens_for}
use Rattle.kfifo_c.proofs.Passes.{length_read}
use Rattle.kfifo_c.proofs.value_queue.opening.kfifo_c_open_values.Goals as goal

pub returns-in-Ok-open_seats-clause-ok : goal.returns-in-Ok-open_seats-clause-ok
returns-in-Ok-open_seats-clause-ok c = λ _.
    let n = length c.args.passes.now in let s = c.in-Ok.ensures.sizes in let ok = c.in-Ok-open_seats.ensures.ok in
    let few : n ≤ 64 = omega (arith, c.if-passes-gt64.false) in
    let threads : c.in-Ok.sizes.threads ≡ n = omega (arith, s.1, few) in
    let are : AreFor c.args.k c.args.capacity n c.args.last c.in-Ok.sizes =
    subst (λ m. AreFor c.args.k c.args.capacity m c.args.last c.in-Ok.sizes) (sym s.1 ∙ threads)
    (s.1, s.2, s.3, s.4, s.5, s.6) in
    let r : Renewals = record { reserve = c.args.reserve; generations = c.args.generations } in record {
      seats = reverse (map (λ seat. seat.value) c.in-Ok-open_seats.seats.items);
      opens = opens_for c.in-Ok.sizes r c.args.k c.args.capacity n c.args.last are c.in-Ok.ensures.room few false _ ok.0
          (length_read (λ seat. seat.value) c.in-Ok-open_seats.seats.items ∙ ok.1);
      handles_are = ap (map values.read) c.put_all.ensures.behind ∙ read_seats values _;
    }

pub returns-in-Ok-open_seats-clause-answer : goal.returns-in-Ok-open_seats-clause-answer
returns-in-Ok-open_seats-clause-answer c = λ _.
    let n = length c.args.passes.now in let s = c.in-Ok.ensures.sizes in
    let few : n ≤ 64 = omega (arith, c.if-passes-gt64.false) in
    let threads : c.in-Ok.sizes.threads ≡ n = omega (arith, s.1, few) in
    let are : AreFor c.args.k c.args.capacity n c.args.last c.in-Ok.sizes =
    subst (λ m. AreFor c.args.k c.args.capacity m c.args.last c.in-Ok.sizes) (sym s.1 ∙ threads)
    (s.1, s.2, s.3, s.4, s.5, s.6) in
    let r : Renewals = record { reserve = c.args.reserve; generations = c.args.generations } in
    answer_done c.in-Ok.sizes r c.args.k c.args.capacity n c.args.last are c.in-Ok.ensures.room few
    c.in-Ok-open_seats.seats
    c.in-Ok-open_seats.ensures.refused

pub returns-in-Err-open_seats-clause-ok : goal.returns-in-Err-open_seats-clause-ok
returns-in-Err-open_seats-clause-ok c =
    λ is. absurd (never_done c.in-Err-open_seats.fault (sym c.renew_status.ensures ∙ is))

pub returns-in-Err-open_seats-clause-answer : goal.returns-in-Err-open_seats-clause-answer
returns-in-Err-open_seats-clause-answer c = λ _.
    let n = length c.args.passes.now in let s = c.in-Ok.ensures.sizes in
    let few : n ≤ 64 = omega (arith, c.if-passes-gt64.false) in
    let threads : c.in-Ok.sizes.threads ≡ n = omega (arith, s.1, few) in
    let are : AreFor c.args.k c.args.capacity n c.args.last c.in-Ok.sizes =
    subst (λ m. AreFor c.args.k c.args.capacity m c.args.last c.in-Ok.sizes) (sym s.1 ∙ threads)
    (s.1, s.2, s.3, s.4, s.5, s.6) in
    let r : Renewals = record { reserve = c.args.reserve; generations = c.args.generations } in
    answer_refused c.in-Ok.sizes r c.args.k c.args.capacity n c.args.last are c.in-Ok.ensures.room few
    c.in-Err-open_seats.fault
    c.renew_status.result c.renew_status.ensures c.in-Err-open_seats.ensures.refused
