use Rattle.std.proofs.Common.{length, map, reverse, sym, ap, ◌∙◌}
use Rattle.kfifo_c.proofs.HandleLists.{items, read_seats}
use Rattle.kfifo_c.proofs.Passes.{length_read, length_seats}
use Rattle.kfifo_c.proofs.opening.kfifo_c_open.Goals as goal

pub put_all-requires : goal.put_all-requires
put_all-requires c =
    let o = c.in-Ok-open_seats.ensures.ok in
    sym (length_read (λ s. s.value) c.in-Ok-open_seats.seats.items) ∙ ap length o.new
    ∙ length_seats o.queue 0 (length c.args.passes.now)

pub returns-in-Ok-open_seats-clause-ok : goal.returns-in-Ok-open_seats-clause-ok
returns-in-Ok-open_seats-clause-ok c = λ _. let is = c.in-Ok.ensures in record {
  shape = c.in-Ok.shape;
  k_is = is.0;
  segments_are = is.1;
  last_is = is.2;
  probes_are = is.3;
  holds_again = is.4;
  seats = reverse (map (λ seat. seat.value) c.in-Ok-open_seats.seats.items);
  opens = c.in-Ok-open_seats.ensures.ok;
  handles_are = ap (map items.read) c.put_all.ensures.behind ∙ read_seats items _;
}
