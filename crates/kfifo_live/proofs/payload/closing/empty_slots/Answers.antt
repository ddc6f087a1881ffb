-- Each slot's value is taken in its turn.
use Rattle.std.proofs.Common.{◌++◌, [], ◌∷◌, ◌∙◌, ap, sym, arith, rules}
use lib.ListN.{get_elem?}
use Rattle.core.specs.Mem.Slots.{slots_items}
use Rattle.kfifo_live.proofs.Gathered.{take_next}
use Rattle.kfifo_live.proofs.payload.closing.empty_slots.Goals as goal

pub loop-index-preserved : goal.loop-index-preserved
loop-index-preserved g c =
    let i = c.loop-index.invariant in
    let t = c.take.ensures in
    let p = c.push_reserved.ensures in
    record {
      filled = search rules;
      emptied = search rules;
      size = search rules;
      same = search rules;
      room = omega (arith, i.room, p.capacity);
      read =
          p.items
          ∙ ap (λ xs. xs ++ c.take.result ∷ []) i.read
          ∙ sym (take_next (slots_items c.args.closed.slots) c.loop-index.index c.take.result
          (ap (λ xs. get_elem? xs c.loop-index.index) (sym i.same) ∙ t.value));
    }
