use Rattle.std.proofs.Common.{◌++◌, [], ◌∷◌, ap, sym, ◌∙◌, arith}
use Rattle.core.specs.Mem.Slots.{slots_items}
use Rattle.kfifo_live.proofs.Gathered.{take_next}
use Rattle.kfifo_live.proofs.closing.read_words.Goals as goal

pub loop-index-preserved : goal.loop-index-preserved
loop-index-preserved g c = record {
  room = omega (arith, c.loop-index.invariant.room, c.push_reserved.ensures.capacity);
  read = c.push_reserved.ensures.items ∙ ap (λ ws. ws ++ c.word.result ∷ []) c.loop-index.invariant.read
      ∙ sym (take_next (slots_items c.args.closed.now.words) c.loop-index.index c.word.result c.word.ensures);
}
