-- Each slot's item is read in its turn.
use Rattle.std.proofs.Common.{◌≡◌, ◌≢◌, ◌+◌, ◌++◌, [], ◌∷◌, get_or, sym, ap, ◌∙◌, arith}
use Rattle.kfifo_words.specs.Words.{value_of}
use Rattle.kfifo_live.specs.Left.{item_in}
use Rattle.kfifo_live.proofs.Leftovers.{segment_left, reads_slot, filled_item, no_item}
use Rattle.kfifo_live.proofs.closing.read_items.Goals as goal
use Rattle.kfifo_live.proofs.closing.read_items.Goals.{then-item-ne0+in_ok-push, else-item-ne0}

pub slots-init : goal.slots-init
slots-init c =
    ap (λ xs. c.segments.items.items ++ xs) (segment_left c.args.shape.now c.args.words.now c.segments.segment
    c.segments.count
    c.slot_index-first.result (omega (arith, c.segments-test.true, c.n-count-end.ensures))
    c.slot_index-first.ensures.value)
    ∙ c.segments.invariant.all

pub slots-preserved : goal.slots-preserved
slots-preserved c =
    let word = get_or c.args.words.now (c.slot_index-first.result + c.slots.slot) 0 in
    let item : c.value-item.result ≡ value_of word = c.value-item.ensures.value
    ∙ ap value_of c.of_bits-in-slots.ensures in
    let read : c.if-item-ne0.items.items ≡ c.slots.items.items ++ item_in word =
    elim c.if-item-ne0.branch [
      | then-item-ne0+in_ok-push w ↦
          let filled : value_of word ≢ 0 = λ e. w.if-item-ne0.true (item ∙ e) in
          ap (λ v. v.items) w.items-is ∙ w.in_ok-push.ensures.items ∙ ap (λ n. c.slots.items.items ++ n ∷ []) item
          ∙ ap (λ xs. c.slots.items.items ++ xs) (sym (filled_item word filled))
      | else-item-ne0 w ↦ ap (λ v. v.items) w.items-is
          ∙ no_item c.slots.items.items word (sym item ∙ w.if-item-ne0.false)
    ] in
    reads_slot c.args.words.now c.slots.items.items c.if-item-ne0.items.items _ _ c.slot_index-first.result c.slots.slot
    c.args.shape.now.k
    (omega (arith, c.slots-test.true, c.k-slot-end.ensures)) c.slots.invariant read
