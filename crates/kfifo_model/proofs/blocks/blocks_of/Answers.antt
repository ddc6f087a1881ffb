use Rattle.std.proofs.Common.{◌≡◌, ◌∙◌, ◌+◌, ◌++◌, List, [], ◌∷◌, min, length, take, ap, arith}
use Rattle.std.specs.List.{flat_map}
use Rattle.std.proofs.lemmas.Grind.{flat_map-append}
use Rattle.std.proofs.lemmas.List.{append-nil}
use Rattle.kfifo_model.proofs.Types.{Rival}
use Rattle.kfifo_model.proofs.Counting.{range_next}
use Rattle.kfifo_model.proofs.blocks.blocks_of.Goals as goal

pub loop-from-preserved : goal.loop-from-preserved
loop-from-preserved c =
    let rivals = c.args.rivals.now in
    let from = c.loop-from.from in
    let to = c.min-to.result in
    let before = c.loop-from.blocks.items in
    let least : to ≡ min (length rivals) (from + 512) = c.min-to.ensures in
    let some = c.in_ok-some.ensures.items in
    let block : List Rival = c.in_ok-of.field-0 in record {
      within = omega arith;
      so_far =
          ap (flat_map (λ b. b)) c.in_ok-push.ensures.items
          ∙ flat_map-append (λ b. b) before (block ∷ [])
          ∙ (λ i. c.loop-from.invariant.so_far i ++ append-nil block i)
          ∙ ap (λ xs. take from rivals ++ xs) (c.in_ok-of.ensures ∙ some)
          ∙ range_next rivals from to (let w = c.loop-from.invariant.within in omega arith) (omega arith);
    }
