use Rattle.std.proofs.Common.{◌≡◌, ◌<◌, ◌+◌, take, length, count_by, ap, arith}
use Rattle.std.specs.List.{flat_map}
use Rattle.kfifo_model.specs.Rivals.{is_beaten}
use Rattle.kfifo_model.proofs.Counting.{next_block, few_in}
use Rattle.kfifo_model.proofs.blocks.count_in.Goals as goal

pub overflow_add-count : goal.overflow_add-count
overflow_add-count c =
    let i = c.loop-block.block-index in
    let blocks = c.args.blocks.now in
    let t = next_block (λ r. is_beaten c.args.last c.args.got r) blocks i c.block-item.result c.loop-block-test.true in
    let few = few_in (λ r. is_beaten c.args.last c.args.got r) blocks (i + 1) in
    let so_far : c.loop-block.count
    ≡ count_by (λ r. is_beaten c.args.last c.args.got r) (flat_map (λ b. b) (take i blocks)) =
    c.loop-block.invariant in
    let here : c.count-count.result ≡ count_by (λ r. is_beaten c.args.last c.args.got r) c.block-item.result =
    c.count-count.ensures in
    let block = ap (count_by (λ r. is_beaten c.args.last c.args.got r)) c.block-item.is in
    let bound : length (flat_map (λ b. b) blocks) < 9223372036854775808 = c.requires in
    omega arith

pub loop-block-preserved : goal.loop-block-preserved
loop-block-preserved c =
    let i = c.loop-block.block-index in
    let blocks = c.args.blocks.now in
    let t = next_block (λ r. is_beaten c.args.last c.args.got r) blocks i c.block-item.result c.loop-block-test.true in
    let so_far : c.loop-block.count
    ≡ count_by (λ r. is_beaten c.args.last c.args.got r) (flat_map (λ b. b) (take i blocks)) =
    c.loop-block.invariant in
    let here : c.count-count.result ≡ count_by (λ r. is_beaten c.args.last c.args.got r) c.block-item.result =
    c.count-count.ensures in
    let block = ap (count_by (λ r. is_beaten c.args.last c.args.got r)) c.block-item.is in
    let all : c.loop-block.count + c.count-count.result
    ≡ count_by (λ r. is_beaten c.args.last c.args.got r) (flat_map (λ b. b) (take (i + 1) blocks)) = omega arith in
    all
