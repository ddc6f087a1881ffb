use Rattle.std.proofs.Common.{◌≡◌, false, true, lit<}
use Rattle.std.proofs.lemmas.Iterator.Consumers.{map_from_collect}
use Rattle.std.proofs.lemmas.Iterator.Splits.{YieldsList-from_str_split}
use Rattle.kfifo_cli_texts.proofs.Groups.{groups_told}
use Rattle.kfifo_cli_texts.proofs.picks.read_groups.Goals as goal

pub returns : goal.returns
returns c =
    let all = map_from_collect c.collect.result c.collect.ensures.ran
    (YieldsList-from_str_split {s = c.split.result} 44 c.args.text.now (lit< tt) c.split.ensures.text
    c.split.ensures.has_more
    c.split.ensures.pattern) in
    let parts = rw c.in_ok-parts.was at all in
    groups_told (λ v. v.items) c.args.text.now c.as_slice.result.now c.read_each_group.result
    (λ e. let bad : false ≡ true = rw e at c.if-eq.ensures in cc)
    (rw c.as_slice.ensures.value parts)
    c.read_each_group.ensures
