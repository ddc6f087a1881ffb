use Rattle.std.proofs.Common.{◌≡◌, ℕ, List, IfOk, MatchOption, lit<, subst}
use Rattle.std.proofs.lemmas.Iterator.Consumers.{map_from_collect}
use Rattle.std.proofs.lemmas.Iterator.Splits.{YieldsList-from_str_split}
use Rattle.kfifo_machine.specs.declared.event.Begin.{Begin}
use Rattle.kfifo_cli_texts.specs.Orders.{comma_parts}
use Rattle.kfifo_cli_texts.specs.Scripts.{texts_of}
use Rattle.kfifo_cli_texts.specs.Words.{EachWrites, WritesCall}
use Rattle.kfifo_cli_texts.proofs.words.read_script.Goals as goal

pub returns : goal.returns
returns c =
    let all = map_from_collect c.collect.result c.collect.ensures.ran
    (YieldsList-from_str_split {s = c.split.result} 44 c.args.text.now (lit< tt) c.split.ensures.text
    c.split.ensures.has_more
    c.split.ensures.pattern) in
    let parts = rw c.in_ok-parts.was at all in
    let same : texts_of c.as_slice.result.now ≡ comma_parts c.args.text.now = rw c.as_slice.ensures.value parts in
    subst (λ (ts : List (List ℕ)). IfOk c.read_each_call.result
    (λ read. MatchOption read ((script : List Begin) → EachWrites (WritesCall c.args.k c.args.turns) ts script → ⊥)
    (λ script. EachWrites (WritesCall c.args.k c.args.turns) ts script.items))) same c.read_each_call.ensures
