use Rattle.std.proofs.Common.{◌≡◌, ◌∙◌, true, false, lit<, ap, sym, inl, rules, codes}
use Rattle.std.proofs.lemmas.Iterator.Consumers.{map_from_collect}
use Rattle.std.proofs.lemmas.Iterator.Splits.{YieldsList-from_str_split}
use Rattle.kfifo_cli_texts.specs.Orders.{trimmed}
use Rattle.kfifo_cli_texts.proofs.Orders.{spaced_told, trim_is}
use Rattle.kfifo_cli_texts.proofs.order.read_spaced_order.Goals as goal

pub returns-then-eq : goal.returns-then-eq
returns-then-eq c =
    let none : c.trim_ascii.result.now ≡ codes "none" = search rules in
    let trim : c.trim_ascii.result.now ≡ trimmed c.in-Ok.text.now =
    trim_is c.in-Ok.text.now c.trim_ascii.result.now c.trim_ascii.ensures.value in
    (c.in-Ok.ensures.cases.1, inl (ap trimmed (sym c.in-Ok.ensures.cases.0) ∙ (sym trim ∙ none), c.new.ensures.items))

pub returns : goal.returns
returns c =
    let all = map_from_collect c.collect.result c.collect.ensures.ran
    (YieldsList-from_str_split {s = c.split.result} 44 c.in-Ok.text.now (lit< tt) c.split.ensures.text
    c.split.ensures.has_more
    c.split.ensures.pattern) in
    let parts = rw c.in_ok-parts.was at all in
    spaced_told (λ v. v.items) c.args.bytes.now c.in-Ok.text.now c.as_slice.result.now c.read_numbers.result
    (sym c.in-Ok.ensures.cases.0)
    c.in-Ok.ensures.cases.1
    (λ e.
    let same : c.trim_ascii.result.now ≡ codes "none" =
    trim_is c.in-Ok.text.now c.trim_ascii.result.now c.trim_ascii.ensures.value ∙ e in
    let bad : false ≡ true = rw same at c.if-eq.ensures in cc)
    (rw c.as_slice.ensures.value parts)
    c.read_numbers.ensures
