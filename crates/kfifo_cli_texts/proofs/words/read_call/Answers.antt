use Rattle.std.proofs.Common.{◌≡◌, false, true, arith}
use Rattle.std.proofs.lemmas.Str.Pattern.{strip_prefix_char}
use Rattle.kfifo_cli_texts.proofs.Calls.{no_call, no_item, no_name}
use Rattle.kfifo_cli_texts.proofs.words.read_call.Goals as goal

pub returns-in_err-name : goal.returns-in_err-name
returns-in_err-name c = rw c.from_residual.ensures (no_call c.args.k c.args.turns c.args.word.now c.in_err-name.ensures)

pub returns-in_err-item-in-Some : goal.returns-in_err-item-in-Some
returns-in_err-item-in-Some c =
    let stripped = strip_prefix_char 101 c.in_ok-name.name.now c.strip_prefix.result c.strip_prefix.ensures.cases
    (omega arith) in
    let here = rw c.in-Some.is at stripped in
    rw c.from_residual-in_err-item-in-Some.ensures
    (no_item c.args.k c.args.turns c.args.word.now c.in_ok-name.name.now c.in-Some.number.now c.in_ok-name.start
    c.in_ok-name.ensures here c.in_err-item-in-Some.ensures)

pub returns-in-None-2 : goal.returns-in-None-2
returns-in-None-2 c =
    let stripped = strip_prefix_char 101 c.in_ok-name.name.now c.strip_prefix.result c.strip_prefix.ensures.cases
    (omega arith) in
    let here = rw c.in-None.is at stripped in
    no_name c.args.k c.args.turns c.args.word.now c.in_ok-name.name.now c.in_ok-name.start c.in_ok-name.ensures here
    (λ e. let bad : false ≡ true = rw e at c.if-eq.ensures in cc)
