use Rattle.std.proofs.Common.{arith, rules}
use Rattle.kfifo_cli_texts.proofs.Numbers.{parsed}
use Rattle.kfifo_cli_texts.proofs.words.read_number.Goals as goal
use Rattle.kfifo_cli_texts.proofs.words.read_number.Goals.{then-text-gt10-via-then-text-gt10}
use Rattle.kfifo_cli_texts.proofs.words.read_number.Goals.{then-text-gt10-via-else-text-gt10+then-not-is_digits}

pub returns-then-text-gt10 : goal.returns-then-text-gt10
returns-then-text-gt10 c = elim c.then-text-gt10.branch [
  | then-text-gt10-via-then-text-gt10 w ↦ λ n written. omega (arith, written.few)
  | then-text-gt10-via-else-text-gt10+then-not-is_digits w ↦ λ n written. search (rules, written.digits)
]

pub returns : goal.returns
returns c = rw c.ok.ensures.value (parsed c.args.text.now c.parse.result c.parse.ensures.value.0 (search rules)
    (omega arith))
