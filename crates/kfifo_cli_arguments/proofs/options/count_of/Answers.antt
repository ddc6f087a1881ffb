use Rattle.kfifo_cli_arguments.proofs.Numbers.{given}
use Rattle.kfifo_cli_arguments.proofs.options.count_of.Goals as goal

pub returns : goal.returns
returns c = record {
  given = c.get_one.result;
  gives = given 32 _ c.get_one.result c.get_one.ensures.none c.get_one.ensures.value;
  is = c.unwrap_or.ensures;
}
