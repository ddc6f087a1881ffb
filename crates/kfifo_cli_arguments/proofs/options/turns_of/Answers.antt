use Rattle.kfifo_cli_arguments.proofs.Numbers.{given}
use Rattle.kfifo_cli_arguments.proofs.options.turns_of.Goals as goal

pub returns-clause-given : goal.returns-clause-given
returns-clause-given c = (
  c.unwrap_or.result,
  record {
    given = c.get_one.result;
    gives = given 16 _ c.get_one.result c.get_one.ensures.none c.get_one.ensures.value;
    is = c.unwrap_or.ensures;
  },
  c.max.ensures,
)
