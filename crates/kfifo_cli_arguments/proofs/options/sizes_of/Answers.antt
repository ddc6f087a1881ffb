use Rattle.kfifo_cli_arguments.proofs.Numbers.{given}
use Rattle.kfifo_cli_arguments.proofs.options.sizes_of.Goals as goal

pub returns : goal.returns
returns c = record {
  k_given = c.count_of.ensures;
  segments_given = c.count_of-2.ensures;
  last_given = record {
    given = c.get_one.result;
    gives = given 64 _ c.get_one.result c.get_one.ensures.none c.get_one.ensures.value;
    is = c.unwrap_or.ensures;
  };
  probes_given = given 32 _ c.get_one-2.result c.get_one-2.ensures.none c.get_one-2.ensures.value;
  hold_again_given = (c.get_flag.ensures.none, c.get_flag.ensures.value, c.get_flag.ensures.other);
}
