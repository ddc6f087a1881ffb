use Rattle.kfifo_cli_arguments.proofs.Numbers.{given}
use Rattle.kfifo_cli_arguments.proofs.commands.draw.options_of.Goals as goal

pub returns : goal.returns
returns c = record {
  k = c.order_of.ensures.k;
  order = c.order_of.ensures.order;
  text = (c.get_flag.ensures.none, c.get_flag.ensures.value, c.get_flag.ensures.other);
  width = given 32 _ c.get_one.result c.get_one.ensures.none c.get_one.ensures.value;
  evidence = (c.get_flag-2.ensures.none, c.get_flag-2.ensures.value, c.get_flag-2.ensures.other);
  around = given 32 _ c.get_one-2.result c.get_one-2.ensures.none c.get_one-2.ensures.value;
  calls = c.get_str.ensures;
  lines = c.get_str-2.ensures;
  file = c.file_of.ensures;
}
