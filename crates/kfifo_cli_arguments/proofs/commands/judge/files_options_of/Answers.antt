use Rattle.kfifo_cli_arguments.proofs.commands.judge.files_options_of.Goals as goal

pub returns : goal.returns
returns c = record {
  k = c.places_of.ensures.given;
  tries = c.tries_of.ensures;
  show = (c.get_flag.ensures.none, c.get_flag.ensures.value, c.get_flag.ensures.other);
  json = (c.get_flag-2.ensures.none, c.get_flag-2.ensures.value, c.get_flag-2.ensures.other);
  several = c.requires;
  files = c.files_of.ensures;
}
