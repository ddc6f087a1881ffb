use Rattle.std.proofs.Common.{rules}
use Rattle.kfifo_cli_commands.proofs.commands.draw.marked.Goals as goal

pub returns : goal.returns
returns c =
    let drawn = rw (c.new-drawing.ensures.logged, c.new-drawing.ensures.part) at c.draw.ensures in
    search (rules, drawn)
