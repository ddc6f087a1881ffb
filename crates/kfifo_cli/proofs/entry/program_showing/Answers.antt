use Rattle.std.proofs.Common.{rules}
use Rattle.kfifo_cli.proofs.Printed.{ends_on, misuse_on, on_writer}
use Rattle.kfifo_cli.proofs.entry.program_showing.Goals as goal

pub returns : goal.returns
returns g c = (
  c.perform.new.input.failed,
  ends_on _ _ _ _ _ _ _ _ _
      (on_writer g.W.Write.contents c.new-output.result c.perform.new.output c.args.output.now _
      c.new-output.ensures.held
      (λ stays. search rules))
      (on_writer g.F.Write.contents c.new-faults.result c.perform.new.faults c.args.faults.now _
      c.new-faults.ensures.held
      (λ stays. search rules))
      (misuse_on _ _ _ (on_writer g.F.Write.contents c.new-faults.result c.perform.new.faults c.args.faults.now _
      c.new-faults.ensures.held
      (λ stays. search rules)))
      (rw (c.new-input.ensures.inner, c.new-input.ensures.failed) at c.perform.ensures),
)
