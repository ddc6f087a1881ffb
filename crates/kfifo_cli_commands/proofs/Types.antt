-- The types that most proofs of this crate name.
pub use Rattle.kfifo_cli_texts.specs.declared.fault.Fault.{Fault}
pub use Rattle.kfifo_cli_texts.specs.declared.picks.Group.{Group}
pub use Rattle.kfifo_machine.specs.declared.event.Begin.{Begin}
pub use Rattle.kfifo_words.specs.declared.shape.Shape.{Shape}
