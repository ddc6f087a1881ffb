-- The types that most proofs of this crate name.
pub use Rattle.kfifo_machine.specs.declared.event.Begin.{Begin}
pub use Rattle.kfifo_machine.specs.declared.event.Event.{Event}
pub use Rattle.kfifo_machine.specs.declared.event.Outcome.{Outcome}
pub use Rattle.kfifo_machine.specs.declared.place.Running.{Running}
pub use Rattle.kfifo_words.specs.declared.shape.Shape.{Shape}
