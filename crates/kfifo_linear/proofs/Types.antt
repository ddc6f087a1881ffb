-- The types that most proofs of this crate name.
pub use Rattle.kfifo_machine.specs.declared.event.Begin.{Begin}
pub use Rattle.kfifo_machine.specs.declared.event.Event.{Event}
pub use Rattle.kfifo_machine.specs.declared.event.Outcome.{Outcome}
pub use Rattle.kfifo_machine.specs.declared.place.Next.{Next}
pub use Rattle.kfifo_machine.specs.declared.place.Running.{Running}
pub use Rattle.kfifo_model.specs.declared.calls.Answer.{Answer}
pub use Rattle.kfifo_model.specs.declared.calls.Call.{Call}
pub use Rattle.kfifo_model.specs.declared.calls.End.{End}
pub use Rattle.kfifo_model.specs.declared.effects.Effect.{Effect}
pub use Rattle.kfifo_words.specs.declared.shape.Shape.{Shape}
