-- The types that most proofs of this crate name.
pub use Rattle.kfifo_live.specs.declared.view.Hand.{Hand}
pub use Rattle.kfifo_live.specs.declared.view.Opening.{Opening}
pub use Rattle.kfifo_live.specs.declared.view.Part.{Part}
pub use Rattle.kfifo_live.specs.declared.view.View.{View}
pub use Rattle.kfifo_machine.specs.declared.event.Begin.{Begin}
pub use Rattle.kfifo_machine.specs.declared.event.Event.{Event}
pub use Rattle.kfifo_machine.specs.declared.place.EnqueuePhase.{EnqueuePhase}
pub use Rattle.kfifo_machine.specs.declared.place.Next.{Next}
pub use Rattle.kfifo_machine.specs.declared.place.Running.{Running}
pub use Rattle.kfifo_model.specs.declared.calls.Answer.{Answer}
pub use Rattle.kfifo_model.specs.declared.calls.Call.{Call}
pub use Rattle.kfifo_words.specs.declared.shape.Shape.{Shape}
