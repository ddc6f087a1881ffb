-- The types that most proofs of this crate name.
pub use Rattle.kfifo_model.specs.declared.calls.Call.{Call}
pub use Rattle.kfifo_model.specs.declared.calls.End.{End}
pub use Rattle.kfifo_model.specs.declared.calls.Op.{Op}
pub use Rattle.kfifo_model.specs.declared.effects.Effect.{Effect}
pub use Rattle.kfifo_model.specs.declared.rivals.Rival.{Rival}
