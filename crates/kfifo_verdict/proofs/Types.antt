-- The types that most proofs of this crate name.
pub use Rattle.kfifo_model.specs.declared.calls.Call.{Call}
pub use Rattle.kfifo_model.specs.declared.calls.End.{End}
pub use Rattle.kfifo_model.specs.declared.effects.Effect.{Effect}
pub use Rattle.kfifo_verdict.specs.declared.finding.Stay.{Stay}
pub use Rattle.kfifo_verdict.specs.declared.presences.Presence.{Presence}
pub use Rattle.kfifo_verdict.specs.declared.tallies.Tally.{Tally}
pub use Rattle.kfifo_verdict.specs.declared.turns.Turn.{Turn}
