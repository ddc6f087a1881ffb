use Rattle.std.proofs.Common.{◌≡◌, ℕ, ◌<◌, length, get_or, Bor, List}
use Rattle.kfifo_machine.specs.declared.event.Begin.{Begin}
use Rattle.kfifo_cli_texts.specs.Words.{WritesCall}
use Rattle.kfifo_cli_texts.proofs.words.read_calls.Given as goal

abbrev pub invariant-loop-index : goal.invariant-loop-index
invariant-loop-index l = record {
  count : length l.calls.items ≡ l.index;
  each : (i : ℕ) → i < l.index → (word : Bor (List ℕ)) (call : Begin)
      → WritesCall l.k l.turns (get_or l.texts i word).now (get_or l.calls.items i call);
}
