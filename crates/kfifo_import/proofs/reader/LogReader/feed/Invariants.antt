use Rattle.std.proofs.Common.{◌≡◌, ◌++◌, ◌-◌, ◌≤◌, ℕ, List, drop, length}
use Rattle.kfifo_import.specs.Readers.{Reads}
use Rattle.kfifo_import.proofs.reader.LogReader.feed.Given as goal

abbrev pub invariant-loop-at : goal.invariant-loop-at
invariant-loop-at l = (l.at ≤ length l.text) × (l.self.most ≡ l.fn.self.most) × (l.self.head ≡ l.fn.self.head)
    × ((whole more : List ℕ) → Reads l.fn.self whole (l.text ++ more) → Reads l.self whole (drop l.at l.text ++ more))

abbrev pub decreases-loop-at : goal.decreases-loop-at
decreases-loop-at l = length l.text - l.at
