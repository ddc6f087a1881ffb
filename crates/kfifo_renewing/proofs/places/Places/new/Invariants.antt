use Rattle.std.proofs.Common.{◌≡◌, All, length}
use Rattle.kfifo_renewing.proofs.places.Places.new.Given as goal

-- each place has this lineage
abbrev pub invariant-loop : goal.invariant-loop
invariant-loop g l = record {
  each : All (λ lineage. lineage ≡ l.fn.lineage) l.places.items;
  count : length l.places.items ≡ l.counter;
}
