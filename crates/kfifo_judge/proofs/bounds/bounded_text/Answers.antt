use Rattle.std.proofs.Common.{rules}
use Rattle.kfifo_judge.proofs.bounds.bounded_text.Goals as goal

pub returns-in-Some : goal.returns-in-Some
returns-in-Some c = record {
  found = c.in-Some.found;
  first = rw c.in-Some.is at c.in_ok-found.ensures.first;
  refuted = rw c.in-Some.is at c.in_ok-found.ensures.refutes;
  told = search rules;
}

pub returns : goal.returns
returns c = record {
  none = rw c.in_default.is at c.in_ok-found.ensures.first;
  are = c.in_ok-bounds.ensures;
  told = search rules;
}
