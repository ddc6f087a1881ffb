use Rattle.std.proofs.Common.{◌≡◌, ◌+◌, ◌<◌, ℕ, Some, length, slice_get}
use Rattle.kfifo_renewing.specs.History.{label_of}
use Rattle.kfifo_renewing.proofs.label.label_all.Given as goal

-- the places so far have their labels, and the next pen is that of the next place
abbrev pub invariant-loop-place : goal.invariant-loop-place
invariant-loop-place l = record {
  book : l.pens.book ≡ l.fn.pens.book;
  next : l.pens.next ≡ label_of l.place;
  left : l.pens.left + l.place ≡ l.fn.pens.left;
  count : length l.labels.items ≡ l.place;
  each : (i : ℕ) → i < l.place → slice_get l.labels.items i ≡ Some (record { place = i; book = l.fn.pens.book });
}
