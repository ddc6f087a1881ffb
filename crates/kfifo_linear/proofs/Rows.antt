-- The orders of the worked schedules, by computation.
use Rattle.std.proofs.Common.{◌≡◌, ℕ, ◌^◌, ◌<◌, ◌≤◌, List, [], ◌∷◌, Bool, false, refl}
use Rattle.kfifo_linear.proofs.Types.{Event, Shape}
use Rattle.kfifo_words.specs.Words.{slot_word, value_of, version_of, ends_word, head_of, tail_of}
use Rattle.kfifo_words.specs.Ring.{next_segment, distance}
use Rattle.kfifo_machine.specs.Program.{scan_index}
use Rattle.kfifo_machine.specs.Machine.{step, moved, found, opening, place_of, word_at}
use Rattle.kfifo_linear.specs.Ledger.{ledger_after, called, stepped, took_point, gone_point, settle_point, settle_visit}
use Rattle.kfifo_linear.specs.Ledger.{noted, blank}
use Rattle.kfifo_linear.specs.Roles.{spot}
use Rattle.kfifo_linear.specs.Order.{order_of}
use Rattle.kfifo_linear.specs.Rows.{put_behind, put_late, chosen_before, taken_after, ended_after, IsTwoByTwo, RowsHold}

-- what holds of the shape of these sizes, whatever shows that they are in their ranges
abbrev AtSizes : List Event → List ℕ → ℕ → ℕ → ℕ → ℕ → Bool → Type 0
AtSizes events order k n last probes holds_again =
    (a : 1 ≤ k) (b : k ≤ 64) (c : 2 ≤ n) (d : n ≤ 1024) (e : 2 ≤ last) (f : last < 2 ^ 40) (g : 1 ≤ probes)
    (h : probes ≤ k)
    → order_of (record {
      k = k;
      n = n;
      last = last;
      probes = probes;
      holds_again = holds_again;
      some_slot = a;
      few_slots = b;
      some_segments = c;
      few_segments = d;
      some_versions = e;
      few_versions = f;
      some_probe = g;
      few_probes = h;
    }) 3 events ≡ order

two_by_two : (shape : Shape) (events : List Event) (order : List ℕ) → IsTwoByTwo shape
    → AtSizes events order 2 2 1099511627775 2 false
    → order_of shape 3 events ≡ order
two_by_two shape events order is at =
    let all : AtSizes events order shape.k shape.n shape.last shape.probes shape.holds_again =
    rw (is.0, is.1, is.2, is.3, is.4) at in
    all shape.some_slot shape.few_slots shape.some_segments shape.few_segments shape.some_versions shape.few_versions
    shape.some_probe
    shape.few_probes

put_behind_order : AtSizes put_behind (0 ∷ 2 ∷ 3 ∷ 1 ∷ []) 2 2 1099511627775 2 false
unfolding scan_index step moved found opening place_of word_at slot_word value_of version_of ends_word head_of tail_of
    next_segment distance
    ledger_after called stepped took_point gone_point settle_point settle_visit noted blank spot
put_behind_order a b c d e f g h = refl

put_late_order : AtSizes put_late (0 ∷ 1 ∷ 2 ∷ 3 ∷ 4 ∷ 5 ∷ []) 2 2 1099511627775 2 false
unfolding scan_index step moved found opening place_of word_at slot_word value_of version_of ends_word head_of tail_of
    next_segment distance
    ledger_after called stepped took_point gone_point settle_point settle_visit noted blank spot
put_late_order a b c d e f g h = refl

chosen_before_order : AtSizes chosen_before (0 ∷ 2 ∷ 3 ∷ 5 ∷ []) 2 2 1099511627775 2 false
unfolding scan_index step moved found opening place_of word_at slot_word value_of version_of ends_word head_of tail_of
    next_segment distance
    ledger_after called stepped took_point gone_point settle_point settle_visit noted blank spot
chosen_before_order a b c d e f g h = refl

taken_after_order : AtSizes taken_after (0 ∷ 1 ∷ 2 ∷ 3 ∷ 4 ∷ 5 ∷ []) 2 2 1099511627775 2 false
unfolding scan_index step moved found opening place_of word_at slot_word value_of version_of ends_word head_of tail_of
    next_segment distance
    ledger_after called stepped took_point gone_point settle_point settle_visit noted blank spot
taken_after_order a b c d e f g h = refl

ended_after_order : AtSizes ended_after (0 ∷ 1 ∷ 2 ∷ 3 ∷ 4 ∷ 5 ∷ []) 2 2 1099511627775 2 false
unfolding scan_index step moved found opening place_of word_at slot_word value_of version_of ends_word head_of tail_of
    next_segment distance
    ledger_after called stepped took_point gone_point settle_point settle_visit noted blank spot
ended_after_order a b c d e f g h = refl

pub rows_hold : (shape : Shape) → IsTwoByTwo shape → RowsHold shape
rows_hold shape is = record {
  behind = two_by_two shape put_behind (0 ∷ 2 ∷ 3 ∷ 1 ∷ []) is put_behind_order;
  late = two_by_two shape put_late (0 ∷ 1 ∷ 2 ∷ 3 ∷ 4 ∷ 5 ∷ []) is put_late_order;
  before = two_by_two shape chosen_before (0 ∷ 2 ∷ 3 ∷ 5 ∷ []) is chosen_before_order;
  taken = two_by_two shape taken_after (0 ∷ 1 ∷ 2 ∷ 3 ∷ 4 ∷ 5 ∷ []) is taken_after_order;
  ended = two_by_two shape ended_after (0 ∷ 1 ∷ 2 ∷ 3 ∷ 4 ∷ 5 ∷ []) is ended_after_order;
}
