-- A step of a call that no other overlaps.
use Rattle.std.proofs.Common.{◌≡◌, ◌≢◌, ℕ, ◌+◌, ◌*◌, ◌-◌, ◌%◌, ◌<◌, ◌≤◌, Bool, true, false, refl, sym, ap, ◌∙◌, subst}
use Rattle.std.proofs.Common.{inl, inr, arith, cond, eqb-true}
use Rattle.std.specs.Prelude.{◌==◌, ◌&&◌, not, nat_lt, nat_le}
use Rattle.std.proofs.lemmas.Bool.{cases_eq, eqb-false}
use Rattle.std.proofs.lemmas.Bool.Decides.{nat_tests}
use Rattle.kfifo_machine.proofs.Types.{DequeuePhase, EnqueuePhase, Running, Shape}
use Rattle.kfifo_words.specs.Words.{value_of, version_of, head_of, tail_of}
use Rattle.kfifo_words.specs.Ring.{next_segment, distance}
use Rattle.kfifo_model.specs.declared.calls.Answer.TheVariants as A
use Rattle.kfifo_machine.specs.declared.place.Found.TheVariants.{Slot, Nothing}
use Rattle.kfifo_machine.specs.declared.place.EnqueuePhase.TheVariants as E
use Rattle.kfifo_machine.specs.declared.place.DequeuePhase.TheVariants as D
use Rattle.kfifo_machine.specs.declared.place.Running.TheVariants as R
use Rattle.kfifo_machine.specs.declared.place.Access.TheVariants.{Exchange}
use Rattle.kfifo_machine.specs.declared.place.Next.TheVariants.{Goes, Answers}
use Rattle.kfifo_machine.specs.Program.{access, accessed, advance, scan_index, filled_with, emptied, head_moved}
use Rattle.kfifo_machine.specs.Program.{tail_moved, head_held, enqueue_again, dequeue_again}
use Rattle.kfifo_machine.specs.Places.{IsEnds, IsPlace}
use Rattle.kfifo_machine.proofs.RoundsUndisturbed.{words_by}
use Rattle.kfifo_machine.proofs.Ahead.{next-apart}
use Rattle.kfifo_machine.proofs.EndsUndisturbed.{ends_change, slots_stay, tail_moved-head}
use Rattle.kfifo_machine.proofs.Filled.{filled-cyclic}
use Rattle.kfifo_machine.proofs.Between.{items_of, InSegment, scan-in, probed_items}
use Rattle.kfifo_machine.proofs.Counting.{Probed, Rests, Keeps, After, enqueue_again_after, dequeue_again_after}
use Rattle.kfifo_machine.proofs.Counting.{tail_on_after, head_on_after, hold_after, put_after, emptied_after, rest}
use Rattle.kfifo_machine.proofs.Counting.{full_after, distance-same}

some_item : (shape : Shape) (w : ℕ → ℕ) (s offset : ℕ) → offset < shape.k
    → value_of (w (scan_index shape s 0 offset)) ≢ 0
    → 1 ≤ items_of shape w s
unfolding scan_index
some_item shape w s offset within filled =
    filled-cyclic w (1 + s * shape.k) shape.k offset 1 within shape.some_slot
    (λ j less none. filled (ap (λ x. value_of (w (1 + s * shape.k + x % shape.k))) (let z : 0 + offset ≡ offset + j =
    omega arith in z)
    ∙ none))

nat_le-refl : (x : ℕ) → nat_le x x ≡ true
nat_le-refl x = grind (arith, nat_tests)

module _ (shape : Shape) (w : ℕ → ℕ) (done got item start left : ℕ) where
  enqueue_after : (phase : EnqueuePhase) (word : ℕ) → IsPlace shape (R.Enqueue item start left phase)
      → IsEnds shape (w 0)
      → Keeps shape w (R.Enqueue item start left phase) done got
      → word ≡ w (accessed (access shape (R.Enqueue item start left phase)))
      → After shape (words_by (access shape (R.Enqueue item start left phase)) w) done got
      (advance shape (R.Enqueue item start left phase) word)
  enqueue_after E.LoadEnds word place e k is =
      record { sees = (sym is, λ j less. absurd (omega arith)); between = k.between; items = k.items }
  enqueue_after (E.ScanTail ends offset) word place e k is = by_value (value_of word == 0) refl
    where
      more : value_of word ≢ 0 → Probed shape w ends start (offset + 1)
      more filled j less = elim (cases_eq j offset) [
        | inl same ↦
            λ none. filled (ap value_of is ∙ ap (λ x. value_of (w (scan_index shape (tail_of ends) start x))) (sym same)
            ∙ none)
        | inr ne ↦ k.sees.1 j (omega arith)
      ]

      by_probes : (b : Bool) → (offset + 1 == shape.probes) ≡ b → value_of word ≢ 0
          → After shape w done got (cond b (Goes (R.Enqueue item start left (E.Recheck ends Nothing)))
          (Goes (R.Enqueue item start left (E.ScanTail ends (offset + 1)))))
      by_probes true all filled = record {
        sees =
            (k.sees.0, subst (Probed shape w ends start) (eqb-true (offset + 1) shape.probes all) (more filled));
        between = k.between;
        items =
            k.items;
      }
      by_probes false some filled = record { sees = (k.sees.0, more filled); between = k.between; items = k.items }

      by_value : (b : Bool) → (value_of word == 0) ≡ b
          → After shape w done got (cond b (Goes (R.Enqueue item start left
          (E.Recheck ends (Slot (scan_index shape (tail_of ends) start offset) word))))
          (cond (offset + 1 == shape.probes) (Goes (R.Enqueue item start left (E.Recheck ends Nothing)))
          (Goes (R.Enqueue item start left (E.ScanTail ends (offset + 1))))))
      by_value true empty = record {
        sees = (k.sees.0, sym is, eqb-true (value_of word) 0 empty, scan-in shape (tail_of ends) start offset);
        between = k.between;
        items = k.items;
      }
      by_value false filled = by_probes (offset + 1 == shape.probes) refl (eqb-false (value_of word) 0 filled)
  enqueue_after (E.Recheck ends (Slot index seen)) word place e k is = by_ends (word == ends) refl
    where
      by_last : (b : Bool)
          → After shape w done got (cond b (Answers A.Worn) (Goes (R.Enqueue item start left (E.Put ends index seen))))
      by_last true = rest shape w (R.Enqueue item start left (E.Recheck ends (Slot index seen))) done got refl k
      by_last false = record { sees = k.sees; between = k.between; items = k.items }

      by_ends : (b : Bool) → (word == ends) ≡ b
          → After shape w done got (cond (not b) (enqueue_again item start left)
          (cond (nat_lt shape.last (version_of seen + 2)) (Answers A.Worn)
          (Goes (R.Enqueue item start left (E.Put ends index seen)))))
      by_ends true same = by_last (nat_lt shape.last (version_of seen + 2))
      by_ends false other = absurd (eqb-false word ends other (is ∙ k.sees.0))
  enqueue_after (E.Recheck ends Nothing) word place e k is = by_ends (word == ends) refl
    where
      by_last : (b : Bool) → next_segment shape.n (tail_of ends) ≢ head_of ends
          → After shape w done got (cond b (Answers A.Worn) (Goes (R.Enqueue item start left (E.MoveTail ends))))
      by_last true room = rest shape w (R.Enqueue item start left (E.Recheck ends Nothing)) done got refl k
      by_last false room = record { sees = (k.sees.0, room, k.sees.1); between = k.between; items = k.items }

      by_ring : (b : Bool) → (next_segment shape.n (tail_of ends) == head_of ends) ≡ b
          → After shape w done got (cond b (Goes (R.Enqueue item start left (E.ScanHead ends 0)))
          (cond (version_of ends == shape.last) (Answers A.Worn) (Goes (R.Enqueue item start left (E.MoveTail ends)))))
      by_ring true full = record {
        sees = (k.sees.0, eqb-true (next_segment shape.n (tail_of ends)) (head_of ends) full, k.sees.1);
        between = k.between;
        items = k.items;
      }
      by_ring false room =
          by_last (version_of ends == shape.last) (eqb-false (next_segment shape.n (tail_of ends)) (head_of ends) room)

      by_ends : (b : Bool) → (word == ends) ≡ b
          → After shape w done got (cond (not b) (enqueue_again item start left)
          (cond (next_segment shape.n (tail_of ends) == head_of ends)
          (Goes (R.Enqueue item start left (E.ScanHead ends 0)))
          (cond (version_of ends == shape.last) (Answers A.Worn) (Goes (R.Enqueue item start left (E.MoveTail ends))))))
      by_ends true same = by_ring (next_segment shape.n (tail_of ends) == head_of ends) refl
      by_ends false other = absurd (eqb-false word ends other (is ∙ k.sees.0))
  enqueue_after (E.Put ends index empty) word place e k is = by_test (word == empty) refl
    where
      v : ℕ → ℕ
      v = words_by (Exchange index empty (filled_with item empty)) w

      by_test : (b : Bool) → (word == empty) ≡ b
          → After shape (words_by (Exchange index empty (filled_with item empty)) w) done got
          (cond b (Goes (R.Enqueue item start left (E.ReloadSlot ends index (filled_with item empty))))
          (enqueue_again item start left))
      by_test true same = put_after shape w done got item start left ends index empty place.0 place.1 e place.4.0 k
      by_test false other = absurd (eqb-false word empty other (is ∙ k.sees.1))
  enqueue_after (E.ReloadSlot ends index filled) word place e k is = by_test (word == filled) refl
    where
      by_test : (b : Bool) → (word == filled) ≡ b
          → After shape w done got (cond b (Goes (R.Enqueue item start left (E.ReloadEnds ends index filled)))
          (Answers A.Done))
      by_test true same = record { sees = k.sees; between = k.between; items = k.items }
      by_test false other = absurd (eqb-false word filled other (is ∙ k.sees.1))
  enqueue_after (E.ReloadEnds ends index filled) word place e k is = by_head (tail_of ends == head_of word) refl
    where
      same_word : word ≡ ends
      same_word = is ∙ k.sees.0

      by_last : (b : Bool) → tail_of ends ≡ head_of word
          → After shape w done got (cond b (Goes (R.Enqueue item start left (E.Undo index filled true)))
          (Goes (R.Enqueue item start left (E.HoldHead ends index filled word))))
      by_last true meet = record {
        sees = (
          refl,
          k.sees.1,
          k.sees.2,
          ap tail_of k.sees.0 ∙ meet ∙ ap head_of is,
          subst (λ x. InSegment shape (tail_of x) index) (sym k.sees.0) k.sees.3,
        );
        between = k.between;
        items = k.items;
      }
      by_last false meet = record { sees = sym is; between = k.between; items = k.items }

      by_window : (b : Bool)
          → nat_le (distance shape.n (head_of word) (tail_of ends)) (distance shape.n (head_of word) (tail_of word)) ≡ b
          → After shape w done got
          (cond b (Answers A.Done) (Goes (R.Enqueue item start left (E.Undo index filled false))))
      by_window true inside = record { between = k.between; items = k.items }
      by_window false outside =
          absurd (let h : true ≡ false = sym (nat_le-refl (distance shape.n (head_of word) (tail_of ends)))
          ∙ ap (λ x. nat_le (distance shape.n (head_of word) (tail_of ends))
          (distance shape.n (head_of word) (tail_of x)))
          (sym same_word) ∙ outside in cc)

      by_head : (b : Bool) → (tail_of ends == head_of word) ≡ b
          → After shape w done got (cond b (cond (version_of word == shape.last)
          (Goes (R.Enqueue item start left (E.Undo index filled true)))
          (Goes (R.Enqueue item start left (E.HoldHead ends index filled word))))
          (cond (nat_le (distance shape.n (head_of word) (tail_of ends))
          (distance shape.n (head_of word) (tail_of word))) (Answers A.Done)
          (Goes (R.Enqueue item start left (E.Undo index filled false)))))
      by_head true meet = by_last (version_of word == shape.last) (eqb-true (tail_of ends) (head_of word) meet)
      by_head false apart = by_window (nat_le (distance shape.n (head_of word) (tail_of ends))
          (distance shape.n (head_of word) (tail_of word))) refl
  enqueue_after (E.HoldHead ends index filled held) word place e k is = by_test (word == held) refl
    where
      by_test : (b : Bool) → (word == held) ≡ b
          → After shape (words_by (Exchange 0 held (head_held held)) w) done got
          (cond b (Answers A.Done)
          (cond (shape.holds_again && not (left == 1))
          (Goes (R.Enqueue item start (left - 1) (E.ReloadSlot ends index filled)))
          (Goes (R.Enqueue item start left (E.Undo index filled false)))))
      by_test true same = hold_after shape w (done + 1) got held place.4.1 k.sees (record {
        between = k.between;
        items = k.items;
      })
      by_test false other = absurd (eqb-false word held other (is ∙ k.sees))
  enqueue_after (E.Undo index filled true) word place e k is = by_test (word == filled) refl
    where
      by_test : (b : Bool) → (word == filled) ≡ b
          → After shape (words_by (Exchange index filled (emptied filled)) w) done got
          (cond (not b) (Answers A.Done) (Answers A.Worn))
      by_test true same = emptied_after shape w done got index filled e k.sees.1 k.sees.2
          (subst (λ s. InSegment shape s index) k.sees.3 k.sees.4) k.between k.items
      by_test false other = absurd (eqb-false word filled other (is ∙ k.sees.1))
  enqueue_after (E.Undo index filled false) word place e k is = absurd (let h : false ≡ true = k.sees.0 in cc)
  enqueue_after (E.ScanHead ends offset) word place e k is = by_value (value_of word == 0) refl
    where
      by_last : (b : Bool)
          → After shape w done got (cond b (Answers A.Worn) (Goes (R.Enqueue item start left (E.MoveHead ends))))
      by_last true = rest shape w (R.Enqueue item start left (E.ScanHead ends offset)) done got refl k
      by_last false = record { sees = (k.sees.0, k.sees.1); between = k.between; items = k.items }

      by_end : (b : Bool) → After shape w done got
          (cond (not b) (Goes (R.Enqueue item start left (E.ScanHead ends (offset + 1))))
          (cond (version_of ends == shape.last) (Answers A.Worn) (Goes (R.Enqueue item start left (E.MoveHead ends)))))
      by_end true = by_last (version_of ends == shape.last)
      by_end false = record { sees = k.sees; between = k.between; items = k.items }

      by_value : (b : Bool) → (value_of word == 0) ≡ b
          → After shape w done got (cond (not b) (Goes (R.Enqueue item start left (E.ConfirmFull ends)))
          (cond (not (offset + 1 == shape.k)) (Goes (R.Enqueue item start left (E.ScanHead ends (offset + 1))))
          (cond (version_of ends == shape.last) (Answers A.Worn) (Goes (R.Enqueue item start left (E.MoveHead ends))))))
      by_value true empty = by_end (offset + 1 == shape.k)
      by_value false filled = record {
        sees = (
          k.sees.0,
          k.sees.1,
          k.sees.2,
          some_item shape w (head_of ends) offset place.4.1
              (λ none. eqb-false (value_of word) 0 filled (ap value_of is ∙ none)),
        );
        between = k.between;
        items = k.items;
      }
  enqueue_after (E.ConfirmFull ends) word place e k is = by_test (word == ends) refl
    where
      by_test : (b : Bool) → (word == ends) ≡ b
          → After shape w done got (cond b (Answers A.Full) (enqueue_again item start left))
      by_test true same = (
        rest shape w (R.Enqueue item start left (E.ConfirmFull ends)) done got refl k,
        full_after shape w done got item start left ends place.2 place.4 k,
      )
      by_test false other = absurd (eqb-false word ends other (is ∙ k.sees.0))
  enqueue_after (E.MoveHead ends) word place e k is =
      enqueue_again_after shape (words_by (Exchange 0 ends (head_moved shape ends)) w) done got item start left
      (head_on_after shape w done got ends place.4.0 k.sees.0
      (λ same. next-apart shape.n (head_of ends) shape.some_segments place.4.0.head
      (ap (next_segment shape.n) (sym same) ∙ k.sees.1))
      (rest shape w (R.Enqueue item start left (E.MoveHead ends)) done got refl k))
  enqueue_after (E.MoveTail ends) word place e k is =
      enqueue_again_after shape (words_by (Exchange 0 ends (tail_moved shape ends)) w) done got item start left
      (tail_on_after shape w done got ends place.4.0 k.sees.0 k.sees.1
      (λ _. probed_items shape w (tail_of ends) start place.2 k.sees.2)
      (rest shape w (R.Enqueue item start left (E.MoveTail ends)) done got refl k))

module _ (shape : Shape) (w : ℕ → ℕ) (done got start left : ℕ) where
  dequeue_after : (phase : DequeuePhase) (word : ℕ) → IsPlace shape (R.Dequeue start left phase) → IsEnds shape (w 0)
      → Keeps shape w (R.Dequeue start left phase) done got
      → word ≡ w (accessed (access shape (R.Dequeue start left phase)))
      → After shape (words_by (access shape (R.Dequeue start left phase)) w) done got
      (advance shape (R.Dequeue start left phase) word)
  dequeue_after D.LoadEnds word place e k is = record { sees = sym is; between = k.between; items = k.items }
  dequeue_after (D.ScanHead ends offset) word place e k is = by_value (value_of word == 0) refl
    where
      by_end : (b : Bool) → After shape w done got
          (cond b (Goes (R.Dequeue start left (D.Recheck ends Nothing)))
          (Goes (R.Dequeue start left (D.ScanHead ends (offset + 1)))))
      by_end true = record { sees = k.sees; between = k.between; items = k.items }
      by_end false = record { sees = k.sees; between = k.between; items = k.items }

      by_value : (b : Bool) → (value_of word == 0) ≡ b
          → After shape w done got (cond (not b) (Goes
          (R.Dequeue start left (D.Recheck ends (Slot (scan_index shape (head_of ends) start offset) word))))
          (cond (offset + 1 == shape.k) (Goes (R.Dequeue start left (D.Recheck ends Nothing)))
          (Goes (R.Dequeue start left (D.ScanHead ends (offset + 1))))))
      by_value true empty = by_end (offset + 1 == shape.k)
      by_value false filled = record {
        sees = (
          k.sees,
          sym is,
          eqb-false (value_of word) 0 filled,
          scan-in shape (head_of ends) start offset,
        );
        between = k.between;
        items = k.items;
      }
  dequeue_after (D.Recheck ends (Slot index seen)) word place e k is = by_ends (word == ends) refl
    where
      by_last : (b : Bool) → tail_of ends ≡ head_of ends
          → After shape w done got (cond b (Answers A.Worn) (Goes (R.Dequeue start left (D.MoveTail ends index seen))))
      by_last true meet = rest shape w (R.Dequeue start left (D.Recheck ends (Slot index seen))) done got refl k
      by_last false meet = record {
        sees = (k.sees.0, k.sees.1, k.sees.2, k.sees.3, meet);
        between = k.between;
        items = k.items;
      }

      by_head : (b : Bool) → (tail_of ends == head_of ends) ≡ b
          → After shape w done got (cond (not b) (Goes (R.Dequeue start left (D.Take ends index seen)))
          (cond (version_of ends == shape.last) (Answers A.Worn)
          (Goes (R.Dequeue start left (D.MoveTail ends index seen)))))
      by_head true meet = by_last (version_of ends == shape.last) (eqb-true (tail_of ends) (head_of ends) meet)
      by_head false apart = record {
        sees = (k.sees.1, k.sees.2, subst (λ x. InSegment shape (head_of x) index) (sym k.sees.0) k.sees.3);
        between = k.between;
        items = k.items;
      }

      by_ends : (b : Bool) → (word == ends) ≡ b → After shape w done got (cond (not b) (dequeue_again start left)
          (cond (not (tail_of ends == head_of ends)) (Goes (R.Dequeue start left (D.Take ends index seen)))
          (cond (version_of ends == shape.last) (Answers A.Worn)
          (Goes (R.Dequeue start left (D.MoveTail ends index seen))))))
      by_ends true same = by_head (tail_of ends == head_of ends) refl
      by_ends false other = absurd (eqb-false word ends other (is ∙ k.sees.0))
  dequeue_after (D.Recheck ends Nothing) word place e k is = by_ends (word == ends) refl
    where
      resting : Rests shape w done got
      resting = rest shape w (R.Dequeue start left (D.Recheck ends Nothing)) done got refl k

      by_last : (b : Bool) → tail_of ends ≢ head_of ends
          → After shape w done got (cond b (Answers A.Worn) (Goes (R.Dequeue start left (D.MoveHead ends))))
      by_last true apart = resting
      by_last false apart = record { sees = (k.sees, apart); between = k.between; items = k.items }

      by_head : (b : Bool) → (tail_of ends == head_of ends) ≡ b
          → After shape w done got (cond b (Answers A.Empty)
          (cond (version_of ends == shape.last) (Answers A.Worn) (Goes (R.Dequeue start left (D.MoveHead ends)))))
      by_head true meet = resting
      by_head false apart = by_last (version_of ends == shape.last) (eqb-false (tail_of ends) (head_of ends) apart)

      by_ends : (b : Bool) → (word == ends) ≡ b → After shape w done got (cond (not b) (dequeue_again start left)
          (cond (tail_of ends == head_of ends) (Answers A.Empty)
          (cond (version_of ends == shape.last) (Answers A.Worn) (Goes (R.Dequeue start left (D.MoveHead ends))))))
      by_ends true same = by_head (tail_of ends == head_of ends) refl
      by_ends false other = absurd (eqb-false word ends other (is ∙ k.sees))
  dequeue_after (D.MoveTail ends index filled) word place e k is = by_test (word == ends) refl
    where
      f : IsEnds shape ends
      f = subst (IsEnds shape) k.sees.0 e

      moved_on : Rests shape (words_by (Exchange 0 ends (tail_moved shape ends)) w) done got
      moved_on = tail_on_after shape w done got ends f k.sees.0
          (λ same. next-apart shape.n (tail_of ends) shape.some_segments f.tail (same ∙ sym k.sees.4))
          (λ above. absurd (let d : distance shape.n (head_of ends) (tail_of ends) ≡ 0 =
          ap (distance shape.n (head_of ends)) k.sees.4
          ∙ distance-same shape (head_of ends) f.head in omega arith))
          (rest shape w (R.Dequeue start left (D.MoveTail ends index filled)) done got refl k)

      at : words_by (Exchange 0 ends (tail_moved shape ends)) w 0 ≡ tail_moved shape ends
      at = ends_change w ends (tail_moved shape ends) k.sees.0

      by_test : (b : Bool) → (word == ends) ≡ b
          → After shape (words_by (Exchange 0 ends (tail_moved shape ends)) w) done got
          (cond b (Goes (R.Dequeue start left (D.Take ends index filled))) (dequeue_again start left))
      by_test true same = record {
        sees = (
          slots_stay w ends (tail_moved shape ends) index (let low = k.sees.3.low in omega arith) ∙ k.sees.1,
          k.sees.2,
          subst (λ s. InSegment shape s index) (sym (ap head_of at ∙ tail_moved-head shape ends f)) k.sees.3,
        );
        between = moved_on.between;
        items = (let c = moved_on.items in omega arith);
      }
      by_test false other = absurd (eqb-false word ends other (is ∙ k.sees.0))
  dequeue_after (D.Take ends index filled) word place e k is = by_test (word == filled) refl
    where
      by_test : (b : Bool) → (word == filled) ≡ b
          → After shape (words_by (Exchange index filled (emptied filled)) w) done got
          (cond b (Answers (A.Got (value_of filled))) (dequeue_again start left))
      by_test true same = emptied_after shape w done (got + 1) index filled e k.sees.0 k.sees.1 k.sees.2 k.between
          (let c = k.items in omega arith)
      by_test false other = absurd (eqb-false word filled other (is ∙ k.sees.0))
  dequeue_after (D.MoveHead ends) word place e k is =
      dequeue_again_after shape (words_by (Exchange 0 ends (head_moved shape ends)) w) done got start left
      (head_on_after shape w done got ends (subst (IsEnds shape) k.sees.0 e) k.sees.0 k.sees.1
      (rest shape w (R.Dequeue start left (D.MoveHead ends)) done got refl k))

pub lone_step : (shape : Shape) (w : ℕ → ℕ) (done got : ℕ) (running : Running) (word : ℕ) → IsPlace shape running
    → IsEnds shape (w 0)
    → Keeps shape w running done got → word ≡ w (accessed (access shape running))
    → After shape (words_by (access shape running) w) done got (advance shape running word)
lone_step shape w done got (R.Enqueue item start left phase) word place e k is =
    enqueue_after shape w done got item start left phase word place e k is
lone_step shape w done got (R.Dequeue start left phase) word place e k is =
    dequeue_after shape w done got start left phase word place e k is
