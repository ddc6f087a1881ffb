-- What a call sees while no other overlaps it, and how many items there are.
use Rattle.std.proofs.Common.{◌≡◌, ◌≢◌, ℕ, ◌+◌, ◌*◌, ◌-◌, ◌<◌, ◌≤◌, Bool, true, false, sym, ap, ◌∙◌, subst, inl, inr}
use Rattle.std.proofs.Common.{arith, cond}
use Rattle.std.specs.Prelude.{◌==◌}
use Rattle.std.proofs.lemmas.Bool.{cases_eq}
use Rattle.std.proofs.lemmas.Bool.Decides.{nat_tests}
use Rattle.kfifo_machine.proofs.Types.{DequeuePhase, EnqueuePhase, Next, Running, Shape}
use Rattle.kfifo_words.specs.Words.{slot_word, value_of, version_of, head_of, tail_of}
use Rattle.kfifo_words.specs.Ring.{next_segment, distance}
use Rattle.kfifo_model.specs.declared.calls.Answer.TheVariants as A
use Rattle.kfifo_machine.specs.declared.place.Found.TheVariants.{Slot, Nothing}
use Rattle.kfifo_machine.specs.declared.place.EnqueuePhase.TheVariants as E
use Rattle.kfifo_machine.specs.declared.place.DequeuePhase.TheVariants as D
use Rattle.kfifo_machine.specs.declared.place.Running.TheVariants as R
use Rattle.kfifo_machine.specs.declared.place.Access.TheVariants.{Exchange}
use Rattle.kfifo_machine.specs.declared.place.Next.TheVariants.{Goes, Answers}
use Rattle.kfifo_machine.specs.Program.{scan_index, filled_with, emptied, head_moved, tail_moved, head_held}
use Rattle.kfifo_machine.specs.Program.{enqueue_again, dequeue_again}
use Rattle.kfifo_machine.specs.Places.{IsEnds}
use Rattle.kfifo_machine.proofs.RoundsUndisturbed.{words_by}
use Rattle.kfifo_machine.proofs.NoWrap.{head-ends_word, tail-ends_word}
use Rattle.kfifo_machine.proofs.Ahead.{distance-value, distance-below, distance-full}
use Rattle.kfifo_machine.proofs.EndsUndisturbed.{slots_stay, ends_change, tail_moved-tail, tail_moved-head}
use Rattle.kfifo_machine.proofs.EndsUndisturbed.{head_moved-tail, head_moved-head}
use Rattle.kfifo_machine.proofs.Filled.{holds, holds-filled, holds-empty, filled-but_one}
use Rattle.kfifo_machine.proofs.Between.{items_of, all_items, Between, between-tail_on, between-head_on, between-same}
use Rattle.kfifo_machine.proofs.Between.{items-same, all-same, distance-injective, InSegment, all-change, items-change}
use Rattle.kfifo_machine.proofs.Between.{items-other, probed_items}

abbrev pub Probed : Shape → (ℕ → ℕ) → ℕ → ℕ → ℕ → Type 0
Probed shape w ends start offset = (j : ℕ) → j < offset → value_of (w (scan_index shape (tail_of ends) start j)) ≢ 0

abbrev pub EnqueueSees : Shape → (ℕ → ℕ) → ℕ → EnqueuePhase → Type 0
EnqueueSees shape w start E.LoadEnds = Unit {0}
EnqueueSees shape w start (E.ScanTail ends offset) = (w 0 ≡ ends) × Probed shape w ends start offset
EnqueueSees shape w start (E.Recheck ends Nothing) = (w 0 ≡ ends) × Probed shape w ends start shape.probes
EnqueueSees shape w start (E.Recheck ends (Slot index seen)) = (w 0 ≡ ends) × (w index ≡ seen) × (value_of seen ≡ 0)
    × InSegment shape (tail_of ends) index
EnqueueSees shape w start (E.Put ends index empty) = (w 0 ≡ ends) × (w index ≡ empty) × (value_of empty ≡ 0)
    × InSegment shape (tail_of ends) index
EnqueueSees shape w start (E.ReloadSlot ends index filled) = (w 0 ≡ ends) × (w index ≡ filled) × (value_of filled ≢ 0)
    × InSegment shape (tail_of ends) index
EnqueueSees shape w start (E.ReloadEnds ends index filled) = (w 0 ≡ ends) × (w index ≡ filled) × (value_of filled ≢ 0)
    × InSegment shape (tail_of ends) index
EnqueueSees shape w start (E.HoldHead ends index filled held) = w 0 ≡ held
EnqueueSees shape w start (E.Undo index filled worn) = (worn ≡ true) × (w index ≡ filled) × (value_of filled ≢ 0)
    × (tail_of (w 0) ≡ head_of (w 0)) × InSegment shape (tail_of (w 0)) index
EnqueueSees shape w start (E.ScanHead ends offset) = (w 0 ≡ ends) × (next_segment shape.n (tail_of ends) ≡ head_of ends)
    × Probed shape w ends start shape.probes
EnqueueSees shape w start (E.ConfirmFull ends) = (w 0 ≡ ends) × (next_segment shape.n (tail_of ends) ≡ head_of ends)
    × Probed shape w ends start shape.probes × (1 ≤ items_of shape w (head_of ends))
EnqueueSees shape w start (E.MoveHead ends) = (w 0 ≡ ends) × (next_segment shape.n (tail_of ends) ≡ head_of ends)
EnqueueSees shape w start (E.MoveTail ends) = (w 0 ≡ ends) × (next_segment shape.n (tail_of ends) ≢ head_of ends)
    × Probed shape w ends start shape.probes

abbrev pub DequeueSees : Shape → (ℕ → ℕ) → DequeuePhase → Type 0
DequeueSees shape w D.LoadEnds = Unit {0}
DequeueSees shape w (D.ScanHead ends offset) = w 0 ≡ ends
DequeueSees shape w (D.Recheck ends Nothing) = w 0 ≡ ends
DequeueSees shape w (D.Recheck ends (Slot index seen)) = (w 0 ≡ ends) × (w index ≡ seen) × (value_of seen ≢ 0)
    × InSegment shape (head_of ends) index
DequeueSees shape w (D.MoveTail ends index filled) = (w 0 ≡ ends) × (w index ≡ filled) × (value_of filled ≢ 0)
    × InSegment shape (head_of ends) index × (tail_of ends ≡ head_of ends)
DequeueSees shape w (D.Take ends index filled) = (w index ≡ filled) × (value_of filled ≢ 0)
    × InSegment shape (head_of (w 0)) index
DequeueSees shape w (D.MoveHead ends) = (w 0 ≡ ends) × (tail_of ends ≢ head_of ends)

abbrev pub Sees : Shape → (ℕ → ℕ) → Running → Type 0
Sees shape w (R.Enqueue item start left phase) = EnqueueSees shape w start phase
Sees shape w (R.Dequeue start left phase) = DequeueSees shape w phase

-- an item that was put and not yet answered
abbrev pub pending_in : EnqueuePhase → ℕ
pending_in (E.ReloadSlot ends index filled) = 1
pending_in (E.ReloadEnds ends index filled) = 1
pending_in (E.HoldHead ends index filled held) = 1
pending_in (E.Undo index filled worn) = 1
pending_in other = 0

abbrev pub pending : Running → ℕ
pending (R.Enqueue item start left phase) = pending_in phase
pending (R.Dequeue start left phase) = 0

-- between two calls, after so many answers Done and Got
pub record Rests (shape : Shape) (w : ℕ → ℕ) (done got : ℕ) : Type 0 where
  pub between : Between shape w (head_of (w 0)) (tail_of (w 0))
  pub items : all_items shape w + got ≡ done

-- within a call
pub record Keeps (shape : Shape) (w : ℕ → ℕ) (running : Running) (done got : ℕ) : Type 0 where
  pub sees : Sees shape w running
  pub between : Between shape w (head_of (w 0)) (tail_of (w 0))
  pub items : all_items shape w + got ≡ done + pending running

abbrev pub After : Shape → (ℕ → ℕ) → ℕ → ℕ → Next → Type 0
After shape w done got (Goes running) = Keeps shape w running done got
After shape w done got (Answers A.Done) = Rests shape w (done + 1) got
After shape w done got (Answers (A.Got item)) = Rests shape w done (got + 1)
After shape w done got (Answers A.Full) = Rests shape w done got × (got + (shape.n - 1) * shape.probes < done)
After shape w done got (Answers other) = Rests shape w done got

pub enqueue_again_after : (shape : Shape) (w : ℕ → ℕ) (done got item start left : ℕ) → Rests shape w done got
    → After shape w done got (enqueue_again item start left)
enqueue_again_after shape w done got item start left r = by_test (left == 1)
  where
    by_test : (b : Bool)
        → After shape w done got (cond b (Answers A.Busy) (Goes (R.Enqueue item start (left - 1) E.LoadEnds)))
    by_test true = r
    by_test false = record { sees = tt; between = r.between; items = (let e = r.items in omega arith) }

pub dequeue_again_after : (shape : Shape) (w : ℕ → ℕ) (done got start left : ℕ) → Rests shape w done got
    → After shape w done got (dequeue_again start left)
dequeue_again_after shape w done got start left r = by_test (left == 1)
  where
    by_test : (b : Bool)
        → After shape w done got (cond b (Answers A.Busy) (Goes (R.Dequeue start (left - 1) D.LoadEnds)))
    by_test true = r
    by_test false = record { sees = tt; between = r.between; items = (let e = r.items in omega arith) }

-- the tail is moved on
pub tail_on_after : (shape : Shape) (w : ℕ → ℕ) (done got ends : ℕ) → IsEnds shape ends → w 0 ≡ ends
    → next_segment shape.n (tail_of ends) ≢ head_of ends
    → (0 < distance shape.n (head_of ends) (tail_of ends) → shape.probes ≤ items_of shape w (tail_of ends))
    → Rests shape w done got
    → Rests shape (words_by (Exchange 0 ends (tail_moved shape ends)) w) done got
tail_on_after shape w done got ends e same room full r =
    let v : ℕ → ℕ = words_by (Exchange 0 ends (tail_moved shape ends)) w in
    let at : v 0 ≡ tail_moved shape ends = ends_change w ends (tail_moved shape ends) same in
    let slots : (i : ℕ) → 0 < i → v i ≡ w i = λ i above. slots_stay w ends (tail_moved shape ends) i above in
    let old : Between shape w (head_of ends) (tail_of ends) = subst (λ x. Between shape w (head_of x) (tail_of x)) same
    r.between in
    let on : Between shape w (head_of ends) (next_segment shape.n (tail_of ends)) =
    between-tail_on shape w (head_of ends) (tail_of ends) e.head e.tail room full old in
    let new : Between shape v (head_of ends) (next_segment shape.n (tail_of ends)) =
    between-same shape w v (head_of ends) (next_segment shape.n (tail_of ends))
    (λ s s_in above. let i = items-same shape w v s slots in omega arith) on in
    let h : head_of (v 0) ≡ head_of ends = ap head_of at ∙ tail_moved-head shape ends e in
    let t : tail_of (v 0) ≡ next_segment shape.n (tail_of ends) = ap tail_of at ∙ tail_moved-tail shape ends e in
    record {
      between = subst (λ x. Between shape v x (tail_of (v 0))) (sym h)
          (subst (λ x. Between shape v (head_of ends) x) (sym t) new);
      items = (let c = r.items in let a = all-same shape w v slots in omega arith);
    }

-- the head is moved on
pub head_on_after : (shape : Shape) (w : ℕ → ℕ) (done got ends : ℕ) → IsEnds shape ends → w 0 ≡ ends
    → tail_of ends ≢ head_of ends
    → Rests shape w done got → Rests shape (words_by (Exchange 0 ends (head_moved shape ends)) w) done got
head_on_after shape w done got ends e same apart r =
    let v : ℕ → ℕ = words_by (Exchange 0 ends (head_moved shape ends)) w in
    let at : v 0 ≡ head_moved shape ends = ends_change w ends (head_moved shape ends) same in
    let slots : (i : ℕ) → 0 < i → v i ≡ w i = λ i above. slots_stay w ends (head_moved shape ends) i above in
    let old : Between shape w (head_of ends) (tail_of ends) = subst (λ x. Between shape w (head_of x) (tail_of x)) same
    r.between in
    let on : Between shape w (next_segment shape.n (head_of ends)) (tail_of ends) =
    between-head_on shape w (head_of ends) (tail_of ends) e.head e.tail apart old in
    let new : Between shape v (next_segment shape.n (head_of ends)) (tail_of ends) =
    between-same shape w v (next_segment shape.n (head_of ends)) (tail_of ends)
    (λ s s_in above. let i = items-same shape w v s slots in omega arith) on in
    let h : head_of (v 0) ≡ next_segment shape.n (head_of ends) = ap head_of at ∙ head_moved-head shape ends e in
    let t : tail_of (v 0) ≡ tail_of ends = ap tail_of at ∙ head_moved-tail shape ends e in
    record {
      between = subst (λ x. Between shape v x (tail_of (v 0))) (sym h)
          (subst (λ x. Between shape v (next_segment shape.n (head_of ends)) x) (sym t) new);
      items =
          (let c = r.items in let a = all-same shape w v slots in omega arith);
    }

-- the head is held
pub hold_after : (shape : Shape) (w : ℕ → ℕ) (done got held : ℕ) → IsEnds shape held → w 0 ≡ held
    → Rests shape w done got
    → Rests shape (words_by (Exchange 0 held (head_held held)) w) done got
hold_after shape w done got held e same r =
    let v : ℕ → ℕ = words_by (Exchange 0 held (head_held held)) w in
    let at : v 0 ≡ head_held held = ends_change w held (head_held held) same in
    let slots : (i : ℕ) → 0 < i → v i ≡ w i = λ i above. slots_stay w held (head_held held) i above in
    let old : Between shape w (head_of held) (tail_of held) = subst (λ x. Between shape w (head_of x) (tail_of x)) same
    r.between in
    let new : Between shape v (head_of held) (tail_of held) =
    between-same shape w v (head_of held) (tail_of held) (λ s s_in above. let i =
    items-same shape w v s slots in omega arith) old in
    let h_in = e.head in
    let t_in = e.tail in
    let h : head_of (v 0) ≡ head_of held = ap head_of at
    ∙ head-ends_word (head_of held) (tail_of held) (version_of held + 1) (omega arith) (omega arith) in
    let t : tail_of (v 0) ≡ tail_of held = ap tail_of at
    ∙ tail-ends_word (head_of held) (tail_of held) (version_of held + 1) (omega arith) (omega arith) in
    record {
      between = subst (λ x. Between shape v x (tail_of (v 0))) (sym h)
          (subst (λ x. Between shape v (head_of held) x) (sym t) new);
      items = (let c = r.items in let a = all-same shape w v slots in omega arith);
    }

swap_other : (w : ℕ → ℕ) (index from to j : ℕ) → j ≢ index → words_by (Exchange index from to) w j ≡ w j
swap_other w index from to j ne = grind (arith, nat_tests)

swap_at : (w : ℕ → ℕ) (index from to : ℕ) → w index ≡ from → words_by (Exchange index from to) w index ≡ to
swap_at w index from to same = grind (arith, nat_tests)

value-filled_with : (item empty : ℕ) → 0 < item → item < 16777216 → value_of (filled_with item empty) ≢ 0
unfolding value_of slot_word
value-filled_with item empty some few none = absurd (omega arith)

value-emptied : (filled : ℕ) → value_of (emptied filled) ≡ 0
unfolding value_of slot_word
value-emptied filled = omega arith

not_ends : (shape : Shape) (s index : ℕ) → InSegment shape s index → 0 ≢ index
not_ends shape s index at same = let low = at.low in absurd (omega arith)

-- a won put
pub put_after : (shape : Shape) (w : ℕ → ℕ) (done got item start left ends index empty : ℕ) → 0 < item → item < 16777216
    → IsEnds shape (w 0) → IsEnds shape ends
    → Keeps shape w (R.Enqueue item start left (E.Put ends index empty)) done got
    → Keeps shape (words_by (Exchange index empty (filled_with item empty)) w)
    (R.Enqueue item start left (E.ReloadSlot ends index (filled_with item empty))) done got
put_after shape w done got item start left ends index empty some few e f k =
    let v : ℕ → ℕ = words_by (Exchange index empty (filled_with item empty)) w in
    let same : (j : ℕ) → j ≢ index → v j ≡ w j = λ j ne. swap_other w index empty (filled_with item empty) j ne in
    let at : v index ≡ filled_with item empty = swap_at w index empty (filled_with item empty) k.sees.1 in
    let ends_at : v 0 ≡ w 0 = same 0 (not_ends shape (tail_of ends) index k.sees.3) in
    let value : value_of (filled_with item empty) ≢ 0 = value-filled_with item empty some few in
    let new : holds (v index) ≡ 1 = ap holds at ∙ holds-filled (filled_with item empty) value in
    let old : holds (w index) ≡ 0 = ap holds k.sees.1 ∙ holds-empty empty k.sees.2 in
    let all : all_items shape v + holds (w index) ≡ all_items shape w + holds (v index) =
    all-change shape w v (tail_of ends) index f.tail k.sees.3 same in
    let grown : Between shape v (head_of (w 0)) (tail_of (w 0)) =
    between-same shape w v (head_of (w 0)) (tail_of (w 0)) (λ s s_in above. elim (cases_eq s (tail_of ends)) [
      | inl here ↦
          let i : items_of shape v (tail_of ends) + holds (w index)
          ≡ items_of shape w (tail_of ends) + holds (v index) =
          items-change shape w v (tail_of ends) index f.tail k.sees.3 same in
          let a : items_of shape v s ≡ items_of shape v (tail_of ends) = ap (items_of shape v) here in
          let b : items_of shape w s ≡ items_of shape w (tail_of ends) = ap (items_of shape w) here in
          omega arith
      | inr ne ↦ let i = items-other shape w v (tail_of ends) index f.tail k.sees.3 same s ne in omega arith
    ]) k.between in
    record {
      sees = (ends_at ∙ k.sees.0, at, value, k.sees.3);
      between = subst (λ x. Between shape v (head_of x) (tail_of x)) (sym ends_at) grown;
      items = (let c = k.items in omega arith);
    }

pub distance-same : (shape : Shape) (h : ℕ) → h < shape.n → distance shape.n h h ≡ 0
distance-same shape h h_in = let d = distance-value shape.n h h h_in h_in in omega arith

-- a slot of the head's segment, or of the one segment, is emptied
pub emptied_after : (shape : Shape) (w : ℕ → ℕ) (done got index filled : ℕ) → IsEnds shape (w 0) → w index ≡ filled
    → value_of filled ≢ 0
    → InSegment shape (head_of (w 0)) index
    → Between shape w (head_of (w 0)) (tail_of (w 0)) → all_items shape w + got ≡ done + 1
    → Rests shape (words_by (Exchange index filled (emptied filled)) w) done got
emptied_after shape w done got index filled e found_so value in_head between items =
    let v : ℕ → ℕ = words_by (Exchange index filled (emptied filled)) w in
    let same : (j : ℕ) → j ≢ index → v j ≡ w j = λ j ne. swap_other w index filled (emptied filled) j ne in
    let at : v index ≡ emptied filled = swap_at w index filled (emptied filled) found_so in
    let ends_at : v 0 ≡ w 0 = same 0 (not_ends shape (head_of (w 0)) index in_head) in
    let new : holds (v index) ≡ 0 = ap holds at ∙ holds-empty (emptied filled) (value-emptied filled) in
    let old : holds (w index) ≡ 1 = ap holds found_so ∙ holds-filled filled value in
    let all : all_items shape v + holds (w index) ≡ all_items shape w + holds (v index) =
    all-change shape w v (head_of (w 0)) index e.head in_head same in
    let kept : Between shape v (head_of (w 0)) (tail_of (w 0)) = between-same shape w v (head_of (w 0)) (tail_of (w 0))
    (λ s s_in above.
    let ne : s ≢ head_of (w 0) = λ same_s. absurd
    (let d : distance shape.n (head_of (w 0)) s ≡ 0 = ap (distance shape.n (head_of (w 0))) same_s
    ∙ distance-same shape (head_of (w 0)) e.head in omega arith) in
    let i = items-other shape w v (head_of (w 0)) index e.head in_head same s ne in omega arith) between in
    record { between = subst (λ x. Between shape v (head_of x) (tail_of x)) (sym ends_at) kept; items = omega arith }

-- a call that is nowhere near an item rests
pub rest : (shape : Shape) (w : ℕ → ℕ) (running : Running) (done got : ℕ) → pending running ≡ 0
    → Keeps shape w running done got
    → Rests shape w done got
rest shape w running done got none k = record { between = k.between; items = (let c = k.items in omega arith) }

-- at Full there are more items
pub full_after : (shape : Shape) (w : ℕ → ℕ) (done got item start left ends : ℕ) → start < shape.k → IsEnds shape ends
    → Keeps shape w (R.Enqueue item start left (E.ConfirmFull ends)) done got
    → got + (shape.n - 1) * shape.probes < done
full_after shape w done got item start left ends start_in e k =
    let full : next_segment shape.n (tail_of ends) ≡ head_of ends = k.sees.1 in
    let far : distance shape.n (head_of ends) (tail_of ends) + 1 ≡ shape.n =
    distance-full shape.n (head_of ends) (tail_of ends) e.head e.tail full in
    let tail_items : shape.probes ≤ items_of shape w (tail_of ends) =
    probed_items shape w (tail_of ends) start start_in k.sees.2 in
    let between : Between shape w (head_of ends) (tail_of ends) =
    subst (λ x. Between shape w (head_of x) (tail_of x)) k.sees.0 k.between in
    let many : (shape.n - 1) * shape.probes + 1 ≤ all_items shape w =
    filled-but_one w shape.k shape.probes (head_of ends) shape.n e.head (λ s s_in ne. elim (cases_eq s (tail_of ends)) [
      | inl here ↦ subst (λ x. shape.probes ≤ items_of shape w x) (sym here) tail_items
      | inr other ↦
          let above : 0 < distance shape.n (head_of ends) s = positive s s_in ne in
          let low : distance shape.n (head_of ends) s < shape.n = distance-below shape.n (head_of ends) s e.head s_in in
          let apart : distance shape.n (head_of ends) s ≢ distance shape.n (head_of ends) (tail_of ends) =
          λ same. other (distance-injective shape.n (head_of ends) s (tail_of ends) e.head s_in e.tail same) in
          between s s_in above (omega arith)
    ]) k.sees.3 in
    let c = k.items in
    omega arith
  where
    positive : (s : ℕ) → s < shape.n → s ≢ head_of ends → 0 < distance shape.n (head_of ends) s
    positive s s_in ne = let d = distance-value shape.n (head_of ends) s e.head s_in in omega arith
