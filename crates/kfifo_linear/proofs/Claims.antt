-- What a thread's place in its call says of the table and the ledger, and what the ledger says of slots.
use Rattle.std.proofs.Common.{◌≡◌, ℕ, ◌+◌, ◌-◌, ◌*◌, ◌/◌, ◌%◌, ◌<◌, ◌≤◌, inl, inr, Bool, true, false, sym, ◌∙◌, arith}
use Rattle.std.proofs.Math.Nat.{mod-lt}
use Rattle.std.proofs.lemmas.Nat.{div-mul-add}
use Rattle.std.proofs.lemmas.Bool.{cases_lt}
use Rattle.std.proofs.lemmas.Bool.Decides.{nat_tests}
use Rattle.kfifo_machine.specs.declared.place.EnqueuePhase.TheVariants as E
use Rattle.kfifo_machine.specs.declared.place.DequeuePhase.TheVariants as D
use Rattle.kfifo_machine.specs.declared.place.Running.TheVariants as R
use Rattle.kfifo_linear.proofs.Abstract.{noted_tells, words_by}
use Rattle.kfifo_linear.proofs.Base.{InRing, Sane, ends_in_ring}
use Rattle.kfifo_linear.proofs.Ring.{ends_word-above, slot_word-above}
use Rattle.kfifo_linear.specs.Ledger.{Ledger, stepped}
use Rattle.kfifo_machine.proofs.NoWrap.{EndsOk}
use Rattle.kfifo_machine.proofs.Versions.{next_segment-below}
use Rattle.kfifo_machine.specs.Program.{access, advance, scan_index}
use Rattle.kfifo_machine.specs.declared.place.DequeuePhase.{DequeuePhase}
use Rattle.kfifo_machine.specs.declared.place.EnqueuePhase.{EnqueuePhase}
use Rattle.kfifo_linear.proofs.Types.{Next, Running, Shape}
use Rattle.kfifo_machine.specs.declared.place.Next.TheVariants.{Answers, Goes}

-- the segment of a slot's index
unfoldable pub segment_of : Shape → ℕ → ℕ
segment_of shape index = (index - 1) / shape.k

pub segment_of-scan_index : (shape : Shape) (segment start offset : ℕ)
    → segment_of shape (scan_index shape segment start offset) ≡ segment
unfolding scan_index segment_of
segment_of-scan_index shape segment start offset =
    let k : 0 < shape.k = shape.some_slot in
    let j : (start + offset) % shape.k < shape.k = mod-lt (start + offset) k in
    let e : 1 + segment * shape.k + (start + offset) % shape.k - 1 ≡ segment * shape.k + (start + offset) % shape.k =
    omega arith in
    rw e (div-mul-add segment shape.k ((start + offset) % shape.k) j)

-- no word ever falls
pub words_rise : (shape : Shape) → (w : ℕ → ℕ) (r : Running) → Sane shape r → InRing shape (w 0) → (i : ℕ)
    → w i ≤ words_by (access shape r) w i
words_rise shape w r s ring i =
    let few = shape.few_segments in
    grind (arith, nat_tests, noted_tells, slot_word-above, ends_word-above, next_segment-below)

-- the round of a thread: what its first load found, and when it was
pub record Round (l : Ledger) (t : ℕ) : Type 0 where
  pub head_below : l.head_seen t ≤ l.head
  pub tail_below : l.tail_seen t ≤ l.tail
  pub tails_after : (v : ℕ) → l.tail_seen t ≤ v → v < l.tail → l.first (l.caller t) ≤ l.tails v
  pub heads_after : (v : ℕ) → l.head_seen t ≤ v → v < l.head → l.first (l.caller t) ≤ l.heads v

-- the ends that a round loaded first: where they stand unchanged, the numbers do too
pub record Loaded (shape : Shape) (w : ℕ → ℕ) (l : Ledger) (t x : ℕ) : Type 0 where
  pub ends : EndsOk shape x (l.head_seen t) (l.tail_seen t)
  pub below : x ≤ w 0
  pub head_same : w 0 ≡ x → l.head_seen t ≡ l.head
  pub tail_same : w 0 ≡ x → l.tail_seen t ≡ l.tail

abbrev pub EnqueueLoaded : Shape → (ℕ → ℕ) → Ledger → ℕ → EnqueuePhase → Type 0
EnqueueLoaded shape w l t E.LoadEnds = Unit {0}
EnqueueLoaded shape w l t (E.ScanTail ends offset) = Loaded shape w l t ends
EnqueueLoaded shape w l t (E.Recheck ends found) = Loaded shape w l t ends
EnqueueLoaded shape w l t (E.Put ends index empty) = Loaded shape w l t ends
EnqueueLoaded shape w l t (E.ReloadSlot ends index filled) = Loaded shape w l t ends
EnqueueLoaded shape w l t (E.ReloadEnds ends index filled) = Loaded shape w l t ends
EnqueueLoaded shape w l t (E.HoldHead ends index filled held) = Loaded shape w l t ends
EnqueueLoaded shape w l t (E.Undo index filled worn) = Unit {0}
EnqueueLoaded shape w l t (E.ScanHead ends offset) = Loaded shape w l t ends
EnqueueLoaded shape w l t (E.ConfirmFull ends) = Loaded shape w l t ends
EnqueueLoaded shape w l t (E.MoveHead ends) = Loaded shape w l t ends
EnqueueLoaded shape w l t (E.MoveTail ends) = Loaded shape w l t ends

abbrev pub DequeueLoaded : Shape → (ℕ → ℕ) → Ledger → ℕ → DequeuePhase → Type 0
DequeueLoaded shape w l t D.LoadEnds = Unit {0}
DequeueLoaded shape w l t (D.ScanHead ends offset) = Loaded shape w l t ends
DequeueLoaded shape w l t (D.Recheck ends found) = Loaded shape w l t ends
DequeueLoaded shape w l t (D.MoveTail ends index filled) = Loaded shape w l t ends
DequeueLoaded shape w l t (D.Take ends index filled) = Loaded shape w l t ends
DequeueLoaded shape w l t (D.MoveHead ends) = Loaded shape w l t ends

abbrev pub HasLoaded : Shape → (ℕ → ℕ) → Ledger → ℕ → Running → Type 0
HasLoaded shape w l t (R.Enqueue item start left phase) = EnqueueLoaded shape w l t phase
HasLoaded shape w l t (R.Dequeue start left phase) = DequeueLoaded shape w l t phase

-- a thread before its round's first load
abbrev pub at_load : Running → Bool
at_load (R.Enqueue item start left E.LoadEnds) = true
at_load (R.Enqueue item start left (E.ScanTail ends offset)) = false
at_load (R.Enqueue item start left (E.Recheck ends found)) = false
at_load (R.Enqueue item start left (E.Put ends index empty)) = false
at_load (R.Enqueue item start left (E.ReloadSlot ends index filled)) = false
at_load (R.Enqueue item start left (E.ReloadEnds ends index filled)) = false
at_load (R.Enqueue item start left (E.HoldHead ends index filled held)) = false
at_load (R.Enqueue item start left (E.Undo index filled worn)) = false
at_load (R.Enqueue item start left (E.ScanHead ends offset)) = false
at_load (R.Enqueue item start left (E.ConfirmFull ends)) = false
at_load (R.Enqueue item start left (E.MoveHead ends)) = false
at_load (R.Enqueue item start left (E.MoveTail ends)) = false
at_load (R.Dequeue start left D.LoadEnds) = true
at_load (R.Dequeue start left (D.ScanHead ends offset)) = false
at_load (R.Dequeue start left (D.Recheck ends found)) = false
at_load (R.Dequeue start left (D.MoveTail ends index filled)) = false
at_load (R.Dequeue start left (D.Take ends index filled)) = false
at_load (R.Dequeue start left (D.MoveHead ends)) = false

-- what a step of one thread changes of the ends and their numbers
pub record EndsChange (w w' : ℕ → ℕ) (l l' : Ledger) : Type 0 where
  pub rise : w 0 ≤ w' 0
  pub head_rise : l.head ≤ l'.head
  pub tail_rise : l.tail ≤ l'.tail
  pub head_kept : w' 0 ≡ w 0 → l'.head ≡ l.head
  pub tail_kept : w' 0 ≡ w 0 → l'.tail ≡ l.tail
  pub tails_kept : (v : ℕ) → v < l.tail → l'.tails v ≡ l.tails v
  pub tails_new : (v : ℕ) → l.tail ≤ v → v < l'.tail → l'.tails v ≡ l.now
  pub heads_kept : (v : ℕ) → v < l.head → l'.heads v ≡ l.heads v
  pub heads_new : (v : ℕ) → l.head ≤ v → v < l'.head → l'.heads v ≡ l.now

pub ends_change : (shape : Shape) → (w : ℕ → ℕ) (l : Ledger) (t : ℕ) (r : Running) → Sane shape r
    → EndsOk shape (w 0) l.head l.tail
    → EndsChange w (words_by (access shape r) w) l (stepped shape w t r l)
unfolding stepped
ends_change shape w l t r s ok =
    let ring : InRing shape (w 0) = ends_in_ring shape (w 0) l.head l.tail ok in
    let few = shape.few_segments in
    record {
      rise = words_rise shape w r s ring 0;
      head_rise = grind (arith, nat_tests, noted_tells);
      tail_rise = grind (arith, nat_tests, noted_tells);
      head_kept = grind (arith, nat_tests, noted_tells, ends_word-above, next_segment-below);
      tail_kept = grind (arith, nat_tests, noted_tells, ends_word-above, next_segment-below);
      tails_kept = grind (arith, nat_tests, noted_tells);
      tails_new = grind (arith, nat_tests, noted_tells);
      heads_kept = grind (arith, nat_tests, noted_tells);
      heads_new = grind (arith, nat_tests, noted_tells);
    }

-- the ends that a round loaded say what they said
pub loaded_stays : (shape : Shape) (w w' : ℕ → ℕ) (l l' : Ledger) (u x : ℕ) → EndsChange w w' l l'
    → l'.head_seen u ≡ l.head_seen u
    → l'.tail_seen u ≡ l.tail_seen u → Loaded shape w l u x → Loaded shape w' l' u x
loaded_stays shape w w' l l' u x c h t ld =
    record {
      ends = rw (h, t) ld.ends;
      below = omega (arith, ld.below, c.rise);
      head_same = λ e. let z : w' 0 ≡ w 0 = omega (arith, ld.below, c.rise) in
          omega (arith, h, ld.head_same (sym z ∙ e), c.head_kept z);
      tail_same = λ e. let z : w' 0 ≡ w 0 = omega (arith, ld.below, c.rise) in
          omega (arith, t, ld.tail_same (sym z ∙ e), c.tail_kept z);
    }

pub round_stays : (w w' : ℕ → ℕ) (l l' : Ledger) (u : ℕ) → EndsChange w w' l l' → l'.head_seen u ≡ l.head_seen u
    → l'.tail_seen u ≡ l.tail_seen u → l'.caller u ≡ l.caller u → l'.first (l.caller u) ≡ l.first (l.caller u)
    → l.first (l.caller u) ≤ l.now → Round l u → Round l' u
round_stays w w' l l' u c h t k f n r =
    record {
      head_below = omega (arith, h, r.head_below, c.head_rise);
      tail_below = omega (arith, t, r.tail_below, c.tail_rise);
      tails_after = λ v v1 v2. rw k (elim (cases_lt v l.tail) [
        | inl lt ↦ omega (arith, f, c.tails_kept v lt, r.tails_after v (omega (arith, t)) lt)
        | inr ge ↦ omega (arith, f, c.tails_new v ge v2)
      ]);
      heads_after = λ v v1 v2. rw k (elim (cases_lt v l.head) [
        | inl lt ↦ omega (arith, f, c.heads_kept v lt, r.heads_after v (omega (arith, h)) lt)
        | inr ge ↦ omega (arith, f, c.heads_new v ge v2)
      ]);
    }

-- a claim of what a step leads to, where the thread goes on
abbrev pub IfGoes : (Running → Type 0) → Next → Type 0
IfGoes P (Goes running) = P running
IfGoes P (Answers answer) = Unit {0}

pub HasLoaded-others : (shape : Shape) (w w' : ℕ → ℕ) (l l' : Ledger) (u : ℕ) (q : Running)
    → ((x : ℕ) → Loaded shape w l u x → Loaded shape w' l' u x) → HasLoaded shape w l u q → HasLoaded shape w' l' u q
HasLoaded-others shape w w' l l' u q keep h = grind arith

pub HasLoaded-own : (shape : Shape) (w w' : ℕ → ℕ) (l l' : Ledger) (t : ℕ) (r : Running) (word : ℕ)
    → ((x : ℕ) → at_load r ≡ false → Loaded shape w l t x → Loaded shape w' l' t x)
    → (at_load r ≡ true → Loaded shape w' l' t word)
    → HasLoaded shape w l t r → IfGoes (HasLoaded shape w' l' t) (advance shape r word)
HasLoaded-own shape w w' l l' t r word keep new h = grind (arith, nat_tests)
