-- How many steps a thread may still make, and what others pay for them: a round is in vain only where a word that the
-- thread remembers was changed.
use Rattle.std.proofs.Common.{◌≡◌, ◌≢◌, ℕ, ◌+◌, ◌*◌, ◌≤◌, Bool, true, false, refl, arith, Option, Some, None}
use Rattle.std.specs.Prelude.{◌==◌, if◌then◌else◌}
use Rattle.std.proofs.lemmas.Bool.Decides.{nat_tests}
use Rattle.std.proofs.Math.Path.{fun_ext}
use Rattle.kfifo_linear.proofs.Types.{Running, Shape}
use Rattle.kfifo_machine.specs.declared.place.Access.{Access}
use Rattle.kfifo_machine.specs.declared.place.Access.TheVariants.{Exchange, Load}
use Rattle.kfifo_machine.specs.declared.place.DequeuePhase.{DequeuePhase}
use Rattle.kfifo_machine.specs.declared.place.DequeuePhase.TheVariants as D
use Rattle.kfifo_machine.specs.declared.place.EnqueuePhase.{EnqueuePhase}
use Rattle.kfifo_machine.specs.declared.place.EnqueuePhase.TheVariants as E
use Rattle.kfifo_machine.specs.declared.place.Found.TheVariants.{Nothing, Slot}
use Rattle.kfifo_machine.specs.declared.place.Running.TheVariants as R
use Rattle.kfifo_linear.proofs.Abstract.{noted-other, words_by}
use Rattle.kfifo_linear.specs.Ledger.{Ledger, found_in, stepped}
use Rattle.kfifo_machine.proofs.Places.{dequeue_budget, enqueue_budget}
use Rattle.kfifo_machine.specs.Machine.{place_after}
use Rattle.kfifo_machine.specs.Places.{IsPlace}
use Rattle.kfifo_machine.specs.Program.{access, accessed, advance}
use Rattle.kfifo_progress.proofs.Kept.{quiet}

-- what a round costs; what a thread has for the others when it puts an item; and what it gets where the ends changed
pub record Prices : Type 0 where
  pub round : ℕ
  pub put : ℕ
  pub ends : ℕ

-- what a thread gets where a word is not the one that it remembers
abbrev pub stale : (ℕ → ℕ) → ℕ → ℕ → ℕ → ℕ
stale w index word price = if w index == word then 0 else price

abbrev pub enqueue_cost : Shape → Prices → (ℕ → ℕ) → EnqueuePhase → ℕ
enqueue_cost shape x w E.LoadEnds = x.round + x.put
enqueue_cost shape x w (E.ScanTail ends offset) =
    enqueue_budget shape.k (E.ScanTail ends offset) + x.put + stale w 0 ends x.ends
enqueue_cost shape x w (E.Recheck ends Nothing) = enqueue_budget shape.k (E.Recheck ends Nothing) + x.put + stale w 0
    ends x.ends
enqueue_cost shape x w (E.Recheck ends (Slot index seen)) =
    enqueue_budget shape.k (E.Recheck ends Nothing) + x.put + stale w 0 ends x.ends + stale w index seen x.round
enqueue_cost shape x w (E.Put ends index empty) = 5 + x.put + stale w 0 ends x.ends + stale w index empty x.round
enqueue_cost shape x w (E.ReloadSlot ends index filled) = 4 + stale w 0 ends x.ends
enqueue_cost shape x w (E.ReloadEnds ends index filled) = 3 + stale w 0 ends x.ends
enqueue_cost shape x w (E.HoldHead ends index filled held) = 2 + stale w 0 ends x.ends + stale w 0 held x.ends
enqueue_cost shape x w (E.Undo index filled true) = 1
enqueue_cost shape x w (E.Undo index filled false) = 1 + x.ends
enqueue_cost shape x w (E.ScanHead ends offset) =
    enqueue_budget shape.k (E.ScanHead ends offset) + x.put + stale w 0 ends x.ends
enqueue_cost shape x w (E.ConfirmFull ends) = 1 + x.put + stale w 0 ends x.ends
enqueue_cost shape x w (E.MoveHead ends) = 1 + x.put + stale w 0 ends x.ends
enqueue_cost shape x w (E.MoveTail ends) = 1 + x.put + stale w 0 ends x.ends

abbrev pub dequeue_cost : Shape → Prices → (ℕ → ℕ) → DequeuePhase → ℕ
dequeue_cost shape x w D.LoadEnds = x.round + x.put
dequeue_cost shape x w (D.ScanHead ends offset) = dequeue_budget shape.k (D.ScanHead ends offset) + x.put + stale w 0
    ends x.ends
dequeue_cost shape x w (D.Recheck ends Nothing) = 4 + x.put + stale w 0 ends x.ends
dequeue_cost shape x w (D.Recheck ends (Slot index seen)) = 4 + x.put + stale w 0 ends x.ends + stale w index seen
    x.round
dequeue_cost shape x w (D.MoveTail ends index filled) = 3 + x.put + stale w 0 ends x.ends + stale w index filled x.round
dequeue_cost shape x w (D.Take ends index filled) = 2 + x.put + stale w index filled x.round
dequeue_cost shape x w (D.MoveHead ends) = 1 + x.put + stale w 0 ends x.ends

abbrev pub cost : Shape → Prices → (ℕ → ℕ) → Running → ℕ
cost shape x w (R.Enqueue item start left phase) = enqueue_cost shape x w phase
cost shape x w (R.Dequeue start left phase) = dequeue_cost shape x w phase

-- the same where an idle thread begins a call
abbrev pub cost_at : Shape → Prices → (ℕ → ℕ) → Option Running → ℕ
cost_at shape x w None = x.round + x.put
cost_at shape x w (Some r) = cost shape x w r

-- whether an access changes a word
abbrev pub wins : (ℕ → ℕ) → Access → Bool
wins w (Load index) = false
wins w (Exchange index from to) = w index == from

-- the prices are enough
pub record AreEnough (shape : Shape) (threads : ℕ) (x : Prices) : Type 0 where
  pub round : x.round ≡ 2 * shape.k + 9
  pub put : x.put ≡ threads * x.round
  pub ends : x.ends ≡ x.round + x.put + x.put

-- another thread's step
pub others_rise : (shape : Shape) (threads : ℕ) (x : Prices) (w w' : ℕ → ℕ) (q : Running) → AreEnough shape threads x
    → cost shape x w' q ≤ cost shape x w q + (x.ends + x.ends + x.round)
others_rise shape threads x w w' q enough = grind (arith, nat_tests)

pub others_rise_little : (shape : Shape) (threads : ℕ) (x : Prices) (w w' : ℕ → ℕ) (q : Running)
    → AreEnough shape threads x → w' 0 ≡ w 0
    → cost shape x w' q ≤ cost shape x w q + x.round
others_rise_little shape threads x w w' q enough same = grind (arith, nat_tests)

-- the most that a place costs
pub cost_bound : (shape : Shape) (threads : ℕ) (x : Prices) (w : ℕ → ℕ) (q : Running) → AreEnough shape threads x
    → cost shape x w q ≤ x.round + x.put + (x.ends + x.ends)
cost_bound shape threads x w q enough = grind (arith, nat_tests)

-- a step that changes no word
pub falls_own : (shape : Shape) (threads : ℕ) (x : Prices) (w : ℕ → ℕ) (r : Running) → AreEnough shape threads x
    → IsPlace shape r
    → wins w (access shape r) ≡ false → quiet (advance shape r (found_in shape w r)) ≡ true
    → cost_at shape x w (place_after (advance shape r (found_in shape w r))) + 1 ≤ cost shape x w r
falls_own shape threads x w (R.Enqueue item start left phase) enough place none calm = grind (arith, nat_tests)
falls_own shape threads x w (R.Dequeue start left phase) enough place none calm = grind (arith, nat_tests)

-- a step that changes the ends
pub moves_own : (shape : Shape) (threads : ℕ) (x : Prices) (w w' : ℕ → ℕ) (r : Running) → AreEnough shape threads x
    → IsPlace shape r
    → quiet (advance shape r (found_in shape w r)) ≡ true
    → cost_at shape x w' (place_after (advance shape r (found_in shape w r))) ≤ cost shape x w r +
    (x.ends + x.ends + x.round)
moves_own shape threads x w w' (R.Enqueue item start left phase) enough place calm = grind (arith, nat_tests)
moves_own shape threads x w w' (R.Dequeue start left phase) enough place calm = grind (arith, nat_tests)

-- a step that changes a slot leaves each thread what one round costs
pub slot_own : (shape : Shape) (threads : ℕ) (x : Prices) (w w' : ℕ → ℕ) (r : Running) → AreEnough shape threads x
    → IsPlace shape r
    → wins w (access shape r) ≡ true → accessed (access shape r) ≢ 0 → quiet (advance shape r (found_in shape w r))
    ≡ true → w' 0 ≡ w 0
    → cost_at shape x w' (place_after (advance shape r (found_in shape w r))) + (1 + x.put) ≤ cost shape x w r
slot_own shape threads x w w' (R.Enqueue item start left phase) enough place won slot calm same =
    grind (arith, nat_tests)
slot_own shape threads x w w' (R.Dequeue start left phase) enough place won slot calm same = grind (arith, nat_tests)

-- one that changes the ends while its call goes on moves head or tail
pub ends_move : (shape : Shape) (w : ℕ → ℕ) (l : Ledger) (t : ℕ) (r : Running) → wins w (access shape r) ≡ true
    → accessed (access shape r) ≡ 0 → IsPlace shape r → quiet (advance shape r (found_in shape w r)) ≡ true
    → (stepped shape w t r l).head + (stepped shape w t r l).tail ≡ l.head + l.tail + 1
unfolding stepped
ends_move shape w l t (R.Enqueue item start left phase) won at place calm = grind (arith, nat_tests)
ends_move shape w l t (R.Dequeue start left phase) won at place calm = grind (arith, nat_tests)

pub words_same : (w : ℕ → ℕ) (a : Access) → wins w a ≡ false → words_by a w ≡ w
words_same w (Load index) none = refl
words_same w (Exchange index from to) none = fun_ext (λ i. grind (arith, nat_tests))

pub ends_same : (w : ℕ → ℕ) (a : Access) → accessed a ≢ 0 → words_by a w 0 ≡ w 0
ends_same w a slot = grind (arith, nat_tests, noted-other)
