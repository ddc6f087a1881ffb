-- A thread loses a round only where a word that it remembers for the round was changed, or where it changes one itself.
use Rattle.std.proofs.Common.{◌≡◌, ℕ, ◌+◌, ◌≤◌, true, false, arith}
use Rattle.std.specs.Prelude.{◌==◌, ◌&&◌, if◌then◌else◌}
use Rattle.std.proofs.lemmas.Bool.Decides.{nat_tests}
use Rattle.kfifo_linear.proofs.Types.{Running, Shape}
use Rattle.kfifo_machine.specs.declared.place.DequeuePhase.{DequeuePhase}
use Rattle.kfifo_machine.specs.declared.place.DequeuePhase.TheVariants as D
use Rattle.kfifo_machine.specs.declared.place.EnqueuePhase.{EnqueuePhase}
use Rattle.kfifo_machine.specs.declared.place.EnqueuePhase.TheVariants as E
use Rattle.kfifo_machine.specs.declared.place.Found.TheVariants.{Nothing, Slot}
use Rattle.kfifo_machine.specs.declared.place.Running.TheVariants as R
use Rattle.kfifo_linear.proofs.Claims.{IfGoes}
use Rattle.kfifo_linear.specs.Ledger.{found_in}
use Rattle.kfifo_machine.specs.Places.{IsPlace}
use Rattle.kfifo_machine.specs.Program.{access, advance}
use Rattle.kfifo_progress.proofs.Cost.{wins}
use Rattle.kfifo_progress.proofs.Kept.{quiet}

-- whether a word that a thread remembers for this round has changed
abbrev pub differs : (ℕ → ℕ) → ℕ → ℕ → ℕ
differs w index word = if w index == word then 0 else 1

abbrev pub either_differs : (ℕ → ℕ) → ℕ → ℕ → ℕ → ℕ
either_differs w ends index word = if (w 0 == ends) && (w index == word) then 0 else 1

abbrev pub enqueue_disturbed : (ℕ → ℕ) → EnqueuePhase → ℕ
enqueue_disturbed w E.LoadEnds = 0
enqueue_disturbed w (E.ScanTail ends offset) = differs w 0 ends
enqueue_disturbed w (E.Recheck ends Nothing) = differs w 0 ends
enqueue_disturbed w (E.Recheck ends (Slot index seen)) = either_differs w ends index seen
enqueue_disturbed w (E.Put ends index empty) = either_differs w ends index empty
enqueue_disturbed w (E.ReloadSlot ends index filled) = 0
enqueue_disturbed w (E.ReloadEnds ends index filled) = 0
enqueue_disturbed w (E.HoldHead ends index filled held) = differs w 0 held
enqueue_disturbed w (E.Undo index filled worn) = 0
enqueue_disturbed w (E.ScanHead ends offset) = differs w 0 ends
enqueue_disturbed w (E.ConfirmFull ends) = differs w 0 ends
enqueue_disturbed w (E.MoveHead ends) = differs w 0 ends
enqueue_disturbed w (E.MoveTail ends) = differs w 0 ends

abbrev pub dequeue_disturbed : (ℕ → ℕ) → DequeuePhase → ℕ
dequeue_disturbed w D.LoadEnds = 0
dequeue_disturbed w (D.ScanHead ends offset) = differs w 0 ends
dequeue_disturbed w (D.Recheck ends Nothing) = differs w 0 ends
dequeue_disturbed w (D.Recheck ends (Slot index seen)) = either_differs w ends index seen
dequeue_disturbed w (D.MoveTail ends index filled) = either_differs w ends index filled
dequeue_disturbed w (D.Take ends index filled) = differs w index filled
dequeue_disturbed w (D.MoveHead ends) = differs w 0 ends

abbrev pub disturbed : (ℕ → ℕ) → Running → ℕ
disturbed w (R.Enqueue item start left phase) = enqueue_disturbed w phase
disturbed w (R.Dequeue start left phase) = dequeue_disturbed w phase

-- the rounds that a call has left
abbrev pub rounds_left : Running → ℕ
rounds_left (R.Enqueue item start left phase) = left
rounds_left (R.Dequeue start left phase) = left

pub disturbed_rises : (w w' : ℕ → ℕ) (q : Running) → disturbed w' q ≤ disturbed w q + 1
disturbed_rises w w' q = grind (arith, nat_tests)

pub disturbed_bound : (w : ℕ → ℕ) (q : Running) → disturbed w q ≤ 1
disturbed_bound w q = grind (arith, nat_tests)

module _ (shape : Shape) (w w' : ℕ → ℕ) where
  -- one's own step that changes no word
  pub rounds_own : (r : Running) → IsPlace shape r → wins w (access shape r) ≡ false
      → quiet (advance shape r (found_in shape w r)) ≡ true
      → IfGoes (λ q. rounds_left r + disturbed w q ≤ rounds_left q + disturbed w r)
      (advance shape r (found_in shape w r))
  rounds_own (R.Enqueue item start left phase) place none calm = grind (arith, nat_tests)
  rounds_own (R.Dequeue start left phase) place none calm = grind (arith, nat_tests)

  -- one that changes a word
  pub rounds_change : (r : Running) → IsPlace shape r → wins w (access shape r) ≡ true
      → quiet (advance shape r (found_in shape w r)) ≡ true
      → IfGoes (λ q. rounds_left r + disturbed w' q ≤ rounds_left q + 1 + disturbed w r)
      (advance shape r (found_in shape w r))
  rounds_change (R.Enqueue item start left phase) place won calm = grind (arith, nat_tests)
  rounds_change (R.Dequeue start left phase) place won calm = grind (arith, nat_tests)
