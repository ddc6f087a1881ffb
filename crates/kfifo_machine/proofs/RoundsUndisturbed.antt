-- A round that nobody disturbs is not lost.
use Rattle.std.proofs.Common.{◌≡◌, ◌⊎◌, ℕ, ◌+◌, ◌<◌, Bool, true, false, refl, inl, inr, arith, cond, eqb}
use Rattle.std.specs.Prelude.{◌&&◌, ◌||◌}
use Rattle.std.proofs.lemmas.Bool.Decides.{nat_tests}
use Rattle.kfifo_machine.proofs.Types.{Access, DequeuePhase, EnqueuePhase, Next, Running, Shape}
use Rattle.kfifo_words.specs.Ring.{clock_at}
use Rattle.kfifo_model.specs.declared.calls.Answer.TheVariants as A
use Rattle.kfifo_machine.specs.declared.place.Found.TheVariants.{Slot, Nothing}
use Rattle.kfifo_machine.specs.declared.place.EnqueuePhase.TheVariants as E
use Rattle.kfifo_machine.specs.declared.place.DequeuePhase.TheVariants as D
use Rattle.kfifo_machine.specs.declared.place.Running.TheVariants as R
use Rattle.kfifo_machine.specs.declared.place.Access.TheVariants.{Load, Exchange}
use Rattle.kfifo_machine.specs.declared.place.Next.TheVariants.{Goes, Answers}
use Rattle.kfifo_machine.specs.Program.{access, accessed, advance}
use Rattle.kfifo_machine.specs.Places.{IsPlace}
use Rattle.kfifo_machine.specs.Laws.{moves_head, moves_tail}
use Rattle.kfifo_machine.specs.Causes.{round_of}
use Rattle.kfifo_machine.specs.Rounds.{reloads_slot}
use Rattle.kfifo_machine.proofs.Places.{scan_index-is_slot}

-- a thread is about to begin a round
abbrev pub opens_round : Running → Bool
opens_round (R.Enqueue item start left E.LoadEnds) = true
opens_round (R.Dequeue start left D.LoadEnds) = true
opens_round other = false

abbrev pub holds_head : Running → Bool
holds_head (R.Enqueue item start left (E.HoldHead ends index filled held)) = true
holds_head other = false

-- the step from one place to the next ends a round
abbrev pub ends_round : Running → Running → Bool
ends_round running next = opens_round next || (holds_head running && reloads_slot next)

-- the rounds go on one by one, and Busy comes with the last of them
abbrev pub RoundNext : Running → Next → Type 0
RoundNext running (Goes next) = cond (ends_round running next) (round_of next + 1) (round_of next) ≡ round_of running
RoundNext running (Answers A.Busy) = round_of running ≡ 1
RoundNext running (Answers other) = Unit {0}

pub round_next : (shape : Shape) (running : Running) (word : ℕ) → IsPlace shape running
    → RoundNext running (advance shape running word)
round_next shape running word place = grind (arith, nat_tests)

-- a place at which a round begins
abbrev pub Opens : Shape → Running → Type 0
Opens shape running = (opens_round running ≡ true) ⊎ ((reloads_slot running ≡ true) × (shape.holds_again ≡ true))

pub opens_next : (shape : Shape) (running next : Running) (word : ℕ) → advance shape running word ≡ Goes next
    → ends_round running next ≡ true → Opens shape next
opens_next shape running next word is ends = by_test (opens_round next) refl
  where
    again : opens_round next ≡ false → (reloads_slot next ≡ true) × (shape.holds_again ≡ true)
    again not_load = grind (arith, nat_tests)

    by_test : (b : Bool) → opens_round next ≡ b → Opens shape next
    by_test true opens = inl opens
    by_test false not_load = inr (again not_load)

-- the words after an access, by their indexes
abbrev pub words_by : Access → (ℕ → ℕ) → ℕ → ℕ
words_by (Load index) words i = words i
words_by (Exchange index from to) words i = cond (eqb (words index) from) (cond (eqb i index) to (words i)) (words i)

-- the words that a thread has read stand as it read them
abbrev pub EnqueueQuiet : (ℕ → ℕ) → EnqueuePhase → Type 0
EnqueueQuiet w E.LoadEnds = Unit {0}
EnqueueQuiet w (E.ScanTail ends offset) = w 0 ≡ ends
EnqueueQuiet w (E.Recheck ends Nothing) = w 0 ≡ ends
EnqueueQuiet w (E.Recheck ends (Slot index seen)) = (w 0 ≡ ends) × (w index ≡ seen)
EnqueueQuiet w (E.Put ends index empty) = (w 0 ≡ ends) × (w index ≡ empty)
EnqueueQuiet w (E.ReloadSlot ends index filled) = (w 0 ≡ ends) × (w index ≡ filled)
EnqueueQuiet w (E.ReloadEnds ends index filled) = (w 0 ≡ ends) × (w index ≡ filled)
EnqueueQuiet w (E.HoldHead ends index filled held) = w 0 ≡ held
EnqueueQuiet w (E.Undo index filled worn) = worn ≡ true
EnqueueQuiet w (E.ScanHead ends offset) = w 0 ≡ ends
EnqueueQuiet w (E.ConfirmFull ends) = w 0 ≡ ends
EnqueueQuiet w (E.MoveHead ends) = w 0 ≡ ends
EnqueueQuiet w (E.MoveTail ends) = w 0 ≡ ends

abbrev pub DequeueQuiet : (ℕ → ℕ) → DequeuePhase → Type 0
DequeueQuiet w D.LoadEnds = Unit {0}
DequeueQuiet w (D.ScanHead ends offset) = w 0 ≡ ends
DequeueQuiet w (D.Recheck ends Nothing) = w 0 ≡ ends
DequeueQuiet w (D.Recheck ends (Slot index seen)) = (w 0 ≡ ends) × (w index ≡ seen)
DequeueQuiet w (D.MoveTail ends index filled) = (w 0 ≡ ends) × (w index ≡ filled)
DequeueQuiet w (D.Take ends index filled) = w index ≡ filled
DequeueQuiet w (D.MoveHead ends) = w 0 ≡ ends

abbrev pub Quiet : (ℕ → ℕ) → Running → Type 0
Quiet w (R.Enqueue item start left phase) = EnqueueQuiet w phase
Quiet w (R.Dequeue start left phase) = DequeueQuiet w phase

-- the slot that a thread has read
abbrev pub watched_by_enqueue : EnqueuePhase → ℕ
watched_by_enqueue (E.Recheck ends (Slot index seen)) = index
watched_by_enqueue (E.Put ends index empty) = index
watched_by_enqueue (E.ReloadSlot ends index filled) = index
watched_by_enqueue (E.ReloadEnds ends index filled) = index
watched_by_enqueue other = 0

abbrev pub watched_by_dequeue : DequeuePhase → ℕ
watched_by_dequeue (D.Recheck ends (Slot index seen)) = index
watched_by_dequeue (D.MoveTail ends index filled) = index
watched_by_dequeue (D.Take ends index filled) = index
watched_by_dequeue other = 0

abbrev pub watched : Running → ℕ
watched (R.Enqueue item start left phase) = watched_by_enqueue phase
watched (R.Dequeue start left phase) = watched_by_dequeue phase

pub watched-below : (shape : Shape) (running : Running) → IsPlace shape running
    → watched running < clock_at shape.k shape.n
watched-below shape running place = grind (arith, nat_tests)

pub still_quiet : (w v : ℕ → ℕ) (running : Running) → v 0 ≡ w 0 → v (watched running) ≡ w (watched running)
    → Quiet w running
    → Quiet v running
still_quiet w v running ends slot quiet = grind arith

-- a quiet step that moves neither head nor tail stays in its round, and is not Busy
abbrev pub NextQuiet : Running → (ℕ → ℕ) → Next → Type 0
NextQuiet before w (Goes running) = (ends_round before running ≡ false) × Quiet w running
NextQuiet before w (Answers A.Busy) = ⊥
NextQuiet before w (Answers other) = Unit {0}

pub enqueue_quiet : (shape : Shape) (w : ℕ → ℕ) (item start left : ℕ) (phase : EnqueuePhase) (word : ℕ)
    → IsPlace shape (R.Enqueue item start left phase) → EnqueueQuiet w phase
    → word ≡ w (accessed (access shape (R.Enqueue item start left phase)))
    → moves_head (R.Enqueue item start left phase) word ≡ false
    → moves_tail (R.Enqueue item start left phase) word ≡ false
    → NextQuiet (R.Enqueue item start left phase) (words_by (access shape (R.Enqueue item start left phase)) w)
    (advance shape (R.Enqueue item start left phase) word)
enqueue_quiet shape w item start left phase word place quiet is no_head no_tail =
    grind (arith, nat_tests, scan_index-is_slot)

pub dequeue_quiet : (shape : Shape) (w : ℕ → ℕ) (start left : ℕ) (phase : DequeuePhase) (word : ℕ)
    → IsPlace shape (R.Dequeue start left phase) → DequeueQuiet w phase
    → word ≡ w (accessed (access shape (R.Dequeue start left phase))) → moves_head (R.Dequeue start left phase) word
    ≡ false
    → moves_tail (R.Dequeue start left phase) word ≡ false
    → NextQuiet (R.Dequeue start left phase) (words_by (access shape (R.Dequeue start left phase)) w)
    (advance shape (R.Dequeue start left phase) word)
dequeue_quiet shape w start left phase word place quiet is no_head no_tail =
    grind (arith, nat_tests, scan_index-is_slot)
