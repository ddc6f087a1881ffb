-- What is kept of the visits of head and tail by the threads that are about to move them.
use Rattle.std.proofs.Common.{◌≡◌, ◌≢◌, ℕ, ◌+◌, ◌-◌, ◌<◌, ◌≤◌, true, arith}
use Rattle.std.proofs.Common.{Option, is_some}
use Rattle.std.proofs.lemmas.Bool.Decides.{nat_tests}
use Rattle.kfifo_linear.proofs.Types.{Running, Shape}
use Rattle.kfifo_machine.specs.declared.place.DequeuePhase.{DequeuePhase}
use Rattle.kfifo_machine.specs.declared.place.DequeuePhase.TheVariants as D
use Rattle.kfifo_machine.specs.declared.place.EnqueuePhase.{EnqueuePhase}
use Rattle.kfifo_machine.specs.declared.place.EnqueuePhase.TheVariants as E
use Rattle.kfifo_machine.specs.declared.place.Found.TheVariants.{Nothing, Slot}
use Rattle.kfifo_machine.specs.declared.place.Running.TheVariants as R
use Rattle.kfifo_linear.proofs.Abstract.{words_by}
use Rattle.kfifo_linear.proofs.Base.{InRing, Sane, ends_in_ring}
use Rattle.kfifo_linear.proofs.Claims.{HasLoaded, IfGoes, Loaded}
use Rattle.kfifo_linear.specs.Ledger.{Ledger, found_in, stepped}
use Rattle.kfifo_machine.proofs.NoWrap.{EndsOk, same_end}
use Rattle.kfifo_machine.specs.Program.{access, advance, scan_index}
use Rattle.kfifo_words.specs.Words.{head_of, tail_of, value_of}
use Rattle.kfifo_progress.proofs.Kept.{Every, Kept, Unseen, charge_after, scan_begins, scan_ends, scan_goes_on}
use Rattle.kfifo_progress.proofs.Kept.{seen_filled}

-- what is kept of the tail's visit by who is about to move the tail, and of the head's by who is about to move the head
abbrev pub KeptTail : Shape → ℕ → (ℕ → ℕ) → Ledger → (ℕ → Option ℕ) → ℕ → Type 0
KeptTail shape from w l charge ends = w 0 ≡ ends → from < l.tail → Kept shape w charge Every l.tail

abbrev pub KeptHead : Shape → ℕ → (ℕ → ℕ) → Ledger → (ℕ → Option ℕ) → ℕ → (ℕ → Type 0) → Type 0
KeptHead shape from w l charge ends Slots = w 0 ≡ ends → from < l.head → l.head < l.tail
    → Kept shape w charge Slots l.head

abbrev pub Charged : ℕ → (ℕ → ℕ) → Ledger → (ℕ → Option ℕ) → ℕ → Type 0
Charged from w l charge ends = w 0 ≡ ends → from < l.head → l.head < l.tail → is_some (charge l.head) ≡ true

abbrev pub HasKept : Shape → ℕ → (ℕ → ℕ) → Ledger → (ℕ → Option ℕ) → Running → Type 0
HasKept shape from w l charge (R.Enqueue item start left (E.Recheck ends Nothing)) = KeptTail shape from w l charge ends
HasKept shape from w l charge (R.Enqueue item start left (E.MoveTail ends)) = KeptTail shape from w l charge ends
HasKept shape from w l charge (R.Enqueue item start left (E.ScanHead ends offset)) =
    KeptHead shape from w l charge ends (Unseen shape ends 0 offset)
HasKept shape from w l charge (R.Enqueue item start left (E.MoveHead ends)) = Charged from w l charge ends
HasKept shape from w l charge (R.Dequeue start left (D.ScanHead ends offset)) =
    KeptHead shape from w l charge ends (Unseen shape ends start offset)
HasKept shape from w l charge (R.Dequeue start left (D.Recheck ends Nothing)) = Charged from w l charge ends
HasKept shape from w l charge (R.Dequeue start left (D.Recheck ends (Slot index seen))) =
    l.head ≡ l.tail → KeptTail shape from w l charge ends
HasKept shape from w l charge (R.Dequeue start left (D.MoveTail ends index filled)) =
    KeptTail shape from w l charge ends
HasKept shape from w l charge (R.Dequeue start left (D.MoveHead ends)) = Charged from w l charge ends
HasKept shape from w l charge other = Unit {0}

pub HasKept-others : (shape : Shape) (from : ℕ) (w w' : ℕ → ℕ) (l l' : Ledger) (charge charge' : ℕ → Option ℕ) (u : ℕ)
    (q : Running)
    → ((ends : ℕ) → Loaded shape w l u ends → w' 0 ≡ ends → (w 0 ≡ ends) × (l'.head ≡ l.head) × (l'.tail ≡ l.tail))
    → ((Slots : ℕ → Type 0) (v : ℕ) → l.head ≤ v → v ≤ l.tail → Kept shape w charge Slots v → Kept shape w' charge'
    Slots v)
    → ((v : ℕ) → is_some (charge v) ≡ true → is_some (charge' v) ≡ true) → l.head ≤ l.tail
    → HasLoaded shape w l u q → HasKept shape from w l charge q → HasKept shape from w' l' charge' q
HasKept-others shape from w w' l l' charge charge' u q same keep grow ordered = by_place q
  where
    tail_kept : (ends : ℕ) → Loaded shape w l u ends → KeptTail shape from w l charge ends
        → KeptTail shape from w' l' charge' ends
    tail_kept ends ld k e f =
        let x = same ends ld e in
        rw x.2 (keep Every l.tail ordered (omega arith) (k x.0 (omega (arith, f, x.2))))

    head_kept : (ends : ℕ) (Slots : ℕ → Type 0) → Loaded shape w l u ends → KeptHead shape from w l charge ends Slots
        → KeptHead shape from w' l' charge' ends Slots
    head_kept ends Slots ld k e f g =
        let x = same ends ld e in
        rw x.1 (keep Slots l.head (omega arith) ordered (k x.0 (omega (arith, f, x.1)) (omega (arith, g, x.1, x.2))))

    head_charged : (ends : ℕ) → Loaded shape w l u ends → Charged from w l charge ends → Charged from w' l' charge' ends
    head_charged ends ld k e f g =
        let x = same ends ld e in
        rw x.1 (grow l.head (k x.0 (omega (arith, f, x.1)) (omega (arith, g, x.1, x.2))))

    by_place : (q : Running) → HasLoaded shape w l u q → HasKept shape from w l charge q
        → HasKept shape from w' l' charge' q
    by_place (R.Enqueue item start left (E.Recheck ends Nothing)) ld k = tail_kept ends ld k
    by_place (R.Enqueue item start left (E.MoveTail ends)) ld k = tail_kept ends ld k
    by_place (R.Enqueue item start left (E.ScanHead ends offset)) ld k =
        head_kept ends (Unseen shape ends 0 offset) ld k
    by_place (R.Enqueue item start left (E.MoveHead ends)) ld k = head_charged ends ld k
    by_place (R.Dequeue start left (D.ScanHead ends offset)) ld k = head_kept ends (Unseen shape ends start offset) ld k
    by_place (R.Dequeue start left (D.Recheck ends Nothing)) ld k = head_charged ends ld k
    by_place (R.Dequeue start left (D.Recheck ends (Slot index seen))) ld k =
        λ at e f. tail_kept ends ld (k (let x = same ends ld e in omega (arith, at, x.1, x.2))) e f
    by_place (R.Dequeue start left (D.MoveTail ends index filled)) ld k = tail_kept ends ld k
    by_place (R.Dequeue start left (D.MoveHead ends)) ld k = head_charged ends ld k
    by_place other ld k = tt

-- where the steps lead that see the head's segment
recheck_leads : (shape : Shape) (P : Running → Type 0) (item start left ends word : ℕ)
    → P (R.Enqueue item start (left - 1) E.LoadEnds)
    → (word ≡ ends → P (R.Enqueue item start left (E.ScanHead ends 0)))
    → (word ≡ ends → P (R.Enqueue item start left (E.MoveTail ends)))
    → IfGoes P (advance shape (R.Enqueue item start left (E.Recheck ends Nothing)) word)
recheck_leads shape P item start left ends word again scan move = grind (arith, nat_tests)

scan_head_leads : (shape : Shape) (P : Running → Type 0) (item start left ends offset word : ℕ)
    → P (R.Enqueue item start left (E.ConfirmFull ends))
    → (value_of word ≡ 0 → P (R.Enqueue item start left (E.ScanHead ends (offset + 1))))
    → (value_of word ≡ 0 → offset + 1 ≡ shape.k → P (R.Enqueue item start left (E.MoveHead ends)))
    → IfGoes P (advance shape (R.Enqueue item start left (E.ScanHead ends offset)) word)
scan_head_leads shape P item start left ends offset word full on last = grind (arith, nat_tests)

dequeue_scan_leads : (shape : Shape) (P : Running → Type 0) (start left ends offset word : ℕ)
    → (value_of word ≢ 0
    → P (R.Dequeue start left (D.Recheck ends (Slot (scan_index shape (head_of ends) start offset) word))))
    → (value_of word ≡ 0 → P (R.Dequeue start left (D.ScanHead ends (offset + 1))))
    → (value_of word ≡ 0 → offset + 1 ≡ shape.k → P (R.Dequeue start left (D.Recheck ends Nothing)))
    → IfGoes P (advance shape (R.Dequeue start left (D.ScanHead ends offset)) word)
dequeue_scan_leads shape P start left ends offset word found on last = grind (arith, nat_tests)

module _ (shape : Shape) (from : ℕ) (w : ℕ → ℕ) (l : Ledger) (t : ℕ) (charge : ℕ → Option ℕ)
    (ok : EndsOk shape (w 0) l.head l.tail)
    (kept : (v : ℕ) → from < v → l.head ≤ v → v < l.tail → Kept shape w charge Every v) where
  -- what the own step learns
  tail_seen_filled : (ends start offset : ℕ) → w 0 ≡ ends
      → value_of (w (scan_index shape (tail_of ends) start offset)) ≢ 0
      → Kept shape w charge Every l.tail
  tail_seen_filled ends start offset e filled =
      let ring : InRing shape (w 0) = ends_in_ring shape (w 0) l.head l.tail ok in
      seen_filled shape w l t charge ok (tail_of ends) start offset l.tail (rw (← e) ok.tail) (rw (← e) ring.tail)
      filled

  head_seen_filled : (ends start offset : ℕ) → w 0 ≡ ends → l.head ≡ l.tail
      → value_of (w (scan_index shape (head_of ends) start offset)) ≢ 0 → Kept shape w charge Every l.tail
  head_seen_filled ends start offset e at filled =
      let ring : InRing shape (w 0) = ends_in_ring shape (w 0) l.head l.tail ok in
      seen_filled shape w l t charge ok (head_of ends) start offset l.tail (rw (← e, ← at) ok.head) (rw (← e) ring.head)
      filled

  begins_scan : (ends start : ℕ) → start < shape.k → w 0 ≡ ends → from < l.head → l.head < l.tail
      → Kept shape w charge (Unseen shape ends start 0) l.head
  begins_scan ends start h e f g =
      scan_begins shape w l t charge ok ends start l.head (rw (← e) ok.head) h (kept l.head f (omega arith) g)

  goes_on_scan : (ends start offset : ℕ) → value_of (w (scan_index shape (head_of ends) start offset)) ≡ 0
      → Kept shape w charge (Unseen shape ends start offset) l.head
      → Kept shape w charge (Unseen shape ends start (offset + 1)) l.head
  goes_on_scan ends start offset empty k = scan_goes_on shape w l t charge ok ends start offset l.head empty k

  ends_scan : (ends start offset : ℕ) → offset + 1 ≡ shape.k
      → value_of (w (scan_index shape (head_of ends) start offset)) ≡ 0
      → Kept shape w charge (Unseen shape ends start offset) l.head → is_some (charge l.head) ≡ true
  ends_scan ends start offset last empty k =
      scan_ends shape w l t charge ok ends start (offset + 1) l.head (omega (arith, last))
      (goes_on_scan ends start offset empty k)

  abbrev pub Leads : Running → Type 0
  Leads r = IfGoes (HasKept shape from (words_by (access shape r) w) (stepped shape w t r l)
      (charge_after shape w l t r charge)) (advance shape r (found_in shape w r))

  -- the own step keeps what it has to
  scan_tail_keeps : (item start left ends offset : ℕ) → Leads (R.Enqueue item start left (E.ScanTail ends offset))
  unfolding stepped
  scan_tail_keeps item start left ends offset = grind (arith, nat_tests, tail_seen_filled)

  recheck_keeps : (item start left ends : ℕ) → KeptTail shape from w l charge ends
      → Leads (R.Enqueue item start left (E.Recheck ends Nothing))
  unfolding stepped
  recheck_keeps item start left ends mine =
      recheck_leads shape (HasKept shape from w l charge) item start left ends (w 0) tt
      (λ same e f g. begins_scan ends 0 shape.some_slot e f g) (λ same. mine)

  scan_head_keeps : (item start left ends offset : ℕ) → KeptHead shape from w l charge ends (Unseen shape ends 0 offset)
      → Leads (R.Enqueue item start left (E.ScanHead ends offset))
  unfolding stepped
  scan_head_keeps item start left ends offset mine =
      scan_head_leads shape (HasKept shape from w l charge) item start left ends offset
      (w (scan_index shape (head_of ends) 0 offset)) tt
      (λ empty e f g. goes_on_scan ends 0 offset empty (mine e f g))
      (λ empty last e f g. ends_scan ends 0 offset last empty (mine e f g))

  enqueue_keeps : (item start left : ℕ) (phase : EnqueuePhase)
      → HasKept shape from w l charge (R.Enqueue item start left phase)
      → Leads (R.Enqueue item start left phase)
  unfolding stepped
  enqueue_keeps item start left (E.ScanTail ends offset) mine = scan_tail_keeps item start left ends offset
  enqueue_keeps item start left (E.Recheck ends Nothing) mine = recheck_keeps item start left ends mine
  enqueue_keeps item start left (E.ScanHead ends offset) mine = scan_head_keeps item start left ends offset mine
  enqueue_keeps item start left (E.Recheck ends (Slot index seen)) mine = grind (arith, nat_tests)
  enqueue_keeps item start left phase mine = grind (arith, nat_tests)

  dequeue_scan_keeps : (start left ends offset : ℕ)
      → KeptHead shape from w l charge ends (Unseen shape ends start offset)
      → Leads (R.Dequeue start left (D.ScanHead ends offset))
  unfolding stepped
  dequeue_scan_keeps start left ends offset mine =
      dequeue_scan_leads shape (HasKept shape from w l charge) start left ends offset
      (w (scan_index shape (head_of ends) start offset))
      (λ filled at e f. head_seen_filled ends start offset e at filled)
      (λ empty e f g. goes_on_scan ends start offset empty (mine e f g))
      (λ empty last e f g. ends_scan ends start offset last empty (mine e f g))

  dequeue_keeps : (start left : ℕ) (phase : DequeuePhase) → start < shape.k
      → HasKept shape from w l charge (R.Dequeue start left phase) → Leads (R.Dequeue start left phase)
  unfolding stepped
  dequeue_keeps start left D.LoadEnds h mine = begins_scan (w 0) start h
  dequeue_keeps start left (D.ScanHead ends offset) h mine = dequeue_scan_keeps start left ends offset mine
  dequeue_keeps start left (D.Recheck ends Nothing) h mine = grind (arith, nat_tests)
  dequeue_keeps start left (D.Recheck ends (Slot index seen)) h mine =
      let same = same_end shape (w 0) l.head l.tail ok in
      grind (arith, nat_tests)
  dequeue_keeps start left phase h mine = grind (arith, nat_tests)

  pub own_kept : (r : Running) → Sane shape r → HasKept shape from w l charge r → Leads r
  own_kept (R.Enqueue item start left phase) s mine = enqueue_keeps item start left phase mine
  own_kept (R.Dequeue start left phase) s mine = dequeue_keeps start left phase s.0 mine
