-- How many words may still change while no call ends: each thread puts an item once, and takes one out only where the
-- head has passed the visit in which its round began. So of the moves, those of the head count past the visit where the
-- tail was at the begin of the stretch.
use Rattle.std.proofs.Common.{◌≡◌, ◌≢◌, ℕ, ◌+◌, ◌*◌, ◌<◌, ◌≤◌, ◌⊎◌, Bool, true, false, inl, inr, refl, ap, arith}
use Rattle.std.proofs.Common.{Option, Some, None}
use Rattle.std.specs.Prelude.{◌==◌, ◌&&◌, nat_lt, max, if◌then◌else◌}
use Rattle.std.proofs.lemmas.Bool.{cases_Bool, cases_eq, cases_lt}
use Rattle.std.proofs.lemmas.Bool.Decides.{nat_tests}
use Rattle.kfifo_linear.proofs.Types.{Running, Shape}
use Rattle.kfifo_machine.specs.declared.place.EnqueuePhase.{EnqueuePhase}
use Rattle.kfifo_machine.specs.declared.place.EnqueuePhase.TheVariants as E
use Rattle.kfifo_machine.specs.declared.place.Running.TheVariants as R
use Rattle.kfifo_linear.proofs.Abstract.{words_by}
use Rattle.kfifo_linear.proofs.Base.{Sane}
use Rattle.kfifo_linear.proofs.Claims.{EndsChange, at_load, ends_change}
use Rattle.kfifo_linear.specs.Ledger.{Ledger, found_in, noted, stepped}
use Rattle.kfifo_machine.proofs.NoWrap.{EndsOk}
use Rattle.kfifo_machine.specs.Machine.{place_after}
use Rattle.kfifo_machine.specs.Places.{IsPlace}
use Rattle.kfifo_machine.specs.Program.{access, accessed, advance}
use Rattle.kfifo_progress.proofs.Cost.{ends_move, ends_same, wins, words_same}
use Rattle.kfifo_progress.proofs.Kept.{goes, quiet}
use Rattle.kfifo_progress.proofs.Spending.{sum, sum_falls, won_by}
use Rattle.kfifo_progress.proofs.Stretches.{moves_one, others_seen, seen_after}
use Rattle.kfifo_progress.proofs.Undos.{HasPassed}

-- two more where the head has passed the visit in which the round began
abbrev pub two_if : Bool → ℕ
two_if passed = if passed then 2 else 0

abbrev pub enqueue_changes : Bool → EnqueuePhase → ℕ
enqueue_changes passed E.LoadEnds = 1
enqueue_changes passed (E.ScanTail ends offset) = 1 + two_if passed
enqueue_changes passed (E.Recheck ends found) = 1 + two_if passed
enqueue_changes passed (E.Put ends index empty) = 1 + two_if passed
enqueue_changes passed (E.ReloadSlot ends index filled) = two_if passed
enqueue_changes passed (E.ReloadEnds ends index filled) = two_if passed
enqueue_changes passed (E.HoldHead ends index filled held) = two_if passed
enqueue_changes passed (E.Undo index filled true) = 0
enqueue_changes passed (E.Undo index filled false) = two_if passed
enqueue_changes passed (E.ScanHead ends offset) = 1
enqueue_changes passed (E.ConfirmFull ends) = 1
enqueue_changes passed (E.MoveHead ends) = 1
enqueue_changes passed (E.MoveTail ends) = 1

abbrev pub changes : Bool → Running → ℕ
changes passed (R.Enqueue item start left phase) = enqueue_changes passed phase
changes passed (R.Dequeue start left phase) = 1

abbrev pub changes_at : Bool → Option Running → ℕ
changes_at passed None = 1
changes_at passed (Some r) = changes passed r

-- the visit past which the moves of the head count
abbrev pub top : ℕ → Ledger → ℕ
top from l = max l.head from

-- whether the head has passed the visit in which a thread's round began, or the round began before the stretch
abbrev pub has_passed : ℕ → Ledger → ℕ → Bool
has_passed from l u = nat_lt (l.tail_seen u) (top from l)

-- how many words all threads may change
abbrev pub to_change : ℕ → Ledger → (ℕ → Option Running) → ℕ → ℕ
to_change from l p threads = sum (λ u. changes_at (has_passed from l u)) p threads

pub changes_bound : (passed : Bool) (o : Option Running) → changes_at passed o ≤ 0 + 3
changes_bound passed o = grind (arith, nat_tests)

changes_rise : (passed passed' : Bool) (o : Option Running) → changes_at passed' o ≤ changes_at passed o + 2
changes_rise passed passed' o = grind (arith, nat_tests)

-- an item that is taken out after the last hold, which lets its thread change two words more
abbrev pub last_undo : (ℕ → ℕ) → Running → ℕ
last_undo w (R.Enqueue item start left (E.Undo index filled false)) =
    if (left == 1) && (w index == filled) then 2 else 0
last_undo w other = 0

pub last_undo_two : (w : ℕ → ℕ) (r : Running) → last_undo w r ≤ 2
last_undo_two w r = grind (arith, nat_tests)

pub no_last_undo : (shape : Shape) (w : ℕ → ℕ) (r : Running) → goes (advance shape r (found_in shape w r)) ≡ true
    → last_undo w r ≡ 0
no_last_undo shape w r calm = grind (arith, nat_tests)

abbrev undo_left : Running → Type 0
undo_left (R.Enqueue item start left (E.Undo index filled false)) = left ≢ 1
undo_left other = ⊥

-- one's own step: one that changes no word, one that changes a slot, one that changes the ends
module _ (shape : Shape) (w : ℕ → ℕ) (passed passed' : Bool) where
  changes_own : (r : Running) → wins w (access shape r) ≡ false → quiet (advance shape r (found_in shape w r)) ≡ true
      → (at_load r ≡ false → passed' ≡ passed) → (at_load r ≡ true → passed' ≡ false)
      → changes_at passed' (place_after (advance shape r (found_in shape w r))) ≤ changes passed r
  changes_own (R.Enqueue item start left phase) none calm same new = grind (arith, nat_tests)
  changes_own (R.Dequeue start left phase) none calm same new = grind (arith, nat_tests)

  changes_slot : (r : Running) → wins w (access shape r) ≡ true → accessed (access shape r) ≢ 0
      → quiet (advance shape r (found_in shape w r)) ≡ true → (at_load r ≡ false → passed' ≡ passed)
      → (undo_left r → passed ≡ true)
      → changes_at passed' (place_after (advance shape r (found_in shape w r))) + 1 ≤ changes passed r + last_undo w r
  changes_slot (R.Enqueue item start left phase) won slot calm same undo = grind (arith, nat_tests)
  changes_slot (R.Dequeue start left phase) won slot calm same undo = grind (arith, nat_tests)

  changes_ends : (r : Running) → IsPlace shape r → wins w (access shape r) ≡ true → accessed (access shape r) ≡ 0
      → quiet (advance shape r (found_in shape w r)) ≡ true
      → changes_at passed' (place_after (advance shape r (found_in shape w r))) ≤ changes passed r
  changes_ends (R.Enqueue item start left phase) place won at calm = grind (arith, nat_tests)
  changes_ends (R.Dequeue start left phase) place won at calm = grind (arith, nat_tests)

passes_undo : (from : ℕ) (l : Ledger) (t : ℕ) (r : Running) → HasPassed l t r → undo_left r → has_passed from l t ≡ true
passes_undo from l t (R.Enqueue item start left (E.Undo index filled false)) passed last =
    let p : l.tail_seen t < l.head = passed last in
    grind (arith, nat_tests)
passes_undo from l t r passed last = absurd (grind arith)

module _ (shape : Shape) (threads from : ℕ) (w : ℕ → ℕ) (p : ℕ → Option Running) (l : Ledger) (t : ℕ) (r : Running)
    (e : p t ≡ Some r)
    (in_range : t < threads) (s : Sane shape r) (place : IsPlace shape r) (ok : EndsOk shape (w 0) l.head l.tail)
    (calm : quiet (advance shape r (found_in shape w r)) ≡ true) (undo : HasPassed l t r) (reached : from ≤ l.tail)
  where
    change : EndsChange w (words_by (access shape r) w) l (stepped shape w t r l)
    change = ends_change shape w l t r s ok

    -- who has passed stays so, as long as the head does not move past where the tail was at the begin
    passed_same : (u : ℕ) → (stepped shape w t r l).tail_seen u ≡ l.tail_seen u → top from (stepped shape w t r l)
        ≡ top from l
        → has_passed from (stepped shape w t r l) u ≡ has_passed from l u
    passed_same u seen same = rw (seen, same) refl

    own_same : top from (stepped shape w t r l) ≡ top from l → at_load r ≡ false
        → has_passed from (stepped shape w t r l) t ≡ has_passed from l t
    own_same same loaded = passed_same t ((seen_after shape w l t r).0 loaded) same

    own_new : (stepped shape w t r l).head ≡ l.head → at_load r ≡ true → has_passed from (stepped shape w t r l) t
        ≡ false
    own_new same at =
        let seen : (stepped shape w t r l).tail_seen t ≡ l.tail = (seen_after shape w l t r).1 at in
        let o = ok.ordered in
        rw (seen, same) (grind (arith, nat_tests))

    others_same : top from (stepped shape w t r l) ≡ top from l → (u : ℕ) (o : Option Running) → u ≢ t
        → changes_at (has_passed from (stepped shape w t r l) u) o ≤ changes_at (has_passed from l u) o + 0
    others_same same u o ne = rw (passed_same u (others_seen shape w l t r u ne) same) (omega arith)

    next : Option Running
    next = place_after (advance shape r (found_in shape w r))

    -- by what changes
    none_changed : wins w (access shape r) ≡ false
        → to_change from (stepped shape w t r l) (noted p t (place_after (advance shape r (found_in shape w r))))
        threads
        ≤ to_change from l p threads
    none_changed none =
        let z : words_by (access shape r) w 0 ≡ w 0 = ap (λ f. f 0) (words_same w (access shape r) none) in
        let top_same : top from (stepped shape w t r l) ≡ top from l = ap (λ h. max h from) (change.head_kept z) in
        let passed' = has_passed from (stepped shape w t r l) t in
        let o = changes_own shape w (has_passed from l t) passed' r none calm (own_same top_same)
        (own_new (change.head_kept z)) in
        let k = sum_falls (λ u. changes_at (has_passed from l u))
        (λ u. changes_at (has_passed from (stepped shape w t r l) u)) p t threads
        (place_after (advance shape r (found_in shape w r))) 0 (others_same top_same) 0 0 in_range
        (rw e (omega (arith, o))) in
        omega (arith, k)

    slot_changed : wins w (access shape r) ≡ true → accessed (access shape r) ≢ 0
        → to_change from (stepped shape w t r l) (noted p t (place_after (advance shape r (found_in shape w r))))
        threads + 1
        ≤ to_change from l p threads + last_undo w r
    slot_changed won slot =
        let z : words_by (access shape r) w 0 ≡ w 0 = ends_same w (access shape r) slot in
        let top_same : top from (stepped shape w t r l) ≡ top from l = ap (λ h. max h from) (change.head_kept z) in
        let passed' = has_passed from (stepped shape w t r l) t in
        let o = changes_slot shape w (has_passed from l t) passed' r won slot calm (own_same top_same)
        (passes_undo from l t r undo) in
        let k = sum_falls (λ u. changes_at (has_passed from l u))
        (λ u. changes_at (has_passed from (stepped shape w t r l) u)) p t threads
        (place_after (advance shape r (found_in shape w r))) 0 (others_same top_same) (last_undo w r) 1 in_range
        (rw e (omega (arith, o))) in
        omega (arith, k)

    -- a move of an end lets others change words only where the head goes past
    ends_changed : wins w (access shape r) ≡ true → accessed (access shape r) ≡ 0 → (c : ℕ)
        → ((u : ℕ) (o : Option Running) → u ≢ t
        → changes_at (has_passed from (stepped shape w t r l) u) o ≤ changes_at (has_passed from l u) o + c)
        → to_change from (stepped shape w t r l) (noted p t (place_after (advance shape r (found_in shape w r))))
        threads
        ≤ to_change from l p threads + threads * c
    ends_changed won at c others =
        let passed' = has_passed from (stepped shape w t r l) t in
        let o = changes_ends shape w (has_passed from l t) passed' r place won at calm in
        let k = sum_falls (λ u. changes_at (has_passed from l u))
        (λ u. changes_at (has_passed from (stepped shape w t r l) u)) p t threads
        (place_after (advance shape r (found_in shape w r))) c others 0 0 in_range (rw e (omega (arith, o))) in
        omega (arith, k)

    top_moves : (top from (stepped shape w t r l) ≡ top from l) ⊎ (top from (stepped shape w t r l) ≡ top from l + 1)
    top_moves = elim (moves_one shape w l t r).0 [
      | inl same ↦ inl (ap (λ h. max h from) same)
      | inr on ↦ rw on (elim (cases_lt l.head from) [ inl below ↦ inl (omega arith) | inr above ↦ inr (omega arith) ])
    ]

    -- each change of a word is one of those that the threads may make
    pub changes_made : to_change from (stepped shape w t r l)
        (noted p t (place_after (advance shape r (found_in shape w r)))) threads
        + won_by shape w r + (l.head + l.tail) + threads * 2 * top from l
        ≤ to_change from l p threads + last_undo w r + ((stepped shape w t r l).head + (stepped shape w t r l).tail)
        + threads * 2 * top from (stepped shape w t r l)
    changes_made =
        elim (cases_Bool (wins w (access shape r))) [
          | inr none ↦
              let z : words_by (access shape r) w 0 ≡ w 0 = ap (λ f. f 0) (words_same w (access shape r) none) in
              let y : won_by shape w r ≡ 0 = ap (λ b. if b then 1 else 0) none in
              let top_same : top from (stepped shape w t r l) ≡ top from l =
              ap (λ h. max h from) (change.head_kept z) in
              let d : threads * 2 * top from (stepped shape w t r l) ≡ threads * 2 * top from l =
              ap (λ x. threads * 2 * x) top_same in
              omega (arith, none_changed none, y, d, change.head_kept z, change.tail_kept z)
          | inl won ↦
              let y : won_by shape w r ≡ 1 = ap (λ b. if b then 1 else 0) won in
              elim (cases_eq (accessed (access shape r)) 0) [
                | inr slot ↦
                    let z : words_by (access shape r) w 0 ≡ w 0 = ends_same w (access shape r) slot in
                    let top_same : top from (stepped shape w t r l) ≡ top from l =
                    ap (λ h. max h from) (change.head_kept z) in
                    let d : threads * 2 * top from (stepped shape w t r l) ≡ threads * 2 * top from l =
                    ap (λ x. threads * 2 * x) top_same in
                    omega (arith, slot_changed won slot, y, d, change.head_kept z, change.tail_kept z)
                | inl at ↦
                    let m = ends_move shape w l t r won at place calm in
                    elim top_moves [
                      | inl stays ↦
                          let d : threads * 2 * top from (stepped shape w t r l) ≡ threads * 2 * top from l =
                          ap (λ x. threads * 2 * x) stays in
                          omega (arith, ends_changed won at 0 (others_same stays), y, m, d)
                      | inr past ↦
                          let k = ends_changed won at 2
                          (λ u o _. changes_rise (has_passed from l u) (has_passed from (stepped shape w t r l) u)
                          o) in
                          let d : threads * 2 * top from (stepped shape w t r l)
                          ≡ threads * 2 * top from l + threads * 2 =
                          past_one (threads * 2) (top from l) (top from (stepped shape w t r l)) past in
                          omega (arith, k, y, m, d)
                    ]
              ]
        ]
      where
        past_one : (c a b : ℕ) → b ≡ a + 1 → c * b ≡ c * a + c
        past_one c a b e = rw e (omega arith)
