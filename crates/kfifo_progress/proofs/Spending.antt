-- What all threads together may still spend: each step of a call spends some of it, and each move of an end adds to it.
use Rattle.std.proofs.Common.{◌≡◌, ◌≢◌, ℕ, ◌+◌, ◌*◌, ◌<◌, ◌≤◌, true, false, inl, inr, refl, ap, arith, Option, Some}
use Rattle.std.proofs.Common.{None}
use Rattle.std.specs.Prelude.{if◌then◌else◌}
use Rattle.std.proofs.lemmas.Bool.{cases_Bool, cases_eq}
use Rattle.kfifo_linear.proofs.Types.{Next, Running, Shape}
use Rattle.kfifo_machine.specs.declared.place.Next.TheVariants.{Answers, Goes}
use Rattle.kfifo_linear.proofs.Abstract.{noted-other, noted-same, words_by}
use Rattle.kfifo_linear.proofs.Base.{Sane}
use Rattle.kfifo_linear.proofs.Claims.{EndsChange, IfGoes, ends_change}
use Rattle.kfifo_linear.specs.Ledger.{Ledger, found_in, noted, stepped}
use Rattle.kfifo_machine.proofs.NoWrap.{EndsOk}
use Rattle.kfifo_machine.specs.Machine.{place_after}
use Rattle.kfifo_machine.specs.Places.{IsPlace}
use Rattle.kfifo_machine.specs.Program.{access, accessed, advance}
use Rattle.kfifo_progress.proofs.Cost.{AreEnough, Prices, cost_at, ends_move, ends_same, falls_own, moves_own}
use Rattle.kfifo_progress.proofs.Cost.{others_rise, others_rise_little, slot_own, wins, words_same}
use Rattle.kfifo_progress.proofs.Counting.{total, total_falls, total_rises}
use Rattle.kfifo_progress.proofs.Kept.{quiet}
use Rattle.kfifo_progress.proofs.Rounds.{disturbed, disturbed_rises, rounds_change, rounds_left, rounds_own}

-- what a step changes of a sum over all threads, of what is said of each thread and its place
abbrev pub sum : (ℕ → Option Running → ℕ) → (ℕ → Option Running) → ℕ → ℕ
sum f p threads = total (λ u. f u (p u)) threads

module _ (f g : ℕ → Option Running → ℕ) (p : ℕ → Option Running) (t threads : ℕ) (next : Option Running) (c : ℕ)
    (others : (u : ℕ) (o : Option Running) → u ≢ t → g u o ≤ f u o + c) where
  other : (u : ℕ) → u ≢ t → g u (noted p t next u) ≤ f u (p u) + c
  other u ne = rw (noted-other p t u next ne) (others u (p u) ne)

  pub sum_falls : (rise fall : ℕ) → t < threads → g t next + fall ≤ f t (p t) + rise
      → sum g (noted p t next) threads + fall ≤ sum f p threads + rise + threads * c
  sum_falls rise fall in_range own =
      total_falls (λ u. f u (p u)) (λ u. g u (noted p t next u)) threads t c rise fall in_range
      (rw (noted-same p t t next refl) own) (λ u _ ne. other u ne)

  pub sum_rises : g t next ≤ f t (p t) + c → sum g (noted p t next) threads ≤ sum f p threads + threads * c
  sum_rises own =
      total_rises (λ u. f u (p u)) (λ u. g u (noted p t next u)) threads c
      (λ u _. elim (cases_eq u t) [ inl same ↦ rw (same, noted-same p t t next refl) own | inr ne ↦ other u ne ])

-- what all threads may spend
abbrev pub purse : Shape → Prices → (ℕ → ℕ) → (ℕ → Option Running) → ℕ → ℕ
purse shape x w p threads = sum (λ _. cost_at shape x w) p threads

-- what a move of an end adds
abbrev pub move_price : Prices → ℕ → ℕ
move_price x threads = threads * (x.ends + x.ends + x.round) + 1

-- whether a step changes a word
abbrev pub won_by : Shape → (ℕ → ℕ) → Running → ℕ
won_by shape w r = if wins w (access shape r) then 1 else 0

pub if_goes : (P Q : Running → Type 0) → ((q : Running) → P q → Q q) → (next : Next) → IfGoes P next → IfGoes Q next
if_goes P Q on (Goes q) h = on q h
if_goes P Q on (Answers answer) h = tt

module _ (shape : Shape) (threads : ℕ) (x : Prices) (enough : AreEnough shape threads x) (w : ℕ → ℕ)
    (p : ℕ → Option Running) (l : Ledger)
    (t : ℕ) (r : Running) (e : p t ≡ Some r) (in_range : t < threads) (s : Sane shape r) (place : IsPlace shape r)
    (ok : EndsOk shape (w 0) l.head l.tail) (calm : quiet (advance shape r (found_in shape w r)) ≡ true) where
  next : Option Running
  next = place_after (advance shape r (found_in shape w r))

  change : EndsChange w (words_by (access shape r) w) l (stepped shape w t r l)
  change = ends_change shape w l t r s ok

  -- the costs, by what changes
  none_changed : wins w (access shape r) ≡ false
      → purse shape x (words_by (access shape r) w) (noted p t (place_after (advance shape r (found_in shape w r))))
      threads + 1
      ≤ purse shape x w p threads
  none_changed none =
      let o = falls_own shape threads x w r enough place none calm in
      let k = sum_falls (λ _. cost_at shape x w) (λ _. cost_at shape x w) p t threads
      (place_after (advance shape r (found_in shape w r))) 0
      (λ u o _. omega arith) 0 1
      in_range (rw e (omega (arith, o))) in
      rw (words_same w (access shape r) none) (omega (arith, k))

  slot_changed : wins w (access shape r) ≡ true → accessed (access shape r) ≢ 0
      → purse shape x (words_by (access shape r) w) (noted p t (place_after (advance shape r (found_in shape w r))))
      threads + 1
      ≤ purse shape x w p threads
  slot_changed won slot =
      let same = ends_same w (access shape r) slot in
      let o = slot_own shape threads x w (words_by (access shape r) w) r enough place won slot calm same in
      let k = sum_falls (λ _. cost_at shape x w) (λ _. cost_at shape x (words_by (access shape r) w)) p t threads
      (place_after (advance shape r (found_in shape w r)))
      x.round (λ u o _. others_little (words_by (access shape r) w) same o) 0 (1 + x.put) in_range
      (rw e (omega (arith, o))) in
      omega (arith, k, enough.put)
    where
      others_little : (w' : ℕ → ℕ) → w' 0 ≡ w 0 → (o : Option Running)
          → cost_at shape x w' o ≤ cost_at shape x w o + x.round
      others_little w' same None = omega arith
      others_little w' same (Some q) = others_rise_little shape threads x w w' q enough same

  ends_changed : purse shape x (words_by (access shape r) w)
      (noted p t (place_after (advance shape r (found_in shape w r)))) threads + 1
      ≤ purse shape x w p threads + move_price x threads
  ends_changed =
      let o = moves_own shape threads x w (words_by (access shape r) w) r enough place calm in
      let k = sum_rises (λ _. cost_at shape x w) (λ _. cost_at shape x (words_by (access shape r) w)) p t threads
      (place_after (advance shape r (found_in shape w r)))
      (x.ends + x.ends + x.round) (λ u o _. others_much (words_by (access shape r) w) o) (rw e o) in
      omega (arith, k)
    where
      others_much : (w' : ℕ → ℕ) (o : Option Running)
          → cost_at shape x w' o ≤ cost_at shape x w o + (x.ends + x.ends + x.round)
      others_much w' None = omega arith
      others_much w' (Some q) = others_rise shape threads x w w' q enough

  -- each step of a call spends some of what the threads have
  pub spends : purse shape x (words_by (access shape r) w)
      (noted p t (place_after (advance shape r (found_in shape w r)))) threads + 1
      + move_price x threads * (l.head + l.tail)
      ≤ purse shape x w p threads + move_price x threads * ((stepped shape w t r l).head + (stepped shape w t r l).tail)
  spends =
      elim (cases_Bool (wins w (access shape r))) [
        | inr none ↦
            let z : words_by (access shape r) w 0 ≡ w 0 = ap (λ f. f 0) (words_same w (access shape r) none) in
            rw (change.head_kept z, change.tail_kept z) (omega (arith, none_changed none))
        | inl won ↦ elim (cases_eq (accessed (access shape r)) 0) [
          | inr slot ↦
              let z : words_by (access shape r) w 0 ≡ w 0 = ends_same w (access shape r) slot in
              rw (change.head_kept z, change.tail_kept z) (omega (arith, slot_changed won slot))
          | inl at ↦ rw (ends_move shape w l t r won at place calm)
              (add_move _ _ (move_price x threads) (l.head + l.tail) ends_changed)
        ]
      ]
    where
      add_move : (a b c m : ℕ) → a + 1 ≤ b + c → a + 1 + c * m ≤ b + c * (m + 1)
      add_move a b c m h = omega arith

  -- and a thread loses a round only to a change of a word
  pub own_rounds : IfGoes (λ q. rounds_left r + disturbed (words_by (access shape r) w) q ≤ rounds_left q + won_by shape
      w r + disturbed w r) (advance shape r (found_in shape w r))
  own_rounds = elim (cases_Bool (wins w (access shape r))) [
    | inr none ↦ if_goes (λ q. rounds_left r + disturbed w q ≤ rounds_left q + disturbed w r)
        (λ q. rounds_left r + disturbed (words_by (access shape r) w) q ≤ rounds_left q + won_by shape w r +
        disturbed w r)
        (λ q k. rw (words_same w (access shape r) none) (omega (arith, k))) (advance shape r (found_in shape w r))
        (rounds_own shape w w r place none calm)
    | inl won ↦
        let y : won_by shape w r ≡ 1 = ap (λ b. if b then 1 else 0) won in
        if_goes (λ q. rounds_left r + disturbed (words_by (access shape r) w) q ≤ rounds_left q + 1 + disturbed w r)
        (λ q. rounds_left r + disturbed (words_by (access shape r) w) q ≤ rounds_left q + won_by shape w r +
        disturbed w r)
        (λ q k. omega (arith, k, y)) (advance shape r (found_in shape w r))
        (rounds_change shape w (words_by (access shape r) w) r place won calm)
  ]

  pub others_disturbed : (q : Running) → disturbed (words_by (access shape r) w) q ≤ disturbed w q + won_by shape w r
  others_disturbed q = elim (cases_Bool (wins w (access shape r))) [
    | inr none ↦ rw (words_same w (access shape r) none) (omega arith)
    | inl won ↦
        let y : won_by shape w r ≡ 1 = ap (λ b. if b then 1 else 0) won in
        omega (arith, disturbed_rises w (words_by (access shape r) w) q, y)
  ]
