-- Full has its cause: what an enqueue has seen in its round so far.
use Rattle.std.proofs.Common.{◌≡◌, ◌≢◌, ℕ, ◌+◌, ◌-◌, List, [], ◌∷◌, ◌++◌, length, Some, Bool, true, false, refl, sym}
use Rattle.std.proofs.Common.{ap, ◌∙◌, subst, arith, cond, eqb-true, length-append}
use Rattle.std.specs.Prelude.{◌==◌, ◌&&◌, not, nat_lt, nat_le}
use Rattle.std.proofs.lemmas.Bool.{eqb-false}
use Rattle.std.proofs.lemmas.Bool.Decides.{nat_tests}
use Rattle.std.proofs.lemmas.List.{append_assoc}
use Rattle.kfifo_machine.proofs.Types.{Begin, DequeuePhase, EnqueuePhase, Next, Running, Shape}
use Rattle.kfifo_words.specs.Words.{value_of, version_of, head_of, tail_of}
use Rattle.kfifo_words.specs.Ring.{next_segment, distance}
use Rattle.kfifo_model.specs.declared.calls.Answer.TheVariants as A
use Rattle.kfifo_machine.specs.declared.event.Begin.TheVariants as B
use Rattle.kfifo_machine.specs.declared.place.Found.TheVariants.{Slot, Nothing}
use Rattle.kfifo_machine.specs.declared.place.EnqueuePhase.TheVariants as E
use Rattle.kfifo_machine.specs.declared.place.DequeuePhase.TheVariants as D
use Rattle.kfifo_machine.specs.declared.place.Running.TheVariants as R
use Rattle.kfifo_machine.specs.declared.place.Access.TheVariants.{Load}
use Rattle.kfifo_machine.specs.declared.place.Next.TheVariants.{Goes, Answers}
use Rattle.kfifo_machine.specs.Program.{advance, scan_index, filled_with, enqueue_again}
use Rattle.kfifo_machine.specs.Machine.{begun}
use Rattle.kfifo_machine.specs.Causes.{Look, Loads, AllOfRound, AllFilled, CauseOfFull, FullHasCause, round_of}
use Rattle.kfifo_machine.specs.Causes.{start_of, looks_of}
use Rattle.kfifo_machine.proofs.Schedules.{Some-injective}
use Rattle.kfifo_machine.proofs.Paths.{whole_path, along}

pub all_of_round-append : (round : ℕ) (xs ys : List Look) → AllOfRound round xs → AllOfRound round ys
    → AllOfRound round (xs ++ ys)
all_of_round-append round [] ys a b = b
all_of_round-append round (x ∷ xs) ys a b = (a.0, all_of_round-append round xs ys a.1 b)

all_filled-more : (shape : Shape) (segment start offset : ℕ) (xs : List Look) (x : Look)
    → AllFilled shape segment start offset xs
    → Loads shape x (scan_index shape segment start (offset + length xs)) x.word → value_of x.word ≢ 0
    → AllFilled shape segment start offset (xs ++ x ∷ [])
all_filled-more shape segment start offset [] x all loads filled =
    let z : offset + 0 ≡ offset = omega arith in
    (subst (λ o. Loads shape x (scan_index shape segment start o) x.word) z loads, filled, tt)
all_filled-more shape segment start offset (y ∷ ys) x all loads filled =
    let z : offset + length (y ∷ ys) ≡ (offset + 1) + length ys = omega arith in (
      all.0,
      all.1,
      all_filled-more shape segment start (offset + 1) ys x all.2
          (subst (λ o. Loads shape x (scan_index shape segment start o) x.word) z loads) filled,
    )

-- a look at a place
abbrev look : Running → ℕ → Look
look running word = record { running = running; word = word }

-- the ends word was loaded, and then so many filled slots of the tail's segment
pub record Probed (shape : Shape) (start left ends offset : ℕ) (past : List Look) : Type 0 where
  pub earlier : List Look
  pub first : Look
  pub probed : List Look
  pub past_is : past ≡ earlier ++ (first ∷ probed)
  pub one_round : AllOfRound left (first ∷ probed)
  pub loads_first : Loads shape first 0 ends
  pub so_many : length probed ≡ offset
  pub each_filled : AllFilled shape (tail_of ends) start 0 probed

-- then it was loaded once more, with the ring full, and then some slots of the head's segment
pub record Scanned (shape : Shape) (start left ends : ℕ) (past : List Look) : Type 0 where
  pub earlier : List Look
  pub first : Look
  pub probed : List Look
  pub second : Look
  pub scanned : List Look
  pub past_is : past ≡ earlier ++ (first ∷ (probed ++ (second ∷ scanned)))
  pub one_round : AllOfRound left (first ∷ (probed ++ (second ∷ scanned)))
  pub loads_first : Loads shape first 0 ends
  pub loads_second : Loads shape second 0 ends
  pub so_many : length probed ≡ shape.probes
  pub each_filled : AllFilled shape (tail_of ends) start 0 probed
  pub ring_full : next_segment shape.n (tail_of ends) ≡ head_of ends

-- the last of which is filled
pub record Filled (shape : Shape) (start left ends : ℕ) (past : List Look) : Type 0 where
  pub old : List Look
  pub filled : Look
  pub offset : ℕ
  pub past_is : past ≡ old ++ (filled ∷ [])
  pub scanned : Scanned shape start left ends old
  pub in_round : round_of filled.running ≡ left
  pub loads_filled : Loads shape filled (scan_index shape (head_of ends) 0 offset) filled.word
  pub is_filled : value_of filled.word ≢ 0

abbrev pub SoFar : Shape → ℕ → Running → List Look → Type 0
SoFar shape begun_at (R.Enqueue item start left (E.ScanTail ends offset)) past = (start ≡ begun_at)
    × Probed shape start left ends offset past
SoFar shape begun_at (R.Enqueue item start left (E.Recheck ends Nothing)) past = (start ≡ begun_at)
    × Probed shape start left ends shape.probes past
SoFar shape begun_at (R.Enqueue item start left (E.ScanHead ends offset)) past = (start ≡ begun_at)
    × Scanned shape start left ends past
SoFar shape begun_at (R.Enqueue item start left (E.ConfirmFull ends)) past = (start ≡ begun_at)
    × Filled shape start left ends past
SoFar shape begun_at (R.Enqueue item start left other) past = start ≡ begun_at
SoFar shape begun_at (R.Dequeue start left phase) past = Unit {0}

abbrev pub NextSoFar : Shape → ℕ → Next → List Look → Type 0
NextSoFar shape begun_at (Goes running) past = SoFar shape begun_at running past
NextSoFar shape begun_at (Answers A.Full) past = CauseOfFull shape begun_at past
NextSoFar shape begun_at (Answers other) past = Unit {0}

module _ (shape : Shape) (begun_at item start left : ℕ) (same : start ≡ begun_at) (past : List Look) where
  again_so_far : NextSoFar shape begun_at (enqueue_again item start left) past
  again_so_far = by_test (left == 1)
    where
      by_test : (b : Bool)
          → NextSoFar shape begun_at (cond b (Answers A.Busy) (Goes (R.Enqueue item start (left - 1) E.LoadEnds))) past
      by_test true = tt
      by_test false = same

-- one more probe
probed_more : (shape : Shape) (item start left ends offset word : ℕ) (past : List Look)
    → Probed shape start left ends offset past
    → value_of word ≢ 0
    → Probed shape start left ends (offset + 1) (past ++ look (R.Enqueue item start left (E.ScanTail ends offset)) word
    ∷ [])
probed_more shape item start left ends offset word past p filled =
    let x : Look = look (R.Enqueue item start left (E.ScanTail ends offset)) word in
    let at : scan_index shape (tail_of ends) start offset
    ≡ scan_index shape (tail_of ends) start (0 + length p.probed) =
    ap (scan_index shape (tail_of ends) start) (let m = p.so_many in omega arith) in
    record {
      earlier = p.earlier;
      first = p.first;
      probed = p.probed ++ x ∷ [];
      past_is = ap (λ (xs : List Look). xs ++ x ∷ []) p.past_is ∙ append_assoc p.earlier (p.first ∷ p.probed) (x ∷ []);
      one_round = all_of_round-append left (p.first ∷ p.probed) (x ∷ []) p.one_round (refl, tt);
      loads_first = p.loads_first;
      so_many = length-append p.probed (x ∷ []) ∙ ap (λ m. m + 1) p.so_many;
      each_filled = all_filled-more shape (tail_of ends) start 0 p.probed x p.each_filled (record {
        load = ap Load at;
        finds = refl;
      }) filled;
    }

-- the ends word is the same, and the ring is full
scanned_first : (shape : Shape) (item start left ends word : ℕ) (past : List Look)
    → Probed shape start left ends shape.probes past
    → word ≡ ends → next_segment shape.n (tail_of ends) ≡ head_of ends
    → Scanned shape start left ends (past ++ look (R.Enqueue item start left (E.Recheck ends Nothing)) word ∷ [])
scanned_first shape item start left ends word past p same full =
    let x : Look = look (R.Enqueue item start left (E.Recheck ends Nothing)) word in
    record {
      earlier = p.earlier;
      first = p.first;
      probed = p.probed;
      second = x;
      scanned = [];
      past_is = ap (λ (xs : List Look). xs ++ x ∷ []) p.past_is ∙ append_assoc p.earlier (p.first ∷ p.probed) (x ∷ []);
      one_round = all_of_round-append left (p.first ∷ p.probed) (x ∷ []) p.one_round (refl, tt);
      loads_first = p.loads_first;
      loads_second = record { load = refl; finds = same };
      so_many = p.so_many;
      each_filled = p.each_filled;
      ring_full = full;
    }

-- one more slot of the head's segment
scanned_more : (shape : Shape) (start left ends : ℕ) (x : Look) (past : List Look) → Scanned shape start left ends past
    → round_of x.running ≡ left → Scanned shape start left ends (past ++ x ∷ [])
scanned_more shape start left ends x past p in_round =
    let shift : (p.first ∷ (p.probed ++ (p.second ∷ p.scanned))) ++ x ∷ [] ≡ p.first
    ∷ (p.probed ++ (p.second ∷ (p.scanned ++ x ∷ []))) =
    ap (λ (xs : List Look). p.first ∷ xs) (append_assoc p.probed (p.second ∷ p.scanned) (x ∷ [])) in
    record {
      earlier = p.earlier;
      first = p.first;
      probed = p.probed;
      second = p.second;
      scanned = p.scanned ++ x ∷ [];
      past_is = ap (λ (xs : List Look). xs ++ x ∷ []) p.past_is
          ∙ append_assoc p.earlier (p.first ∷ (p.probed ++ (p.second ∷ p.scanned))) (x ∷ [])
          ∙ ap (λ (xs : List Look). p.earlier ++ xs) shift;
      one_round = subst (AllOfRound left) shift
          (all_of_round-append left (p.first ∷ (p.probed ++ (p.second ∷ p.scanned))) (x ∷ []) p.one_round
          (in_round, tt));
      loads_first = p.loads_first;
      loads_second = p.loads_second;
      so_many = p.so_many;
      each_filled = p.each_filled;
      ring_full = p.ring_full;
    }

-- the ends word is the same once more
full_at_last : (shape : Shape) (start left ends : ℕ) (x : Look) (past : List Look) → Filled shape start left ends past
    → round_of x.running ≡ left → Loads shape x 0 ends → CauseOfFull shape start (past ++ x ∷ [])
unfolding scanned_more
full_at_last shape start left ends x past f in_round loads =
    let p = f.scanned in
    let q : Scanned shape start left ends ((f.old ++ f.filled ∷ []) ++ x ∷ []) =
    scanned_more shape start left ends x (f.old ++ f.filled ∷ [])
    (scanned_more shape start left ends f.filled f.old p f.in_round)
    in_round in
    let tail_is : (p.scanned ++ f.filled ∷ []) ++ x ∷ [] ≡ p.scanned ++ (f.filled ∷ (x ∷ [])) =
    append_assoc p.scanned (f.filled ∷ []) (x ∷ []) in
    let whole : past ++ x ∷ [] ≡ p.earlier
    ++ (p.first ∷ (p.probed ++ (p.second ∷ ((p.scanned ++ f.filled ∷ []) ++ x ∷ [])))) =
    ap (λ (xs : List Look). xs ++ x ∷ []) f.past_is ∙ q.past_is in
    let round : AllOfRound left (p.first ∷ (p.probed ++ (p.second ∷ ((p.scanned ++ f.filled ∷ []) ++ x ∷ [])))) =
    q.one_round in
    let is_left : round_of p.first.running ≡ left = round.0 in
    record {
      earlier = p.earlier;
      first = p.first;
      probed = p.probed;
      second = p.second;
      scanned = p.scanned;
      filled = f.filled;
      third = x;
      ends = ends;
      offset = f.offset;
      all_is = whole ∙ ap (λ (xs : List Look). p.earlier ++ (p.first ∷ (p.probed ++ (p.second ∷ xs)))) tail_is;
      one_round = subst (λ (r : ℕ). AllOfRound r (p.probed ++ (p.second ∷ (p.scanned ++ (f.filled ∷ (x ∷ []))))))
          (sym is_left) (subst (λ (xs : List Look). AllOfRound left (p.probed ++ (p.second ∷ xs))) tail_is round.1);
      loads_first = p.loads_first;
      loads_second = p.loads_second;
      loads_third = loads;
      ring_full = p.ring_full;
      probes = p.so_many;
      each_filled = p.each_filled;
      loads_filled = f.loads_filled;
      is_filled = f.is_filled;
    }

value-filled : (word : ℕ) → (value_of word == 0) ≡ false → value_of word ≢ 0
value-filled word is = eqb-false (value_of word) 0 is

-- What a step of an enqueue adds to what was seen so far
enqueue_on : (shape : Shape) (begun_at item start left : ℕ) (phase : EnqueuePhase) (word : ℕ) (past : List Look)
    → SoFar shape begun_at (R.Enqueue item start left phase) past
    → NextSoFar shape begun_at (advance shape (R.Enqueue item start left phase) word)
    (past ++ look (R.Enqueue item start left phase) word ∷ [])
enqueue_on shape begun_at item start left E.LoadEnds word past same = (
  same,
  record {
    earlier = past;
    first = look (R.Enqueue item start left E.LoadEnds) word;
    probed = [];
    past_is = refl;
    one_round = (refl, tt);
    loads_first = record { load = refl; finds = refl };
    so_many = refl;
    each_filled = tt;
  },
)
enqueue_on shape begun_at item start left (E.ScanTail ends offset) word past so = empty (value_of word == 0) refl
  where
    probes : (b : Bool) → (offset + 1 == shape.probes) ≡ b
        → Probed shape start left ends (offset + 1) (past ++ look (R.Enqueue item start left (E.ScanTail ends offset))
        word ∷ [])
        → NextSoFar shape begun_at (cond b (Goes (R.Enqueue item start left (E.Recheck ends Nothing)))
        (Goes (R.Enqueue item start left (E.ScanTail ends (offset + 1)))))
        (past ++ look (R.Enqueue item start left (E.ScanTail ends offset)) word ∷ [])
    probes true is more = (
      so.0,
      subst (λ m. Probed shape start left ends m
          (past ++ look (R.Enqueue item start left (E.ScanTail ends offset)) word ∷ []))
          (eqb-true (offset + 1) shape.probes is) more,
    )
    probes false is more = (so.0, more)

    empty : (b : Bool) → (value_of word == 0) ≡ b
        → NextSoFar shape begun_at (cond b (Goes
        (R.Enqueue item start left (E.Recheck ends (Slot (scan_index shape (tail_of ends) start offset) word))))
        (cond (offset + 1 == shape.probes) (Goes (R.Enqueue item start left (E.Recheck ends Nothing)))
        (Goes (R.Enqueue item start left (E.ScanTail ends (offset + 1))))))
        (past ++ look (R.Enqueue item start left (E.ScanTail ends offset)) word ∷ [])
    empty true is = so.0
    empty false is = probes (offset + 1 == shape.probes) refl
        (probed_more shape item start left ends offset word past so.1 (value-filled word is))
enqueue_on shape begun_at item start left (E.Recheck ends (Slot index seen)) word past same = by_ends (word == ends)
  where
    by_last : (b : Bool)
        → NextSoFar shape begun_at (cond b (Answers A.Worn) (Goes (R.Enqueue item start left (E.Put ends index seen))))
        (past ++ look (R.Enqueue item start left (E.Recheck ends (Slot index seen))) word ∷ [])
    by_last true = tt
    by_last false = same

    by_ends : (b : Bool) → NextSoFar shape begun_at
        (cond (not b) (enqueue_again item start left)
        (cond (nat_lt shape.last (version_of seen + 2)) (Answers A.Worn)
        (Goes (R.Enqueue item start left (E.Put ends index seen)))))
        (past ++ look (R.Enqueue item start left (E.Recheck ends (Slot index seen))) word ∷ [])
    by_ends true = by_last (nat_lt shape.last (version_of seen + 2))
    by_ends false = again_so_far shape begun_at item start left same
        (past ++ look (R.Enqueue item start left (E.Recheck ends (Slot index seen))) word ∷ [])
enqueue_on shape begun_at item start left (E.Recheck ends Nothing) word past so = by_ends (word == ends) refl
  where
    by_last : (b : Bool)
        → NextSoFar shape begun_at (cond b (Answers A.Worn) (Goes (R.Enqueue item start left (E.MoveTail ends))))
        (past ++ look (R.Enqueue item start left (E.Recheck ends Nothing)) word ∷ [])
    by_last true = tt
    by_last false = so.0

    by_ring : (b : Bool) → word ≡ ends → (next_segment shape.n (tail_of ends) == head_of ends) ≡ b
        → NextSoFar shape begun_at (cond b (Goes (R.Enqueue item start left (E.ScanHead ends 0)))
        (cond (version_of ends == shape.last) (Answers A.Worn) (Goes (R.Enqueue item start left (E.MoveTail ends)))))
        (past ++ look (R.Enqueue item start left (E.Recheck ends Nothing)) word ∷ [])
    by_ring true same is = (
      so.0,
      scanned_first shape item start left ends word past so.1 same
          (eqb-true (next_segment shape.n (tail_of ends)) (head_of ends) is),
    )
    by_ring false same is = by_last (version_of ends == shape.last)

    by_ends : (b : Bool) → (word == ends) ≡ b
        → NextSoFar shape begun_at (cond (not b) (enqueue_again item start left)
        (cond (next_segment shape.n (tail_of ends) == head_of ends)
        (Goes (R.Enqueue item start left (E.ScanHead ends 0)))
        (cond (version_of ends == shape.last) (Answers A.Worn) (Goes (R.Enqueue item start left (E.MoveTail ends))))))
        (past ++ look (R.Enqueue item start left (E.Recheck ends Nothing)) word ∷ [])
    by_ends true is = by_ring (next_segment shape.n (tail_of ends) == head_of ends) (eqb-true word ends is) refl
    by_ends false is = again_so_far shape begun_at item start left so.0
        (past ++ look (R.Enqueue item start left (E.Recheck ends Nothing)) word ∷ [])
enqueue_on shape begun_at item start left (E.Put ends index empty) word past same = by_test (word == empty)
  where
    by_test : (b : Bool) → NextSoFar shape begun_at
        (cond b (Goes (R.Enqueue item start left (E.ReloadSlot ends index (filled_with item empty))))
        (enqueue_again item start left))
        (past ++ look (R.Enqueue item start left (E.Put ends index empty)) word ∷ [])
    by_test true = same
    by_test false = again_so_far shape begun_at item start left same
        (past ++ look (R.Enqueue item start left (E.Put ends index empty)) word ∷ [])
enqueue_on shape begun_at item start left (E.ReloadSlot ends index filled) word past same = by_test (word == filled)
  where
    by_test : (b : Bool) → NextSoFar shape begun_at
        (cond b (Goes (R.Enqueue item start left (E.ReloadEnds ends index filled))) (Answers A.Done))
        (past ++ look (R.Enqueue item start left (E.ReloadSlot ends index filled)) word ∷ [])
    by_test true = same
    by_test false = tt
enqueue_on shape begun_at item start left (E.ReloadEnds ends index filled) word past same =
    by_head (tail_of ends == head_of word)
  where
    by_last : (b : Bool) → NextSoFar shape begun_at
        (cond b (Goes (R.Enqueue item start left (E.Undo index filled true)))
        (Goes (R.Enqueue item start left (E.HoldHead ends index filled word))))
        (past ++ look (R.Enqueue item start left (E.ReloadEnds ends index filled)) word ∷ [])
    by_last true = same
    by_last false = same

    by_window : (b : Bool) → NextSoFar shape begun_at
        (cond b (Answers A.Done) (Goes (R.Enqueue item start left (E.Undo index filled false))))
        (past ++ look (R.Enqueue item start left (E.ReloadEnds ends index filled)) word ∷ [])
    by_window true = tt
    by_window false = same

    by_head : (b : Bool) → NextSoFar shape begun_at
        (cond b (cond (version_of word == shape.last) (Goes (R.Enqueue item start left (E.Undo index filled true)))
        (Goes (R.Enqueue item start left (E.HoldHead ends index filled word))))
        (cond (nat_le (distance shape.n (head_of word) (tail_of ends)) (distance shape.n (head_of word) (tail_of word)))
        (Answers A.Done)
        (Goes (R.Enqueue item start left (E.Undo index filled false)))))
        (past ++ look (R.Enqueue item start left (E.ReloadEnds ends index filled)) word ∷ [])
    by_head true = by_last (version_of word == shape.last)
    by_head false =
        by_window (nat_le (distance shape.n (head_of word) (tail_of ends))
        (distance shape.n (head_of word) (tail_of word)))
enqueue_on shape begun_at item start left (E.HoldHead ends index filled held) word past same = by_test (word == held)
  where
    by_round : (b : Bool) → NextSoFar shape begun_at
        (cond b (Goes (R.Enqueue item start (left - 1) (E.ReloadSlot ends index filled)))
        (Goes (R.Enqueue item start left (E.Undo index filled false))))
        (past ++ look (R.Enqueue item start left (E.HoldHead ends index filled held)) word ∷ [])
    by_round true = same
    by_round false = same

    by_test : (b : Bool) → NextSoFar shape begun_at (cond b (Answers A.Done)
        (cond (shape.holds_again && not (left == 1))
        (Goes (R.Enqueue item start (left - 1) (E.ReloadSlot ends index filled)))
        (Goes (R.Enqueue item start left (E.Undo index filled false)))))
        (past ++ look (R.Enqueue item start left (E.HoldHead ends index filled held)) word ∷ [])
    by_test true = tt
    by_test false = by_round (shape.holds_again && not (left == 1))
enqueue_on shape begun_at item start left (E.Undo index filled worn) word past same = by_test (word == filled)
  where
    by_worn : (b : Bool) → NextSoFar shape begun_at (cond b (Answers A.Worn) (enqueue_again item start left))
        (past ++ look (R.Enqueue item start left (E.Undo index filled worn)) word ∷ [])
    by_worn true = tt
    by_worn false = again_so_far shape begun_at item start left same
        (past ++ look (R.Enqueue item start left (E.Undo index filled worn)) word ∷ [])

    by_test : (b : Bool) → NextSoFar shape begun_at
        (cond (not b) (Answers A.Done) (cond worn (Answers A.Worn) (enqueue_again item start left)))
        (past ++ look (R.Enqueue item start left (E.Undo index filled worn)) word ∷ [])
    by_test true = by_worn worn
    by_test false = tt
enqueue_on shape begun_at item start left (E.ScanHead ends offset) word past so = by_value (value_of word == 0) refl
  where
    by_last : (b : Bool)
        → NextSoFar shape begun_at (cond b (Answers A.Worn) (Goes (R.Enqueue item start left (E.MoveHead ends))))
        (past ++ look (R.Enqueue item start left (E.ScanHead ends offset)) word ∷ [])
    by_last true = tt
    by_last false = so.0

    by_end : (b : Bool) → NextSoFar shape begun_at
        (cond (not b) (Goes (R.Enqueue item start left (E.ScanHead ends (offset + 1))))
        (cond (version_of ends == shape.last) (Answers A.Worn) (Goes (R.Enqueue item start left (E.MoveHead ends)))))
        (past ++ look (R.Enqueue item start left (E.ScanHead ends offset)) word ∷ [])
    by_end true = by_last (version_of ends == shape.last)
    by_end false = (
      so.0,
      scanned_more shape start left ends (look (R.Enqueue item start left (E.ScanHead ends offset)) word) past so.1
          refl,
    )

    by_value : (b : Bool) → (value_of word == 0) ≡ b
        → NextSoFar shape begun_at (cond (not b) (Goes (R.Enqueue item start left (E.ConfirmFull ends)))
        (cond (not (offset + 1 == shape.k)) (Goes (R.Enqueue item start left (E.ScanHead ends (offset + 1))))
        (cond (version_of ends == shape.last) (Answers A.Worn) (Goes (R.Enqueue item start left (E.MoveHead ends))))))
        (past ++ look (R.Enqueue item start left (E.ScanHead ends offset)) word ∷ [])
    by_value true is = by_end (offset + 1 == shape.k)
    by_value false is = (
      so.0,
      record {
        old = past;
        filled = look (R.Enqueue item start left (E.ScanHead ends offset)) word;
        offset = offset;
        past_is = refl;
        scanned = so.1;
        in_round = refl;
        loads_filled = record { load = refl; finds = refl };
        is_filled = value-filled word is;
      },
    )
enqueue_on shape begun_at item start left (E.ConfirmFull ends) word past so = by_test (word == ends) refl
  where
    by_test : (b : Bool) → (word == ends) ≡ b
        → NextSoFar shape begun_at (cond b (Answers A.Full) (enqueue_again item start left))
        (past ++ look (R.Enqueue item start left (E.ConfirmFull ends)) word ∷ [])
    by_test true is =
        subst (λ (s : ℕ). CauseOfFull shape s (past ++ look (R.Enqueue item start left (E.ConfirmFull ends)) word ∷ []))
        so.0
        (full_at_last shape start left ends (look (R.Enqueue item start left (E.ConfirmFull ends)) word) past so.1 refl
        (record { load = refl; finds = eqb-true word ends is }))
    by_test false is = again_so_far shape begun_at item start left so.0
        (past ++ look (R.Enqueue item start left (E.ConfirmFull ends)) word ∷ [])
enqueue_on shape begun_at item start left (E.MoveHead ends) word past same =
    again_so_far shape begun_at item start left same (past ++ look (R.Enqueue item start left (E.MoveHead ends)) word
    ∷ [])
enqueue_on shape begun_at item start left (E.MoveTail ends) word past same =
    again_so_far shape begun_at item start left same (past ++ look (R.Enqueue item start left (E.MoveTail ends)) word
    ∷ [])

-- a dequeue goes on as one, and is never answered Full
abbrev StaysDequeue : Next → Type 0
StaysDequeue (Goes (R.Dequeue start left phase)) = Unit {0}
StaysDequeue (Goes (R.Enqueue item start left phase)) = ⊥
StaysDequeue (Answers A.Full) = ⊥
StaysDequeue (Answers other) = Unit {0}

stays_dequeue : (shape : Shape) (start left : ℕ) (phase : DequeuePhase) (word : ℕ)
    → StaysDequeue (advance shape (R.Dequeue start left phase) word)
stays_dequeue shape start left phase word = grind (arith, nat_tests)

dequeue_so_far : (shape : Shape) (begun_at : ℕ) (next : Next) (past : List Look) → StaysDequeue next
    → NextSoFar shape begun_at next past
dequeue_so_far shape begun_at (Goes (R.Dequeue start left phase)) past stays = tt
dequeue_so_far shape begun_at (Goes (R.Enqueue item start left phase)) past stays = absurd stays
dequeue_so_far shape begun_at (Answers A.Full) past stays = absurd stays
dequeue_so_far shape begun_at (Answers A.Done) past stays = tt
dequeue_so_far shape begun_at (Answers (A.Got item)) past stays = tt
dequeue_so_far shape begun_at (Answers A.Empty) past stays = tt
dequeue_so_far shape begun_at (Answers A.Busy) past stays = tt
dequeue_so_far shape begun_at (Answers A.Worn) past stays = tt

so_far_on : (shape : Shape) (begun_at : ℕ) (running : Running) (word : ℕ) (past : List Look)
    → SoFar shape begun_at running past
    → NextSoFar shape begun_at (advance shape running word) (past ++ look running word ∷ [])
so_far_on shape begun_at (R.Enqueue item start left phase) word past so =
    enqueue_on shape begun_at item start left phase word past so
so_far_on shape begun_at (R.Dequeue start left phase) word past so =
    dequeue_so_far shape begun_at (advance shape (R.Dequeue start left phase) word) _
    (stays_dequeue shape start left phase word)

first_so_far : (shape : Shape) (call : Begin) (running : Running) → begun call ≡ Some running
    → SoFar shape (start_of call) running []
first_so_far shape (B.Enqueue item start turns) running is =
    subst (λ (r : Running). SoFar shape start r []) (Some-injective (R.Enqueue item start turns E.LoadEnds) running
    is) refl
first_so_far shape (B.Dequeue start turns) running is =
    subst (λ (r : Running). SoFar shape start r []) (Some-injective (R.Dequeue start turns D.LoadEnds) running is) tt
first_so_far shape B.Tick running is = absurd (cc)
first_so_far shape B.Seal running is = absurd (cc)

-- Full has its cause
pub full_has_cause : (shape : Shape) (threads : ℕ) → FullHasCause shape threads
full_has_cause shape threads = λ thread call old new whole.
    let p = whole_path shape threads thread call A.Full old new whole in
    along shape (SoFar shape (start_of call)) (NextSoFar shape (start_of call)) (λ running past so. so)
    (so_far_on shape (start_of call))
    p.running [] (looks_of shape threads thread call A.Full old new whole) A.Full p.path
    (first_so_far shape call p.running p.begins)
