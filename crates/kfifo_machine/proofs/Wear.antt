-- Worn has its cause: a look of the last round.
use Rattle.std.proofs.Common.{◌≡◌, ℕ, ◌+◌, ◌-◌, ◌<◌, List, [], ◌∷◌, ◌++◌, Some, Bool, true, false, refl, sym, ap, ◌∙◌}
use Rattle.std.proofs.Common.{subst, inl, inr, arith, cond, eqb-true}
use Rattle.std.specs.Prelude.{◌==◌, ◌&&◌, not, nat_lt, nat_le}
use Rattle.std.proofs.lemmas.Bool.{ltb-true}
use Rattle.std.proofs.lemmas.List.{append_assoc}
use Rattle.kfifo_machine.proofs.Types.{Begin, DequeuePhase, EnqueuePhase, Next, Running, Shape}
use Rattle.kfifo_words.specs.Words.{value_of, version_of, head_of, tail_of}
use Rattle.kfifo_words.specs.Ring.{next_segment, distance}
use Rattle.kfifo_model.specs.declared.calls.Answer.TheVariants as A
use Rattle.kfifo_machine.specs.declared.event.Begin.TheVariants as B
use Rattle.kfifo_machine.specs.declared.place.Found.TheVariants.{Slot, Nothing}
use Rattle.kfifo_machine.specs.declared.place.EnqueuePhase.TheVariants as E
use Rattle.kfifo_machine.specs.declared.place.DequeuePhase.TheVariants as D
use Rattle.kfifo_machine.specs.declared.place.Running.TheVariants as R
use Rattle.kfifo_machine.specs.declared.place.Next.TheVariants.{Goes, Answers}
use Rattle.kfifo_machine.specs.Program.{advance, scan_index, filled_with, enqueue_again, dequeue_again}
use Rattle.kfifo_machine.specs.Machine.{begun}
use Rattle.kfifo_machine.specs.Causes.{Look, Loads, AllOfRound, FindsWorn, CauseOfWorn, WornHasCause, round_of}
use Rattle.kfifo_machine.specs.Causes.{looks_of}
use Rattle.kfifo_machine.proofs.Schedules.{Some-injective}
use Rattle.kfifo_machine.proofs.Paths.{whole_path, along}
use Rattle.kfifo_machine.proofs.Causes.{all_of_round-append}

abbrev look : Running → ℕ → Look
look running word = record { running = running; word = word }

-- in this round a load found this word so
pub record Saw (shape : Shape) (left index word : ℕ) (past : List Look) : Type 0 where
  pub earlier : List Look
  pub seen : Look
  pub later : List Look
  pub past_is : past ≡ earlier ++ seen ∷ later
  pub one_round : AllOfRound left (seen ∷ later)
  pub loads : Loads shape seen index word

saw_now : (shape : Shape) (left index word : ℕ) (x : Look) (past : List Look) → round_of x.running ≡ left
    → Loads shape x index word
    → Saw shape left index word (past ++ x ∷ [])
saw_now shape left index word x past in_round loads =
    record { earlier = past; seen = x; later = []; past_is = refl; one_round = (in_round, tt); loads = loads }

saw_more : (shape : Shape) (left index word : ℕ) (x : Look) (past : List Look) → Saw shape left index word past
    → round_of x.running ≡ left
    → Saw shape left index word (past ++ x ∷ [])
saw_more shape left index word x past s in_round = record {
  earlier = s.earlier;
  seen = s.seen;
  later = s.later ++ x ∷ [];
  past_is = ap (λ (xs : List Look). xs ++ x ∷ []) s.past_is ∙ append_assoc s.earlier (s.seen ∷ s.later) (x ∷ []);
  one_round = all_of_round-append left (s.seen ∷ s.later) (x ∷ []) s.one_round (in_round, tt);
  loads = s.loads;
}

loads_own : (shape : Shape) (x : Look) (index word : ℕ) → Loads shape x index word → Loads shape x index x.word
loads_own shape x index word l = record { load = l.load; finds = refl }

cause : (shape : Shape) (left index word : ℕ) (past : List Look) → (s : Saw shape left index word past)
    → FindsWorn shape s.seen
    → CauseOfWorn shape past
cause shape left index word past s finds = record {
  earlier = s.earlier;
  look = s.seen;
  later = s.later;
  all_is = s.past_is;
  last_round = subst (λ (r : ℕ). AllOfRound r s.later) (sym s.one_round.0) s.one_round.1;
  finds = finds;
}

-- an ends word of the last version, and an empty slot with no room
cause_ends : (shape : Shape) (left word : ℕ) (past : List Look) → Saw shape left 0 word past
    → version_of word ≡ shape.last
    → CauseOfWorn shape past
cause_ends shape left word past s worn = cause shape left 0 word past s (record {
  index = 0;
  loads = loads_own shape s.seen 0 word s.loads;
  worn = inr (refl, ap version_of s.loads.finds ∙ worn);
})

cause_slot : (shape : Shape) (left index word : ℕ) (past : List Look) → Saw shape left index word past → 0 < index
    → value_of word ≡ 0
    → shape.last < version_of word + 2 → CauseOfWorn shape past
cause_slot shape left index word past s above empty worn =
    let same : version_of s.seen.word ≡ version_of word = ap version_of s.loads.finds in
    cause shape left index word past s (record {
      index = index;
      loads = loads_own shape s.seen index word s.loads;
      worn = inl (above, ap value_of s.loads.finds ∙ empty, omega arith);
    })

scan_index-above : (shape : Shape) (segment start offset : ℕ) → 0 < scan_index shape segment start offset
unfolding scan_index
scan_index-above shape segment start offset = omega arith

pub record SawEnds (shape : Shape) (left : ℕ) (past : List Look) : Type 0 where
  pub word : ℕ
  pub saw : Saw shape left 0 word past
  pub worn : version_of word ≡ shape.last

abbrev pub SoWorn : Shape → Running → List Look → Type 0
SoWorn shape (R.Enqueue item start left (E.Recheck ends (Slot index seen))) past = Saw shape left index seen past
    × (0 < index)
    × (value_of seen ≡ 0)
SoWorn shape (R.Enqueue item start left (E.Undo index filled true)) past = SawEnds shape left past
SoWorn shape (R.Enqueue item start left (E.ScanHead ends offset)) past = Saw shape left 0 ends past
SoWorn shape (R.Enqueue item start left other) past = Unit {0}
SoWorn shape (R.Dequeue start left phase) past = Unit {0}

abbrev pub NextWorn : Shape → Next → List Look → Type 0
NextWorn shape (Goes running) past = SoWorn shape running past
NextWorn shape (Answers A.Worn) past = CauseOfWorn shape past
NextWorn shape (Answers other) past = Unit {0}

enqueue_again_worn : (shape : Shape) (item start left : ℕ) (past : List Look)
    → NextWorn shape (enqueue_again item start left) past
enqueue_again_worn shape item start left past = by_test (left == 1)
  where
    by_test : (b : Bool)
        → NextWorn shape (cond b (Answers A.Busy) (Goes (R.Enqueue item start (left - 1) E.LoadEnds))) past
    by_test true = tt
    by_test false = tt

dequeue_again_worn : (shape : Shape) (start left : ℕ) (past : List Look)
    → NextWorn shape (dequeue_again start left) past
dequeue_again_worn shape start left past = by_test (left == 1)
  where
    by_test : (b : Bool) → NextWorn shape (cond b (Answers A.Busy) (Goes (R.Dequeue start (left - 1) D.LoadEnds))) past
    by_test true = tt
    by_test false = tt

enqueue_worn : (shape : Shape) (item start left : ℕ) (phase : EnqueuePhase) (word : ℕ) (past : List Look)
    → SoWorn shape (R.Enqueue item start left phase) past
    → NextWorn shape (advance shape (R.Enqueue item start left phase) word)
    (past ++ look (R.Enqueue item start left phase) word ∷ [])
enqueue_worn shape item start left E.LoadEnds word past so = tt
enqueue_worn shape item start left (E.ScanTail ends offset) word past so = by_value (value_of word == 0) refl
  where
    by_probes : (b : Bool) → NextWorn shape (cond b (Goes (R.Enqueue item start left (E.Recheck ends Nothing)))
        (Goes (R.Enqueue item start left (E.ScanTail ends (offset + 1)))))
        (past ++ look (R.Enqueue item start left (E.ScanTail ends offset)) word ∷ [])
    by_probes true = tt
    by_probes false = tt

    by_value : (b : Bool) → (value_of word == 0) ≡ b
        → NextWorn shape (cond b (Goes (R.Enqueue item start left
        (E.Recheck ends (Slot (scan_index shape (tail_of ends) start offset) word))))
        (cond (offset + 1 == shape.probes) (Goes (R.Enqueue item start left (E.Recheck ends Nothing)))
        (Goes (R.Enqueue item start left (E.ScanTail ends (offset + 1))))))
        (past ++ look (R.Enqueue item start left (E.ScanTail ends offset)) word ∷ [])
    by_value true is = (
      saw_now shape left (scan_index shape (tail_of ends) start offset) word
          (look (R.Enqueue item start left (E.ScanTail ends offset)) word) past refl (record {
            load = refl;
            finds = refl;
          }),
      scan_index-above shape (tail_of ends) start offset,
      eqb-true (value_of word) 0 is,
    )
    by_value false is = by_probes (offset + 1 == shape.probes)
enqueue_worn shape item start left (E.Recheck ends (Slot index seen)) word past so = by_ends (word == ends)
  where
    by_last : (b : Bool) → nat_lt shape.last (version_of seen + 2) ≡ b
        → NextWorn shape (cond b (Answers A.Worn) (Goes (R.Enqueue item start left (E.Put ends index seen))))
        (past ++ look (R.Enqueue item start left (E.Recheck ends (Slot index seen))) word ∷ [])
    by_last true is =
        cause_slot shape left index seen (past ++ look (R.Enqueue item start left (E.Recheck ends (Slot index seen)))
        word ∷ [])
        (saw_more shape left index seen (look (R.Enqueue item start left (E.Recheck ends (Slot index seen))) word) past
        so.0 refl) so.1 so.2
        (ltb-true shape.last (version_of seen + 2) is)
    by_last false is = tt

    by_ends : (b : Bool) → NextWorn shape (cond (not b) (enqueue_again item start left)
        (cond (nat_lt shape.last (version_of seen + 2)) (Answers A.Worn)
        (Goes (R.Enqueue item start left (E.Put ends index seen)))))
        (past ++ look (R.Enqueue item start left (E.Recheck ends (Slot index seen))) word ∷ [])
    by_ends true = by_last (nat_lt shape.last (version_of seen + 2)) refl
    by_ends false = enqueue_again_worn shape item start left _
enqueue_worn shape item start left (E.Recheck ends Nothing) word past so = by_ends (word == ends) refl
  where
    saw : word ≡ ends
        → Saw shape left 0 ends (past ++ look (R.Enqueue item start left (E.Recheck ends Nothing)) word ∷ [])
    saw same = saw_now shape left 0 ends (look (R.Enqueue item start left (E.Recheck ends Nothing)) word) past refl
        (record { load = refl; finds = same })

    by_last : (b : Bool) → word ≡ ends → (version_of ends == shape.last) ≡ b
        → NextWorn shape (cond b (Answers A.Worn) (Goes (R.Enqueue item start left (E.MoveTail ends))))
        (past ++ look (R.Enqueue item start left (E.Recheck ends Nothing)) word ∷ [])
    by_last true same is =
        cause_ends shape left ends (past ++ look (R.Enqueue item start left (E.Recheck ends Nothing)) word ∷ [])
        (saw same) (eqb-true (version_of ends) shape.last is)
    by_last false same is = tt

    by_ring : (b : Bool) → word ≡ ends
        → NextWorn shape (cond b (Goes (R.Enqueue item start left (E.ScanHead ends 0)))
        (cond (version_of ends == shape.last) (Answers A.Worn) (Goes (R.Enqueue item start left (E.MoveTail ends)))))
        (past ++ look (R.Enqueue item start left (E.Recheck ends Nothing)) word ∷ [])
    by_ring true same = saw same
    by_ring false same = by_last (version_of ends == shape.last) same refl

    by_ends : (b : Bool) → (word == ends) ≡ b
        → NextWorn shape (cond (not b) (enqueue_again item start left)
        (cond (next_segment shape.n (tail_of ends) == head_of ends)
        (Goes (R.Enqueue item start left (E.ScanHead ends 0)))
        (cond (version_of ends == shape.last) (Answers A.Worn) (Goes (R.Enqueue item start left (E.MoveTail ends))))))
        (past ++ look (R.Enqueue item start left (E.Recheck ends Nothing)) word ∷ [])
    by_ends true is = by_ring (next_segment shape.n (tail_of ends) == head_of ends) (eqb-true word ends is)
    by_ends false is = enqueue_again_worn shape item start left _
enqueue_worn shape item start left (E.Put ends index empty) word past so = by_test (word == empty)
  where
    by_test : (b : Bool)
        → NextWorn shape (cond b (Goes (R.Enqueue item start left (E.ReloadSlot ends index (filled_with item empty))))
        (enqueue_again item start left)) (past ++ look (R.Enqueue item start left (E.Put ends index empty)) word ∷ [])
    by_test true = tt
    by_test false = enqueue_again_worn shape item start left _
enqueue_worn shape item start left (E.ReloadSlot ends index filled) word past so = by_test (word == filled)
  where
    by_test : (b : Bool)
        → NextWorn shape (cond b (Goes (R.Enqueue item start left (E.ReloadEnds ends index filled))) (Answers A.Done))
        (past ++ look (R.Enqueue item start left (E.ReloadSlot ends index filled)) word ∷ [])
    by_test true = tt
    by_test false = tt
enqueue_worn shape item start left (E.ReloadEnds ends index filled) word past so =
    by_head (tail_of ends == head_of word)
  where
    by_last : (b : Bool) → (version_of word == shape.last) ≡ b
        → NextWorn shape (cond b (Goes (R.Enqueue item start left (E.Undo index filled true)))
        (Goes (R.Enqueue item start left (E.HoldHead ends index filled word))))
        (past ++ look (R.Enqueue item start left (E.ReloadEnds ends index filled)) word ∷ [])
    by_last true is = record {
      word = word;
      saw = saw_now shape left 0 word (look (R.Enqueue item start left (E.ReloadEnds ends index filled)) word) past refl
          (record { load = refl; finds = refl });
      worn = eqb-true (version_of word) shape.last is;
    }
    by_last false is = tt

    by_window : (b : Bool)
        → NextWorn shape (cond b (Answers A.Done) (Goes (R.Enqueue item start left (E.Undo index filled false))))
        (past ++ look (R.Enqueue item start left (E.ReloadEnds ends index filled)) word ∷ [])
    by_window true = tt
    by_window false = tt

    by_head : (b : Bool) → NextWorn shape (cond b
        (cond (version_of word == shape.last) (Goes (R.Enqueue item start left (E.Undo index filled true)))
        (Goes (R.Enqueue item start left (E.HoldHead ends index filled word))))
        (cond (nat_le (distance shape.n (head_of word) (tail_of ends)) (distance shape.n (head_of word) (tail_of word)))
        (Answers A.Done)
        (Goes (R.Enqueue item start left (E.Undo index filled false)))))
        (past ++ look (R.Enqueue item start left (E.ReloadEnds ends index filled)) word ∷ [])
    by_head true = by_last (version_of word == shape.last) refl
    by_head false =
        by_window (nat_le (distance shape.n (head_of word) (tail_of ends))
        (distance shape.n (head_of word) (tail_of word)))
enqueue_worn shape item start left (E.HoldHead ends index filled held) word past so = by_test (word == held)
  where
    by_round : (b : Bool) → NextWorn shape
        (cond b (Goes (R.Enqueue item start (left - 1) (E.ReloadSlot ends index filled)))
        (Goes (R.Enqueue item start left (E.Undo index filled false))))
        (past ++ look (R.Enqueue item start left (E.HoldHead ends index filled held)) word ∷ [])
    by_round true = tt
    by_round false = tt

    by_test : (b : Bool) → NextWorn shape (cond b (Answers A.Done)
        (cond (shape.holds_again && not (left == 1))
        (Goes (R.Enqueue item start (left - 1) (E.ReloadSlot ends index filled)))
        (Goes (R.Enqueue item start left (E.Undo index filled false)))))
        (past ++ look (R.Enqueue item start left (E.HoldHead ends index filled held)) word ∷ [])
    by_test true = tt
    by_test false = by_round (shape.holds_again && not (left == 1))
enqueue_worn shape item start left (E.Undo index filled true) word past so = by_test (word == filled)
  where
    by_test : (b : Bool) → NextWorn shape (cond (not b) (Answers A.Done) (Answers A.Worn))
        (past ++ look (R.Enqueue item start left (E.Undo index filled true)) word ∷ [])
    by_test true =
        cause_ends shape left so.word (past ++ look (R.Enqueue item start left (E.Undo index filled true)) word ∷ [])
        (saw_more shape left 0 so.word (look (R.Enqueue item start left (E.Undo index filled true)) word) past so.saw
        refl) so.worn
    by_test false = tt
enqueue_worn shape item start left (E.Undo index filled false) word past so = by_test (word == filled)
  where
    by_test : (b : Bool) → NextWorn shape (cond (not b) (Answers A.Done) (enqueue_again item start left))
        (past ++ look (R.Enqueue item start left (E.Undo index filled false)) word ∷ [])
    by_test true = enqueue_again_worn shape item start left _
    by_test false = tt
enqueue_worn shape item start left (E.ScanHead ends offset) word past so = by_value (value_of word == 0)
  where
    saw : Saw shape left 0 ends (past ++ look (R.Enqueue item start left (E.ScanHead ends offset)) word ∷ [])
    saw = saw_more shape left 0 ends (look (R.Enqueue item start left (E.ScanHead ends offset)) word) past so refl

    by_last : (b : Bool) → (version_of ends == shape.last) ≡ b
        → NextWorn shape (cond b (Answers A.Worn) (Goes (R.Enqueue item start left (E.MoveHead ends))))
        (past ++ look (R.Enqueue item start left (E.ScanHead ends offset)) word ∷ [])
    by_last true is = cause_ends shape left ends (past ++ look (R.Enqueue item start left (E.ScanHead ends offset)) word
        ∷ []) saw (eqb-true (version_of ends) shape.last is)
    by_last false is = tt

    by_end : (b : Bool) → NextWorn shape (cond (not b) (Goes (R.Enqueue item start left (E.ScanHead ends (offset + 1))))
        (cond (version_of ends == shape.last) (Answers A.Worn) (Goes (R.Enqueue item start left (E.MoveHead ends)))))
        (past ++ look (R.Enqueue item start left (E.ScanHead ends offset)) word ∷ [])
    by_end true = by_last (version_of ends == shape.last) refl
    by_end false = saw

    by_value : (b : Bool)
        → NextWorn shape (cond (not b) (Goes (R.Enqueue item start left (E.ConfirmFull ends)))
        (cond (not (offset + 1 == shape.k)) (Goes (R.Enqueue item start left (E.ScanHead ends (offset + 1))))
        (cond (version_of ends == shape.last) (Answers A.Worn) (Goes (R.Enqueue item start left (E.MoveHead ends))))))
        (past ++ look (R.Enqueue item start left (E.ScanHead ends offset)) word ∷ [])
    by_value true = by_end (offset + 1 == shape.k)
    by_value false = tt
enqueue_worn shape item start left (E.ConfirmFull ends) word past so = by_test (word == ends)
  where
    by_test : (b : Bool) → NextWorn shape (cond b (Answers A.Full) (enqueue_again item start left))
        (past ++ look (R.Enqueue item start left (E.ConfirmFull ends)) word ∷ [])
    by_test true = tt
    by_test false = enqueue_again_worn shape item start left _
enqueue_worn shape item start left (E.MoveHead ends) word past so = enqueue_again_worn shape item start left _
enqueue_worn shape item start left (E.MoveTail ends) word past so = enqueue_again_worn shape item start left _

dequeue_worn : (shape : Shape) (start left : ℕ) (phase : DequeuePhase) (word : ℕ) (past : List Look)
    → NextWorn shape (advance shape (R.Dequeue start left phase) word) (past ++ look (R.Dequeue start left phase) word
    ∷ [])
dequeue_worn shape start left D.LoadEnds word past = tt
dequeue_worn shape start left (D.ScanHead ends offset) word past = by_value (value_of word == 0)
  where
    by_end : (b : Bool) → NextWorn shape (cond b (Goes (R.Dequeue start left (D.Recheck ends Nothing)))
        (Goes (R.Dequeue start left (D.ScanHead ends (offset + 1)))))
        (past ++ look (R.Dequeue start left (D.ScanHead ends offset)) word ∷ [])
    by_end true = tt
    by_end false = tt

    by_value : (b : Bool) → NextWorn shape (cond (not b)
        (Goes (R.Dequeue start left (D.Recheck ends (Slot (scan_index shape (head_of ends) start offset) word))))
        (cond (offset + 1 == shape.k) (Goes (R.Dequeue start left (D.Recheck ends Nothing)))
        (Goes (R.Dequeue start left (D.ScanHead ends (offset + 1))))))
        (past ++ look (R.Dequeue start left (D.ScanHead ends offset)) word ∷ [])
    by_value true = by_end (offset + 1 == shape.k)
    by_value false = tt
dequeue_worn shape start left (D.Recheck ends (Slot index seen)) word past = by_ends (word == ends) refl
  where
    by_last : (b : Bool) → word ≡ ends → (version_of ends == shape.last) ≡ b
        → NextWorn shape (cond b (Answers A.Worn) (Goes (R.Dequeue start left (D.MoveTail ends index seen))))
        (past ++ look (R.Dequeue start left (D.Recheck ends (Slot index seen))) word ∷ [])
    by_last true same is =
        cause_ends shape left ends (past ++ look (R.Dequeue start left (D.Recheck ends (Slot index seen))) word ∷ [])
        (saw_now shape left 0 ends (look (R.Dequeue start left (D.Recheck ends (Slot index seen))) word) past refl
        (record { load = refl; finds = same })) (eqb-true (version_of ends) shape.last is)
    by_last false same is = tt

    by_head : (b : Bool) → word ≡ ends → NextWorn shape
        (cond (not b) (Goes (R.Dequeue start left (D.Take ends index seen)))
        (cond (version_of ends == shape.last) (Answers A.Worn)
        (Goes (R.Dequeue start left (D.MoveTail ends index seen)))))
        (past ++ look (R.Dequeue start left (D.Recheck ends (Slot index seen))) word ∷ [])
    by_head true same = by_last (version_of ends == shape.last) same refl
    by_head false same = tt

    by_ends : (b : Bool) → (word == ends) ≡ b → NextWorn shape (cond (not b) (dequeue_again start left)
        (cond (not (tail_of ends == head_of ends)) (Goes (R.Dequeue start left (D.Take ends index seen)))
        (cond (version_of ends == shape.last) (Answers A.Worn)
        (Goes (R.Dequeue start left (D.MoveTail ends index seen))))))
        (past ++ look (R.Dequeue start left (D.Recheck ends (Slot index seen))) word ∷ [])
    by_ends true is = by_head (tail_of ends == head_of ends) (eqb-true word ends is)
    by_ends false is = dequeue_again_worn shape start left _
dequeue_worn shape start left (D.Recheck ends Nothing) word past = by_ends (word == ends) refl
  where
    by_last : (b : Bool) → word ≡ ends → (version_of ends == shape.last) ≡ b
        → NextWorn shape (cond b (Answers A.Worn) (Goes (R.Dequeue start left (D.MoveHead ends))))
        (past ++ look (R.Dequeue start left (D.Recheck ends Nothing)) word ∷ [])
    by_last true same is = cause_ends shape left ends (past ++ look (R.Dequeue start left (D.Recheck ends Nothing)) word
        ∷ []) (saw_now shape left 0 ends (look (R.Dequeue start left (D.Recheck ends Nothing)) word) past refl
        (record { load = refl; finds = same })) (eqb-true (version_of ends) shape.last is)
    by_last false same is = tt

    by_head : (b : Bool) → word ≡ ends → NextWorn shape
        (cond b (Answers A.Empty) (cond (version_of ends == shape.last) (Answers A.Worn)
        (Goes (R.Dequeue start left (D.MoveHead ends)))))
        (past ++ look (R.Dequeue start left (D.Recheck ends Nothing)) word ∷ [])
    by_head true same = tt
    by_head false same = by_last (version_of ends == shape.last) same refl

    by_ends : (b : Bool) → (word == ends) ≡ b → NextWorn shape (cond (not b) (dequeue_again start left)
        (cond (tail_of ends == head_of ends) (Answers A.Empty)
        (cond (version_of ends == shape.last) (Answers A.Worn) (Goes (R.Dequeue start left (D.MoveHead ends))))))
        (past ++ look (R.Dequeue start left (D.Recheck ends Nothing)) word ∷ [])
    by_ends true is = by_head (tail_of ends == head_of ends) (eqb-true word ends is)
    by_ends false is = dequeue_again_worn shape start left _
dequeue_worn shape start left (D.MoveTail ends index filled) word past = by_test (word == ends)
  where
    by_test : (b : Bool)
        → NextWorn shape (cond b (Goes (R.Dequeue start left (D.Take ends index filled))) (dequeue_again start left))
        (past ++ look (R.Dequeue start left (D.MoveTail ends index filled)) word ∷ [])
    by_test true = tt
    by_test false = dequeue_again_worn shape start left _
dequeue_worn shape start left (D.Take ends index filled) word past = by_test (word == filled)
  where
    by_test : (b : Bool) → NextWorn shape (cond b (Answers (A.Got (value_of filled))) (dequeue_again start left))
        (past ++ look (R.Dequeue start left (D.Take ends index filled)) word ∷ [])
    by_test true = tt
    by_test false = dequeue_again_worn shape start left _
dequeue_worn shape start left (D.MoveHead ends) word past = dequeue_again_worn shape start left _

worn_on : (shape : Shape) (running : Running) (word : ℕ) (past : List Look) → SoWorn shape running past
    → NextWorn shape (advance shape running word) (past ++ look running word ∷ [])
worn_on shape (R.Enqueue item start left phase) word past so = enqueue_worn shape item start left phase word past so
worn_on shape (R.Dequeue start left phase) word past so = dequeue_worn shape start left phase word past

first_worn : (shape : Shape) (call : Begin) (running : Running) → begun call ≡ Some running → SoWorn shape running []
first_worn shape (B.Enqueue item start turns) running is =
    subst (λ (r : Running). SoWorn shape r []) (Some-injective (R.Enqueue item start turns E.LoadEnds) running is) tt
first_worn shape (B.Dequeue start turns) running is =
    subst (λ (r : Running). SoWorn shape r []) (Some-injective (R.Dequeue start turns D.LoadEnds) running is) tt
first_worn shape B.Tick running is = absurd (cc)
first_worn shape B.Seal running is = absurd (cc)

-- Worn has its cause
pub worn_has_cause : (shape : Shape) (threads : ℕ) → WornHasCause shape threads
worn_has_cause shape threads = λ thread call old new whole.
    let p = whole_path shape threads thread call A.Worn old new whole in
    along shape (SoWorn shape) (NextWorn shape) (λ running past so. so) (worn_on shape) p.running []
    (looks_of shape threads thread call A.Worn old new whole) A.Worn p.path (first_worn shape call p.running p.begins)
