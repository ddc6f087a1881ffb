-- The machine over words and places as functions, and inductions over its schedules.
use Rattle.std.proofs.Common.{◌==◌, ltb, ◌≡◌, ℕ, ◌+◌, ◌*◌, ◌<◌, ◌⊎◌, ◌≤◌, inl, inr, true, cond, eqb, refl, sym, ◌∙◌, ap}
use Rattle.std.proofs.Common.{subst, arith, List, [], ◌∷◌, length, get_or, set, Option, Some, None, Result, Ok, Err}
use Rattle.std.proofs.lemmas.Bool.{cases_Bool, cond_both, ltb-true, cases_eq}
use Rattle.std.proofs.lemmas.Grind.{get_or-set_at}
use Rattle.std.proofs.lemmas.Bool.Decides.{nat_tests}
use Rattle.std.proofs.lemmas.List.{get_or-set_other, length-set}
use Rattle.kfifo_machine.specs.declared.place.Running.TheVariants as R
use Rattle.kfifo_machine.specs.declared.place.EnqueuePhase.TheVariants as E
use Rattle.kfifo_machine.specs.declared.place.DequeuePhase.TheVariants as D
use Rattle.kfifo_machine.specs.declared.event.Begin.TheVariants as B
use Rattle.std.proofs.lemmas.Option.{none-some, same_Some}
use Rattle.std.proofs.Math.Path.{fun_ext}
use Rattle.kfifo_linear.specs.Ledger.{Ledger, called, found_in, ledger_after, ledger_from, ledger_of, noted, stepped}
use Rattle.kfifo_machine.specs.Machine.{World, begun, found, may_begin, may_seal, moved, place_after, place_of, run}
use Rattle.kfifo_machine.specs.Machine.{sealed, step, step_from, ticked, word_at, words_after}
use Rattle.kfifo_machine.specs.Program.{access, accessed, advance, sealed_word}
use Rattle.kfifo_machine.proofs.Versions.{sealed-same, seal-above}
use Rattle.kfifo_linear.proofs.Types.{Begin, Event, Outcome, Running, Shape}
use Rattle.kfifo_machine.specs.declared.event.NotEnabled.{NotEnabled}
use Rattle.kfifo_machine.specs.declared.place.Access.{Access}
use Rattle.kfifo_machine.specs.declared.place.Access.TheVariants.{Exchange, Load}
use Rattle.kfifo_words.specs.Ring.{clock_at}
use Rattle.kfifo_words.specs.Words.{head_of, tail_of}

pub noted-same : {X : Type 0} (notes : ℕ → X) (i j : ℕ) (x : X) → j ≡ i → noted notes i x j ≡ x
unfolding noted
noted-same notes i j x e = grind (arith, nat_tests)

pub noted-other : {X : Type 0} (notes : ℕ → X) (i j : ℕ) (x : X) → (j ≡ i → ⊥) → noted notes i x j ≡ notes j
unfolding noted
noted-other notes i j x ne = grind (arith, nat_tests)

-- for `grind`: what stands at j after a note at i
pub noted_tells : {X : Type 0} (notes : ℕ → X) (i : ℕ) (x : X) (j : ℕ) → (noted notes i x j ≡ noted notes i x j)
    × (((j ≡ i) × (noted notes i x j ≡ x)) ⊎ ((j ≡ i → ⊥) × (noted notes i x j ≡ notes j)))
noted_tells notes i x j = (
  refl,
  elim (cases_eq j i) [
    | inl e ↦ inl (e, noted-same notes i j x e)
    | inr ne ↦ inr (ne, noted-other notes i j x ne)
  ],
)

-- words after an access, as a function of the index
abbrev pub words_by : Access → (ℕ → ℕ) → ℕ → ℕ
words_by (Load index) words i = words i
words_by (Exchange index from to) words i = cond (eqb (words index) from) (noted words index to i) (words i)

-- how many words the table has
abbrev pub table_size : Shape → ℕ
table_size shape = 2 + shape.n * shape.k

get_or-set-noted : {X : Type 0} (xs : List X) (i j : ℕ) (x d : X) → i < length xs
    → get_or (set xs i x) j d ≡ noted (λ k. get_or xs k d) i x j
get_or-set-noted xs i j x d h =
    elim (cases_eq j i) [
      | inl e ↦ get_or-set_at xs i j x d e h ∙ sym (noted-same (λ k. get_or xs k d) i j x e)
      | inr ne ↦ get_or-set_other xs i j x d ne ∙ sym (noted-other (λ k. get_or xs k d) i j x ne)
    ]

exchanged : (words : List ℕ) (index from to i : ℕ) → index < length words
    → get_or (cond (eqb (get_or words index 0) from) (set words index to) words) i 0
    ≡ cond (eqb (get_or words index 0) from) (noted (λ j. get_or words j 0) index to i) (get_or words i 0)
exchanged words index from to i h = elim (cases_Bool (eqb (get_or words index 0) from))
    [ inl e ↦ rw e (get_or-set-noted words index i to 0 h) | inr e ↦ rw e refl ]

get_or-words_after : (a : Access) (words : List ℕ) (i : ℕ) → accessed a < length words
    → get_or (words_after a words) i 0 ≡ words_by a (λ j. get_or words j 0) i
get_or-words_after (Load index) words i h = refl
get_or-words_after (Exchange index from to) words i h = exchanged words index from to i h

length-words_after : (a : Access) (words : List ℕ) → length (words_after a words) ≡ length words
length-words_after (Load index) words = refl
length-words_after (Exchange index from to) words =
    cond_both (eqb (get_or words index 0) from) (set words index to) words (λ ws. length ws ≡ length words)
    (λ _. length-set words index to)
    (λ _. refl)

pub word_at-moved : (shape : Shape) (world : World) (thread : ℕ) (running : Running)
    → accessed (access shape running) < length world.words
    → word_at (moved shape world thread running) ≡ words_by (access shape running) (word_at world)
unfolding word_at moved
word_at-moved shape world thread running h = fun_ext (λ i. get_or-words_after (access shape running) world.words i h)

pub length-moved : (shape : Shape) (world : World) (thread : ℕ) (running : Running)
    → length (moved shape world thread running).words ≡ length world.words
unfolding moved
length-moved shape world thread running = length-words_after (access shape running) world.words

pub place_of-moved : (shape : Shape) (world : World) (thread : ℕ) (running : Running) → thread < length world.places
    → place_of (moved shape world thread running)
    ≡ noted (place_of world) thread (place_after (advance shape running (found_in shape (word_at world) running)))
unfolding place_of word_at moved found
place_of-moved shape world thread running h =
    fun_ext (λ i. get_or-set-noted world.places thread i
    (place_after (advance shape running (found_in shape (λ j. get_or world.words j 0) running))) None h)

pub noted-noted : {X : Type 0} (notes : ℕ → X) (i : ℕ) (x y : X) → noted (noted notes i x) i y ≡ noted notes i y
noted-noted notes i x y =
    fun_ext (λ j. elim (cases_eq j i) [
      | inl e ↦ noted-same (noted notes i x) i j y e ∙ sym (noted-same notes i j y e)
      | inr ne ↦ noted-other (noted notes i x) i j y ne ∙ noted-other notes i j x ne ∙ sym (noted-other notes i j y ne)
    ])

ok_world : {a b : World} {o p : Outcome} → ◌≡◌ {A = Result (World × Outcome) NotEnabled} (Ok (a, o)) (Ok (b, p)) → a ≡ b
ok_world {a = a} {b = b} {o = o} {p = p} e = let q : ◌≡◌ {A = World × Outcome} (a, o) (b, p) = cc in ap (λ r. r.0) q

err_ok : {f : NotEnabled} {v : World × Outcome} → ◌≡◌ {A = Result (World × Outcome) NotEnabled} (Err f) (Ok v) → ⊥
err_ok e = cc

pub run-none : (shape : Shape) (events : List Event) → run shape None events ≡ None
run-none shape [] = refl
run-none shape (event ∷ events) = refl

on_result : {P : Type 0} (r : Result (World × Outcome) NotEnabled)
    → ((next : World) (outcome : Outcome) → r ≡ Ok (next, outcome) → P)
    → ((fault : NotEnabled) → r ≡ Err fault → P) → P
on_result (Ok v) ok err = ok v.0 v.1 refl
on_result (Err f) ok err = err f refl

-- what a tick and a seal leave of the words: the slots, and where head and tail are
pub record OutsideCalls (shape : Shape) (w v : ℕ → ℕ) : Type 0 where
  pub slots : (i : ℕ) → 0 < i → i < clock_at shape.k shape.n → v i ≡ w i
  pub rise : w 0 ≤ v 0
  pub head : head_of (v 0) ≡ head_of (w 0)
  pub tail : tail_of (v 0) ≡ tail_of (w 0)

pub tick_outside : (shape : Shape) (w : ℕ → ℕ) (x : ℕ) → OutsideCalls shape w (noted w (clock_at shape.k shape.n) x)
tick_outside shape w x =
    let ends : noted w (clock_at shape.k shape.n) x 0 ≡ w 0 =
    noted-other w (clock_at shape.k shape.n) 0 x (λ z. omega (arith, z)) in
    record {
      slots = λ i above below. noted-other w (clock_at shape.k shape.n) i x (λ z. omega (arith, below, z));
      rise = omega arith;
      head = ap head_of ends;
      tail = ap tail_of ends;
    }

pub seal_outside : (shape : Shape) (w : ℕ → ℕ) → may_seal shape (w 0) ≡ true
    → OutsideCalls shape w (noted w 0 (sealed_word shape (w 0)))
seal_outside shape w may =
    let ends : noted w 0 (sealed_word shape (w 0)) 0 ≡ sealed_word shape (w 0) =
    noted-same w 0 0 (sealed_word shape (w 0)) refl in
    let same = sealed-same shape (w 0) in
    record {
      slots = λ i above below. noted-other w 0 i (sealed_word shape (w 0)) (λ z. absurd (omega (arith, above, z)));
      rise = omega (arith, seal-above shape (w 0) may);
      head = ap head_of ends ∙ same.0;
      tail = ap tail_of ends ∙ same.1;
    }

-- An induction over schedules: what a call's begin, a thread's step, and a tick or a seal keep holds after every
-- schedule.
module _ (shape : Shape) (Inv : (ℕ → ℕ) → (ℕ → Option Running) → Ledger → Type 0)
    (in_table : (w : ℕ → ℕ) (p : ℕ → Option Running) (l : Ledger) (t : ℕ) (r : Running) → Inv w p l → p t ≡ Some r
    → accessed (access shape r) < table_size shape)
    (begins : (w : ℕ → ℕ) (p : ℕ → Option Running) (l : Ledger) (t : ℕ) (b : Begin) (r : Running) → Inv w p l → p t
    ≡ None
    → may_begin shape b ≡ true → begun b ≡ Some r → Inv w (noted p t (Some r)) (called t b l))
    (steps : (w : ℕ → ℕ) (p : ℕ → Option Running) (l : Ledger) (t : ℕ) (r : Running) → Inv w p l → p t ≡ Some r
    → Inv (words_by (access shape r) w) (noted p t (place_after (advance shape r (found_in shape w r))))
    (stepped shape w t r l))
    (outside : (w v : ℕ → ℕ) (p : ℕ → Option Running) (l : Ledger) → OutsideCalls shape w v → Inv w p l
    → Inv v p (record l { now = l.now + 1 }))
  where
    -- a world and a ledger at which it holds
    pub record At (world : World) (l : Ledger) : Type 0 where
      pub size : length world.words ≡ table_size shape
      pub holds : Inv (word_at world) (place_of world) l

    moved_at : (world : World) (thread : ℕ) (r : Running) (l : Ledger) → length world.words ≡ table_size shape
        → thread < length world.places → Inv (word_at world) (noted (place_of world) thread (Some r)) l
        → At (moved shape world thread r) (stepped shape (word_at world) thread r l)
    moved_at world thread r l size t h =
        let within : accessed (access shape r) < length world.words =
        omega (
          arith,
          in_table (word_at world) (noted (place_of world) thread (Some r)) l thread r h
              (noted-same (place_of world) thread thread (Some r) refl),
          size,
        ) in
        let s : Inv (words_by (access shape r) (word_at world))
        (noted (noted (place_of world) thread (Some r)) thread
        (place_after (advance shape r (found_in shape (word_at world) r))))
        (stepped shape (word_at world) thread r l)
        = steps (word_at world) (noted (place_of world) thread (Some r)) l thread r h
        (noted-same (place_of world) thread thread (Some r) refl) in
        let u : Inv (words_by (access shape r) (word_at world))
        (noted (place_of world) thread (place_after (advance shape r (found_in shape (word_at world) r))))
        (stepped shape (word_at world) thread r l)
        = subst (λ p. Inv (words_by (access shape r) (word_at world)) p (stepped shape (word_at world) thread r l))
        (noted-noted (place_of world) thread (Some r)
        (place_after (advance shape r (found_in shape (word_at world) r)))) s in
        let v : Inv (word_at (moved shape world thread r))
        (noted (place_of world) thread (place_after (advance shape r (found_in shape (word_at world) r))))
        (stepped shape (word_at world) thread r l)
        = subst (λ w. Inv w
        (noted (place_of world) thread (place_after (advance shape r (found_in shape (word_at world) r))))
        (stepped shape (word_at world) thread r l)) (sym (word_at-moved shape world thread r within)) u in
        record {
          size = length-moved shape world thread r ∙ size;
          holds = subst (λ p. Inv (word_at (moved shape world thread r)) p (stepped shape (word_at world) thread r l))
              (sym (place_of-moved shape world thread r t)) v;
        }

    noted-there : (world : World) (thread : ℕ) (r : Running) → place_of world thread ≡ Some r
        → noted (place_of world) thread (Some r) ≡ place_of world
    noted-there world thread r e =
        fun_ext (λ j. elim (cases_eq j thread) [
          | inl s ↦ noted-same (place_of world) thread j (Some r) s ∙ sym e ∙ ap (place_of world) (sym s)
          | inr ne ↦ noted-other (place_of world) thread j (Some r) ne
        ])

    ticked_at : (world : World) (l : Ledger) → At world l → At (ticked shape world) (record l { now = l.now + 1 })
    unfolding ticked word_at place_of
    ticked_at world l h =
        let within : clock_at shape.k shape.n < length world.words = omega (arith, h.size) in
        record {
          size = length-set world.words (clock_at shape.k shape.n) (get_or world.words (clock_at shape.k shape.n) 0 + 1)
              ∙ h.size;
          holds = subst (λ w. Inv w (place_of world) (record l { now = l.now + 1 }))
              (fun_ext (λ i. sym (get_or-set-noted world.words (clock_at shape.k shape.n) i
              (get_or world.words (clock_at shape.k shape.n) 0 + 1) 0 within)))
              (outside (word_at world) _ (place_of world) l (tick_outside shape (word_at world) _) h.holds);
        }

    sealed_at : (world : World) (l : Ledger) → may_seal shape (word_at world 0) ≡ true → At world l
        → At (sealed shape world) (record l { now = l.now + 1 })
    unfolding sealed word_at place_of
    sealed_at world l may h =
        let within : 0 < length world.words = omega (arith, h.size) in
        record {
          size = length-set world.words 0 (sealed_word shape (get_or world.words 0 0)) ∙ h.size;
          holds = subst (λ w. Inv w (place_of world) (record l { now = l.now + 1 }))
              (fun_ext (λ i. sym (get_or-set-noted world.words 0 i (sealed_word shape (get_or world.words 0 0)) 0
              within)))
              (outside (word_at world) _ (place_of world) l (seal_outside shape (word_at world) may) h.holds);
        }

    step_at : (world next : World) (outcome : Outcome) (thread : ℕ) (place : Option Running) (begin : Option Begin)
        (l : Ledger)
        → thread < length world.places → place_of world thread ≡ place → At world l
        → step_from shape world thread place begin ≡ Ok (next, outcome)
        → At next (ledger_from shape (word_at world) thread place begin l)
    step_at world next outcome thread None None l t p h e = cc
    step_at world next outcome thread None (Some (B.Enqueue item start turns)) l t p h e =
        elim (cases_Bool (may_begin shape (B.Enqueue item start turns))) [
          | inl m ↦
              let s : moved shape world thread (R.Enqueue item start turns E.LoadEnds) ≡ next = ok_world (rw m at e) in
              subst (λ w. At w (stepped shape (word_at world) thread (R.Enqueue item start turns E.LoadEnds)
              (called thread (B.Enqueue item start turns) l))) s
              (moved_at world thread (R.Enqueue item start turns E.LoadEnds)
              (called thread (B.Enqueue item start turns) l) h.size t
              (begins (word_at world) (place_of world) l thread (B.Enqueue item start turns)
              (R.Enqueue item start turns E.LoadEnds)
              h.holds p m refl))
          | inr m ↦ absurd (err_ok (rw m at e))
        ]
    step_at world next outcome thread None (Some (B.Dequeue start turns)) l t p h e =
        elim (cases_Bool (may_begin shape (B.Dequeue start turns))) [
          | inl m ↦
              let s : moved shape world thread (R.Dequeue start turns D.LoadEnds) ≡ next = ok_world (rw m at e) in
              subst (λ w. At w (stepped shape (word_at world) thread (R.Dequeue start turns D.LoadEnds)
              (called thread (B.Dequeue start turns) l))) s
              (moved_at world thread (R.Dequeue start turns D.LoadEnds) (called thread (B.Dequeue start turns) l)
              h.size t
              (begins (word_at world) (place_of world) l thread (B.Dequeue start turns)
              (R.Dequeue start turns D.LoadEnds) h.holds p m
              refl))
          | inr m ↦ absurd (err_ok (rw m at e))
        ]
    step_at world next outcome thread None (Some B.Tick) l t p h e =
        elim (cases_Bool (word_at world (clock_at shape.k shape.n) == 18446744073709551615)) [
          | inl m ↦ absurd (err_ok (rw m at e))
          | inr m ↦
              let s : ticked shape world ≡ next = ok_world (rw m at e) in
              subst (λ w. At w (record l { now = l.now + 1 })) s (ticked_at world l h)
        ]
    step_at world next outcome thread None (Some B.Seal) l t p h e =
        elim (cases_Bool (may_seal shape (word_at world 0))) [
          | inl m ↦
              let s : sealed shape world ≡ next = ok_world (rw m at e) in
              subst (λ w. At w (record l { now = l.now + 1 })) s (sealed_at world l m h)
          | inr m ↦ absurd (err_ok (rw m at e))
        ]
    step_at world next outcome thread (Some r) None l t p h e =
        subst (λ w. At w (stepped shape (word_at world) thread r l)) (ok_world e)
        (moved_at world thread r l h.size t (subst (λ q. Inv (word_at world) q l) (sym (noted-there world thread r p))
        h.holds))
    step_at world next outcome thread (Some r) (Some b) l t p h e = cc

    pub event_at : (world next : World) (outcome : Outcome) (event : Event) (l : Ledger) → At world l
        → step shape world event ≡ Ok (next, outcome) → At next (ledger_after shape world event l)
    unfolding step ledger_after
    event_at world next outcome event l h e =
        elim (cases_Bool (ltb event.thread (length world.places))) [
          | inl m ↦ step_at world next outcome event.thread (place_of world event.thread) event.begin l (ltb-true _ _ m)
              refl h (rw m at e)
          | inr m ↦ absurd (err_ok (rw m at e))
        ]

    -- after every schedule
    pub after_all : (events : List Event) (world final : World) (l : Ledger) → At world l
        → run shape (Some world) events ≡ Some final
        → At final (ledger_of shape (Some world) events l)
    after_all [] world final l h e = subst (λ w. At w l) (same_Some world final e) h
    after_all (event ∷ events) world final l h e =
        on_result (step shape world event)
        (λ next outcome s. rw s (after_all events next final (ledger_after shape world event l)
        (event_at world next outcome event l h s)
        (rw s at e)))
        (λ fault s. absurd (none-some final (sym (run-none shape events) ∙ (rw s at e))))
