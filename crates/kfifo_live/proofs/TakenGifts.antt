-- What a take hands out: the payload that was given with the enqueue that put the word it took.
use Rattle.std.proofs.Common.{◌≡◌, ◌≢◌, ℕ, ◌<◌, List, [], ◌∷◌, ◌++◌, map, append_assoc}
use Rattle.std.proofs.Common.{Option, Some, None, refl, sym, ap, ◌∙◌, subst, inl, inr, arith, cond, eq-eqb}
use Rattle.std.proofs.Common.{ne_eqb}
use Rattle.std.specs.Prelude.{◌==◌}
use Rattle.std.proofs.lemmas.Bool.{cases_eq}
use Rattle.std.proofs.lemmas.Bool.Decides.{nat_tests}
use Rattle.kfifo_live.proofs.Types.{Answer, Begin, EnqueuePhase, Event, Next, Opening, Running, Shape}
use Rattle.kfifo_words.specs.Words.{value_of}
use Rattle.kfifo_words.specs.Ring.{clock_at}
use Rattle.kfifo_model.specs.declared.calls.Answer.TheVariants.{Got}
use Rattle.kfifo_machine.specs.declared.event.Begin.TheVariants as B
use Rattle.kfifo_machine.specs.declared.event.Outcome.TheVariants.{Went, Ended}
use Rattle.kfifo_machine.specs.declared.place.EnqueuePhase.TheVariants as E
use Rattle.kfifo_machine.specs.declared.place.DequeuePhase.{DequeuePhase}
use Rattle.kfifo_machine.specs.declared.place.DequeuePhase.TheVariants as D
use Rattle.kfifo_machine.specs.declared.place.Running.TheVariants as R
use Rattle.kfifo_machine.specs.declared.place.Next.TheVariants.{Goes, Answers}
use Rattle.kfifo_machine.specs.Program.{access, accessed, advance, enqueue_advance}
use Rattle.kfifo_machine.specs.Machine.{opening, found, word_at, place_of, outcome_of}
use Rattle.kfifo_machine.specs.Machine.{world_of, run}
use Rattle.kfifo_machine.specs.Runs.{event, going, CompleteExecution}
use Rattle.kfifo_machine.specs.Places.{IsPlace}
use Rattle.kfifo_machine.proofs.Schedules.{after-snoc, stepped}
use Rattle.kfifo_machine.proofs.Sound.{place_is, sound}
use Rattle.kfifo_machine.proofs.BusyIsDisturbed.{found-is}
use Rattle.kfifo_live.specs.Schedule.{HolderLaw, world_after}
use Rattle.kfifo_live.specs.Hands.{Gifts, InTurn, beside, items_begun, last_gift}
use Rattle.kfifo_live.specs.Payloads.{PayPassView, TakesAtLast, TookWhatWasPut, WasPutWith}
use Rattle.kfifo_live.proofs.Holders.{begin_free_before}
use Rattle.kfifo_live.proofs.GiftsInTurn.{items_begun-append}
use Rattle.kfifo_live.proofs.Givers.{Dequeues, Enqueues, Going, Lacks, On, PutLast, put_on, going_is}
use Rattle.kfifo_live.proofs.Givers.{enqueue_not_dequeue, who_put}

module _ {T : Type 0} where
  last_append : (x : ℕ) (found : Option T) (xs ys : Gifts T)
      → last_gift x found (xs ++ ys) ≡ last_gift x (last_gift x found xs) ys
  last_append x found [] ys = refl
  last_append x found (g ∷ xs) ys = last_append x (cond (g.0 == x) g.1 found) xs ys

  last_lacks : (x : ℕ) (found : Option T) (gs : Gifts T) → Lacks x (map (λ g. g.0) gs) → last_gift x found gs ≡ found
  last_lacks x found [] lacks = refl
  last_lacks x found (g ∷ gs) lacks = last_lacks x (cond (g.0 == x) g.1 found) gs lacks.1 ∙ ap (λ b. cond b g.1 found)
      (ne_eqb g.0 x lacks.0)

  -- gifts cut at one of their items
  record IsCut (gifts : Gifts T) (xs : List ℕ) (token : ℕ) (ys : List ℕ) : Type 0 where
    earlier : Gifts T
    payload : Option T
    later : Gifts T
    are : gifts ≡ earlier ++ (token, payload) ∷ later
    first : map (λ g. g.0) earlier ≡ xs
    last : map (λ g. g.0) later ≡ ys

  cut_at : (gifts : Gifts T) (xs : List ℕ) (token : ℕ) (ys : List ℕ) → map (λ g. g.0) gifts ≡ xs ++ token ∷ ys
      → IsCut gifts xs token ys
  cut_at [] [] token ys is = absurd (cc)
  cut_at [] (x ∷ xs) token ys is = absurd (cc)
  cut_at (g ∷ gs) [] token ys is =
      let here : g.0 ≡ token = cc in
      let rest : map (λ g. g.0) gs ≡ ys = cc in
      record { earlier = []; payload = g.1; later = gs; are = (λ k. (here k, g.1) ∷ gs); first = refl; last = rest }
  cut_at (g ∷ gs) (x ∷ xs) token ys is =
      let here : g.0 ≡ x = cc in
      let rest : map (λ g. g.0) gs ≡ xs ++ token ∷ ys = cc in
      let c = cut_at gs xs token ys rest in
      record {
        earlier = g ∷ c.earlier;
        payload = c.payload;
        later = c.later;
        are = ap (λ hs. g ∷ hs) c.are;
        first = (λ k. here k ∷ c.first k);
        last = c.last;
      }

  -- The gift of the enqueue that put a word is the last one of its item
  pub was_put : (o : Opening) (all : List Event) (gifts : Gifts T) (index word token : ℕ) → InTurn all gifts
      → PutLast o all index word token → WasPutWith o all gifts index word token (beside token gifts)
  was_put o all gifts index word token turns p =
      let begins = event p.thread (Some (B.Enqueue token p.start p.turns)) in
      let put = event p.thread None in
      let behind = p.between ++ put ∷ p.after in
      let are : map (λ (g : ℕ × Option T). g.0) gifts ≡ items_begun p.before ++ token ∷ items_begun behind =
      turns ∙ ap items_begun (p.all_are ∙ append_assoc p.before (begins ∷ p.between) (put ∷ p.after))
      ∙ items_begun-append p.before
      (begins ∷ behind) in
      let c = cut_at gifts (items_begun p.before) token (items_begun behind) are in
      let so_far = last_gift token None c.earlier in
      let last : beside token gifts ≡ c.payload =
      ap (beside token) c.are
      ∙ last_append token None c.earlier ((token, c.payload) ∷ c.later)
      ∙ last_lacks token (cond (token == token) c.payload so_far) c.later (subst (Lacks token) (sym c.last) p.not_again)
      ∙ ap (λ b. cond b c.payload so_far) (eq-eqb token token refl) in
      record {
        thread = p.thread;
        start = p.start;
        turns = p.turns;
        before = p.before;
        between = p.between;
        after = p.after;
        all_are = p.all_are;
        one_call = p.one_call;
        puts = p.puts;
        token_is = p.value_is;
        earlier = c.earlier;
        later = c.later;
        gifts_are = c.are ∙ ap (λ (v : Option T). c.earlier ++ (token, v) ∷ c.later) (sym last);
        before_it = c.first;
      }

-- the place of a take that finds what it seeks
record IsTake (r : Running) (word x : ℕ) : Type 0 where
  start : ℕ
  left : ℕ
  ends : ℕ
  index : ℕ
  place : r ≡ R.Dequeue start left (D.Take ends index word)
  value : value_of word ≡ x

abbrev NotTake : DequeuePhase → Type 0
NotTake (D.Take ends index filled) = ⊥
NotTake phase = Unit {0}

enqueue_not_got : (shape : Shape) (item start left : ℕ) (phase : EnqueuePhase) (word x : ℕ)
    → enqueue_advance shape item start left phase word ≡ Answers (Got x) → ⊥
enqueue_not_got shape item start left phase word x is = grind (arith, nat_tests)

others_not_got : (shape : Shape) (start left : ℕ) (phase : DequeuePhase) (word x : ℕ) → NotTake phase
    → advance shape (R.Dequeue start left phase) word ≡ Answers (Got x) → ⊥
others_not_got shape start left phase word x not is = grind (arith, nat_tests)

lost_not_got : (shape : Shape) (start left ends index filled word x : ℕ) → word ≢ filled
    → advance shape (R.Dequeue start left (D.Take ends index filled)) word ≡ Answers (Got x) → ⊥
lost_not_got shape start left ends index filled word x lost is = grind (arith, nat_tests)

won_got : (shape : Shape) (start left ends index filled word x : ℕ) → word ≡ filled
    → advance shape (R.Dequeue start left (D.Take ends index filled)) word ≡ Answers (Got x) → value_of filled ≡ x
won_got shape start left ends index filled word x won is = grind (arith, nat_tests)

got_place : (shape : Shape) (r : Running) (word x : ℕ) → advance shape r word ≡ Answers (Got x) → IsTake r word x
got_place shape (R.Enqueue item start left phase) word x is =
    absurd (enqueue_not_got shape item start left phase word x is)
got_place shape (R.Dequeue start left (D.Take ends index filled)) word x is =
    elim (cases_eq word filled) [
      | inl won ↦ record {
        start = start;
        left = left;
        ends = ends;
        index = index;
        place = (λ k. R.Dequeue start left (D.Take ends index (sym won k)));
        value = ap value_of won ∙ won_got shape start left ends index filled word x won is;
      }
      | inr lost ↦ absurd (lost_not_got shape start left ends index filled word x lost is)
    ]
got_place shape (R.Dequeue start left other) word x is = absurd (others_not_got shape start left other word x tt is)

answered : (next : Next) (answer : Answer) → Ended answer ≡ outcome_of next → next ≡ Answers answer
answered (Goes r) answer is = absurd (cc)
answered (Answers a) answer is = ap Answers (let e : a ≡ answer = cc in e)

take_not_first : (start left ends index filled first turns : ℕ)
    → R.Dequeue start left (D.Take ends index filled) ≡ R.Dequeue first turns D.LoadEnds → ⊥
take_not_first start left ends index filled first turns e = cc

take_goes_on : (shape : Shape) (place : Option Running) (begin : Option Begin) (start left ends index filled : ℕ)
    → going shape place begin ≡ Some (R.Dequeue start left (D.Take ends index filled))
    → (begin ≡ None) × (place ≡ Some (R.Dequeue start left (D.Take ends index filled)))
take_goes_on shape place begin start left ends index filled goes = of_going (going_is shape place begin _ goes)
  where
    of_going : Going place begin (R.Dequeue start left (D.Take ends index filled))
        → (begin ≡ None) × (place ≡ Some (R.Dequeue start left (D.Take ends index filled)))
    of_going (On none at) = (none, at)
    of_going (Enqueues item first turns begins is) = absurd
        (enqueue_not_dequeue item first turns start left E.LoadEnds (D.Take ends index filled) (sym is))
    of_going (Dequeues first turns is) = absurd (take_not_first start left ends index filled first turns is)

-- what a dequeue that answers Got takes with its last event
record TookLast (o : Opening) (thread token : ℕ) (seen : List Event) : Type 0 where
  index : ℕ
  word : ℕ
  taken : TakesAtLast o thread index word seen
  above : 0 < index
  below : index < clock_at o.shape.k o.shape.n
  value : value_of word ≡ token

took_last : (o : Opening) (thread start turns token : ℕ) (old new : List Event)
    → CompleteExecution o.shape o.threads thread (B.Dequeue start turns) (Got token) old new
    → TookLast o thread token new
took_last o thread start turns token old new run =
    elim (stepped o.shape run.before run.last run.world (Ended (Got token)) run.ends) [
      | inr t ↦ absurd (let e : Ended (Got token) ≡ Went = t.outcome_is in cc)
      | inl s ↦
          let seen = found o.shape run.before s.running in
          let g = got_place o.shape s.running seen token (answered (advance o.shape s.running seen) (Got token)
          s.outcome_is) in
          let take : Running = R.Dequeue g.start g.left (D.Take g.ends g.index seen) in
          let on = take_goes_on o.shape (place_of run.before run.last.thread) run.last.begin g.start g.left g.ends
          g.index seen
          (s.goes ∙ ap Some g.place) in
          let place : IsPlace o.shape take = place_is o.shape run.before run.last.thread take
          (sound o.shape o.threads (old ++ run.between) run.before run.reached) on.1 in
          let stands : seen ≡ word_at run.before g.index = found-is o.shape run.before s.running ∙ ap
          (λ (r : Running). word_at run.before (accessed (access o.shape r))) g.place in
          record {
            index = g.index;
            word = seen;
            taken = record {
              before = old ++ run.between;
              here = run.before;
              start = g.start;
              left = g.left;
              ends = g.ends;
              seen_is = run.new_is ∙ (λ k. (old ++ run.between) ++ event (run.last_own k) (on.0 k) ∷ []);
              reached = run.reached;
              place = ap (place_of run.before) (sym run.last_own) ∙ on.1;
              stands = sym stands;
            };
            above = place.2.1.above;
            below = place.2.1.below;
            value = g.value;
          }
    ]

-- What a pass took was put with the payload that it hands back
pub took_what_was_put : {T : Type 0} (token : ℕ) (payload : Option T) (p : PayPassView T) (start turns : ℕ)
    (old : List Event)
    → CompleteExecution p.pass.opened.shape p.pass.opened.threads p.pass.thread (B.Dequeue start turns) (Got token) old
    p.pass.seen
    → 0 < token → HolderLaw p.pass.opened p.pass.seen → InTurn p.pass.seen p.gifts → beside token p.gifts ≡ payload
    → TookWhatWasPut token payload p
took_what_was_put token payload p start turns old run some law in_turn is =
    let o = p.pass.opened in
    let all = p.pass.seen in
    let t = took_last o p.pass.thread start turns token old all run in
    let last = event p.pass.thread None in
    let whole : world_after o all ≡ Some run.world = ap (world_after o) run.new_is ∙ after-snoc o.shape o.threads
    (old ++ run.between) run.before run.last run.reached ∙ ap world_of run.ends in
    let first : HolderLaw o t.taken.before =
    begin_free_before o.shape (opening o.shape o.threads) run.world t.taken.before (last ∷ [])
    (ap (world_after o) (sym t.taken.seen_is) ∙ whole) (subst (HolderLaw o) t.taken.seen_is law) in
    let value : value_of (word_at t.taken.here t.index) ≡ token = ap value_of t.taken.stands ∙ t.value in
    let put = who_put o t.taken.before t.taken.here t.taken.reached first t.index t.above t.below
    (λ none. absurd (omega (arith, value, none, some))) in
    let as_taken : PutLast o t.taken.before t.index t.word token =
    subst (λ (x : ℕ × ℕ). PutLast o t.taken.before t.index x.0 x.1)
    (λ k. (t.taken.stands k, value k)) put in
    let of_all : PutLast o all t.index t.word token = subst (λ (es : List Event). PutLast o es t.index t.word token)
    (sym t.taken.seen_is)
    (put_on o t.taken.before last t.index t.word token as_taken tt) in
    record {
      index = t.index;
      word = t.word;
      taken = t.taken;
      put = subst (WasPutWith o all p.gifts t.index t.word token) is
          (was_put o all p.gifts t.index t.word token in_turn of_all);
    }
