-- Steps one after another, and the complete execution that they make.
use Rattle.std.proofs.Common.{◌≡◌, ℕ, ◌<◌, List, [], ◌∷◌, ◌++◌, length, Option, Some, None, Ok, Bool, true, false, refl}
use Rattle.std.proofs.Common.{sym, ap, ◌∙◌, subst, append_assoc, arith, cond}
use Rattle.std.proofs.lemmas.List.{append-nil, length-set}
use Rattle.std.proofs.lemmas.Grind.{get_or-set_at}
use Rattle.atomic_table.specs.Table.{Me}
use Rattle.atomic_table.specs.declared.shared.Seat.{Seat}
use Rattle.kfifo_live.proofs.Types.{Answer, Begin, Event, Hand, Next, Running, Shape, View}
use Rattle.kfifo_machine.specs.declared.place.Next.TheVariants.{Goes, Answers}
use Rattle.kfifo_machine.specs.Program.{access, accessed, advance}
use Rattle.kfifo_machine.specs.declared.place.Access.{Access}
use Rattle.kfifo_machine.specs.Machine.{World, moved, found, word_at, opening, place_of, place_after, outcome_of, run}
use Rattle.kfifo_machine.specs.Machine.{world_of}
use Rattle.kfifo_machine.specs.Runs.{event, own, going, AllGoOn, CompleteExecution}
use Rattle.kfifo_machine.specs.Places.{IsPlace, IsFoundBy}
use Rattle.kfifo_machine.proofs.Places.{found_by, in_table}
use Rattle.kfifo_machine.proofs.Schedules.{after-snoc, own-append, run_on, same_place, steps_on}
use Rattle.kfifo_machine.proofs.Sound.{going_place, sound, place_is}
use Rattle.kfifo_machine.specs.declared.event.Begin.TheVariants as B
use Rattle.kfifo_machine.specs.declared.place.Running.TheVariants as R
use Rattle.kfifo_machine.specs.declared.place.EnqueuePhase.TheVariants as E
use Rattle.kfifo_machine.specs.declared.place.DequeuePhase.TheVariants as D
use Rattle.kfifo_machine.specs.Machine.{begun as begun_place, may_begin}
use Rattle.kfifo_live.specs.Hands.{FitsOwn, Gifts, IsGift, Leaves, gift, move, begun_hand, own_item, out_next, beside}
use Rattle.kfifo_live.specs.Hands.{Carries}
use Rattle.kfifo_live.specs.Schedule.{GiftsFit, world_after, thread_of, seen_of, gifts_of, hand_of, with_seen}
use Rattle.kfifo_live.specs.declared.ring.Ring.{Ring}
use Rattle.kfifo_live.specs.Step.{IsAt, Steps, HasOwn, IsOwnRun, Leads, IsSeatOf, Rests, Stands, Awaits, Runs, Comes}
use Rattle.kfifo_live.specs.Step.{Stepped, Onward}
use Rattle.kfifo_live.proofs.LeftInHand.{home_step, leaves_step}
use Rattle.kfifo_live.proofs.TokensAfterStep.{same_home}
use Rattle.kfifo_live.proofs.Keeps.{own_same}

pub AllGoOn-append : (xs ys : List Event) → AllGoOn xs → AllGoOn ys → AllGoOn (xs ++ ys)
AllGoOn-append [] ys a b = b
AllGoOn-append (x ∷ xs) ys a b = (a.0, AllGoOn-append xs ys a.1 b)

IsOwnRun-append : (thread : ℕ) (begin : Option Begin) (xs ys : List Event) → IsOwnRun thread begin xs → AllGoOn ys
    → IsOwnRun thread begin (xs ++ ys)
IsOwnRun-append thread None xs ys a b = AllGoOn-append xs ys a b
IsOwnRun-append thread (Some call) xs ys a b = record {
  others = a.others ++ ys;
  first = ap (λ es. es ++ ys) a.first;
  go_on = AllGoOn-append a.others ys a.go_on b;
}

one_own : (thread : ℕ) (begin : Option Begin) → IsOwnRun thread begin (event thread begin ∷ [])
one_own thread None = (refl, tt)
one_own thread (Some call) = record { others = []; first = refl; go_on = tt }

place-moved : (shape : Shape) (world : World) (thread : ℕ) (running : Running) → thread < length world.places
    → place_of (moved shape world thread running) thread
    ≡ place_after (advance shape running (found shape world running))
unfolding moved place_of
place-moved shape world thread running within =
    get_or-set_at world.places thread thread (place_after (advance shape running (found shape world running))) None refl
    within

length-moved : (shape : Shape) (world : World) (thread : ℕ) (running : Running)
    → length (moved shape world thread running).places ≡ length world.places
unfolding moved
length-moved shape world thread running =
    length-set world.places thread (place_after (advance shape running (found shape world running)))

Some-injective : {A : Type 0} (x y : A) → Some x ≡ Some y → x ≡ y
Some-injective x y e = cc

-- a step is made from where its thread stood
steps_from : {T : Type 0} (begin : Option Begin) (place : Option Running) (running : Running)
    (me : Me (Option T) (View T)) (word : ℕ)
    (new : Me (Option T) (View T)) → IsAt place me → (s : Steps begin me word new)
    → going me.0.opened.shape place begin ≡ Some running → s.from ≡ running
steps_from begin place running me word new stood s from =
    let v = me.0 in
    let t = thread_of v in
    let onward : run v.opened.shape (Some stood.here) s.between ≡ Some s.here =
    sym (run_on v.opened.shape (Some (opening v.opened.shape v.opened.threads)) stood.here (seen_of v) s.between
    stood.reached)
    ∙ s.reached in
    let there : place_of s.here t ≡ place = same_place v.opened.shape stood.here s.here s.between t s.others onward
    ∙ stood.place_is in
    Some-injective s.from running (sym s.goes ∙ ap (λ p. going v.opened.shape p begin) there ∙ from)

-- what a call has of its own, where its step goes from
own_from : {T : Type 0} (shape : Shape) (begin : Option Begin) (place : Option Running) (running : Running)
    (me : Me (Option T) (View T))
    (mine : ℕ) (payload : Option T) → IsAt place me → going shape place begin ≡ Some running
    → HasOwn begin me mine payload
    → (own_item running ≡ mine) × (0 < own_item running → (begun_hand begin me.1 (hand_of me.0)).payload ≡ payload)
own_from shape (Some begin) (Some q) running me mine payload stood from has = absurd (cc)
own_from shape (Some (B.Enqueue item start turns)) None running me mine payload stood from has =
    let is = of_may (may_begin shape (B.Enqueue item start turns)) from in
    (ap own_item is ∙ sym has.0, λ positive. sym has.1)
  where
    of_may : (may : Bool) → cond may (begun_place (B.Enqueue item start turns)) None ≡ Some running
        → running ≡ R.Enqueue item start turns E.LoadEnds
    of_may true e = sym (Some-injective _ _ e)
    of_may false e = absurd (cc)
own_from shape (Some (B.Dequeue start turns)) None running me mine payload stood from has =
    let is = of_may (may_begin shape (B.Dequeue start turns)) from in
    (ap own_item is ∙ sym has, λ positive. absurd (let e = ap own_item is in omega arith))
  where
    of_may : (may : Bool) → cond may (begun_place (B.Dequeue start turns)) None ≡ Some running
        → running ≡ R.Dequeue start turns D.LoadEnds
    of_may true e = sym (Some-injective _ _ e)
    of_may false e = absurd (cc)
own_from shape (Some B.Tick) None running me mine payload stood from has = absurd (cc)
own_from shape (Some B.Seal) None running me mine payload stood from has = absurd (cc)
own_from shape None place running me mine payload stood from has =
    let p = has.0 in
    let there = has.1 in
    let same_world = Some-injective _ _ (sym stood.reached ∙ there.reached) in
    let at : place ≡ Some p = sym stood.place_is ∙ ap (λ w. place_of w (thread_of me.0)) same_world ∙ there.place_is in
    let is : p ≡ running = Some-injective p running (ap (λ q. going shape q None) (sym at) ∙ from) in
    (ap own_item (sym is) ∙ sym has.2, λ positive. sym has.3)

-- one step
pub one_step : {T : Type 0} (begin : Option Begin) (place : Option Running) (running : Running)
    (me : Me (Option T) (View T)) (word : ℕ)
    (new : Me (Option T) (View T)) (next : Next) → IsAt place me → Steps begin me word new
    → going me.0.opened.shape place begin ≡ Some running → advance me.0.opened.shape running word ≡ next
    → Leads begin me next new
one_step {T} begin place running me word new next stood s from is =
    let v = me.0 in
    let t = thread_of v in
    let shape = v.opened.shape in
    let e = event t begin in
    let same : s.from ≡ running = steps_from begin place running me word new stood s from in
    let come : advance shape s.from (found shape s.here s.from) ≡ next =
    ap (λ n. advance shape s.from n) (sym s.word_is) ∙ ap (λ (r : Running). advance shape r word) same ∙ is in
    let is_from : IsPlace shape s.from = going_place shape (place_of s.here t) begin s.from
    (λ q there. place_is shape s.here t q (sound shape v.opened.threads (seen_of v ++ s.between) s.here s.reached)
    there) s.goes in
    let own_are : own t (s.between ++ e ∷ []) ≡ e ∷ [] = own-append t s.between (e ∷ [])
    ∙ (λ i. s.others i ++ own_same t begin i) in
    record {
      between = s.between;
      last = e;
      given = s.given ++ gift begin me.1;
      before = s.here;
      here = moved shape s.here t s.from;
      hand = s.hand;
      now = s.afterwards ∙ ap (λ g. with_seen v ((seen_of v ++ s.between) ++ e ∷ []) g s.hand)
          (append_assoc (gifts_of v) s.given (gift begin me.1));
      carries = s.carries;
      in_turn = subst (GiftsFit v.opened ((seen_of v ++ s.between) ++ e ∷ []))
          (append_assoc (gifts_of v) s.given (gift begin me.1)) s.in_turn;
      first = record {
        before = s.between;
        after = [];
        earlier = s.given;
        later = [];
        events_are = refl;
        given_are = ap (λ g. s.given ++ g) (sym (append-nil (gift begin me.1)));
        others = s.others;
        in_turn = s.in_turn.in_turn;
      };
      at_home = ap (λ (h : Hand T). h.at_home) s.hand_is
          ∙ home_step (move s.from word) _ (begun_hand begin me.1 (hand_of v))
          ∙ (same_home begin me.1 (hand_of v)).0;
      leaves = λ some_tokens own payload has.
          let mine = own_from shape begin place running me own payload stood from has in
          let own_is : own_item s.from ≡ own = ap own_item same ∙ mine.0 in
          let left = leaves_step v.opened.bare shape s.from word ((gifts_of v ++ s.given) ++ gift begin me.1)
          (begun_hand begin me.1 (hand_of v)) payload
          is_from (s.out some_tokens) (λ positive. mine.1 (subst (λ n. 0 < n) (ap own_item same) positive))
          (s.taken some_tokens) in
          let goes_next : advance shape s.from word ≡ next = ap (λ (r : Running). advance shape r word) same ∙ is in
          subst (λ (x : ℕ × Gifts T × Hand T × Next). Leaves v.opened.bare x.0 payload x.1 x.2 x.3)
          (λ i. (own_is i, append_assoc (gifts_of v) s.given (gift begin me.1) i, sym s.hand_is i, goes_next i)) left;
      last_own = refl;
      own_run = subst (λ (es : List Event). IsOwnRun t begin es) (sym own_are) (one_own t begin);
      reached = s.reached;
      made = steps_on shape s.here e s.from s.within s.goes
          ∙ ap (λ (n : Next). Ok (moved shape s.here t s.from, outcome_of n)) come;
      within = let h = length-moved shape s.here t s.from in omega (arith, s.within, h);
      place = place-moved shape s.here t s.from s.within ∙ ap place_after come;
    }

-- the world after the steps
reached_here : {T : Type 0} (begin : Option Begin) (v : Me (Option T) (View T)) (next : Next)
    (w : Me (Option T) (View T))
    → (l : Leads begin v next w) → world_after v.0.opened ((seen_of v.0 ++ l.between) ++ l.last ∷ []) ≡ Some l.here
reached_here begin v next w l = after-snoc v.0.opened.shape v.0.opened.threads (seen_of v.0 ++ l.between) l.before
    l.last l.reached
    ∙ ap world_of l.made

-- where the steps of a call have led it, its thread is
at_there : {T : Type 0} (begin : Option Begin) (old new : Me (Option T) (View T)) (next : Next)
    → (l : Leads begin old next new)
    → IsAt (place_after next) (
      with_seen old.0 ((seen_of old.0 ++ l.between) ++ l.last ∷ []) (gifts_of old.0 ++ l.given)
          l.hand,
      new.1,
    )
at_there {T} begin old new next l = record {
  here = l.here;
  seated = refl;
  reached = reached_here begin old next new l;
  within = l.within;
  place_is = l.place;
  carries = carries_at next;
}
  where
    carries_at : (next : Next) → Carries (place_after next) old.0.opened.tokens l.hand new.1
    carries_at (Goes running) = l.carries
    carries_at (Answers answer) = (l.hand.payload, l.carries)

pub at_next : {T : Type 0} (begin : Option Begin) (old new : Me (Option T) (View T)) (next : Next)
    → Leads begin old next new
    → IsAt (place_after next) new
at_next {T} begin old new next l = subst (λ (x : View T). IsAt (place_after next) (x, new.1)) (sym l.now)
    (at_there begin old new next l)

-- steps, and then more of the same call
pub more_steps : {T : Type 0} (begin : Option Begin) (old mid new : Me (Option T) (View T)) (running : Running)
    (next : Next)
    → Leads begin old (Goes running) mid → Leads None mid next new → Leads begin old next new
more_steps {T} begin old mid new running next a b =
    from_there (subst (λ (y : View T). Leads None (y, mid.1) next new) a.now b)
  where
    from_there : Leads None (
      with_seen old.0 ((seen_of old.0 ++ a.between) ++ a.last ∷ []) (gifts_of old.0 ++ a.given)
          a.hand,
      mid.1,
    ) next new → Leads begin old next new
    from_there b =
        let v = old.0 in
        let t = thread_of v in
        let between = (a.between ++ a.last ∷ []) ++ b.between in
        let upto : ((seen_of v ++ a.between) ++ a.last ∷ []) ++ b.between ≡ seen_of v ++ between =
        ap (λ es. es ++ b.between) (append_assoc (seen_of v) a.between (a.last ∷ []))
        ∙ append_assoc (seen_of v) (a.between ++ a.last ∷ []) b.between in
        let own_are : own t (between ++ b.last ∷ []) ≡ own t (a.between ++ a.last ∷ [])
        ++ own t (b.between ++ b.last ∷ []) =
        ap (own t) (append_assoc (a.between ++ a.last ∷ []) b.between (b.last ∷ []))
        ∙ own-append t (a.between ++ a.last ∷ []) (b.between ++ b.last ∷ []) in
        record {
          between = between;
          last = b.last;
          given = a.given ++ b.given;
          before = b.before;
          here = b.here;
          hand = b.hand;
          now = b.now ∙ (λ i. with_seen v (upto i ++ b.last ∷ []) (append_assoc (gifts_of v) a.given b.given i) b.hand);
          carries = b.carries;
          in_turn = subst (λ (x : List Event × Gifts T). GiftsFit v.opened (x.0 ++ b.last ∷ []) x.1)
              (λ i. (upto i, append_assoc (gifts_of v) a.given b.given i)) b.in_turn;
          first = (let g = a.first in
              let more = b.between ++ b.last ∷ [] in
              record {
                before = g.before;
                after = g.after ++ more;
                earlier = g.earlier;
                later = g.later ++ b.given;
                events_are = append_assoc (a.between ++ a.last ∷ []) b.between (b.last ∷ [])
                    ∙ ap (λ es. es ++ more) g.events_are
                    ∙ append_assoc g.before (event t begin ∷ g.after) more;
                given_are = ap (λ x. x ++ b.given) g.given_are ∙ append_assoc g.earlier (gift begin old.1 ++ g.later)
                    b.given
                    ∙ ap (λ x. g.earlier ++ x) (append_assoc (gift begin old.1) g.later b.given);
                others = g.others;
                in_turn = g.in_turn;
              });
          at_home = b.at_home ∙ a.at_home;
          leaves = λ some_tokens own payload has.
              let first = a.leaves some_tokens own payload has in
              let same : own_item running ≡ own = first.same_own running refl in
              let then = b.leaves some_tokens (own_item running) a.hand.payload
              (running, at_there begin old mid (Goes running) a, refl, refl) in
              record {
                out = then.out ∙ ap (λ n. out_next n next) same;
                kept = λ positive. then.kept (subst (λ n. 0 < n) (sym same) positive) ∙ first.kept positive;
                taken = λ item e.
                    (let some = then.taken item e in
                    let all = append_assoc (gifts_of v) a.given b.given in (
                      some.0,
                      some.1 ∙ ap (beside item) all,
                      subst (IsGift v.opened.bare) (ap (beside item) all)
                          some.2,
                    ));
                fits = subst (λ n. FitsOwn n next) same then.fits;
                same_own = λ place e. then.same_own place e ∙ same;
              };
          last_own = b.last_own;
          own_run = subst (λ (es : List Event). IsOwnRun t begin es) (sym own_are)
              (IsOwnRun-append t begin _ _ a.own_run b.own_run);
          reached = ap (λ es. world_after v.opened es) (sym upto) ∙ b.reached;
          made = b.made;
          within = b.within;
          place = b.place;
        }

-- and from the first step on they are a complete execution
pub whole : {T : Type 0} (call : Begin) (v w : Me (Option T) (View T)) (answer : Answer)
    → Leads (Some call) v (Answers answer) w
    → CompleteExecution v.0.opened.shape v.0.opened.threads (thread_of v.0) call answer (seen_of v.0) (seen_of w.0)
whole call v w answer l = record {
  between = l.between;
  last = l.last;
  before = l.before;
  world = l.here;
  new_is = ap seen_of l.now;
  last_own = l.last_own;
  one_call = l.own_run;
  reached = l.reached;
  ends = l.made;
}

-- a place at which a thread is, is one
is_place : {T : Type 0} (place : Running) (v : Me (Option T) (View T)) → IsAt (Some place) v
    → IsPlace v.0.opened.shape place
is_place place v a = place_is v.0.opened.shape a.here (thread_of v.0) place
    (sound v.0.opened.shape v.0.opened.threads (seen_of v.0) a.here a.reached) a.place_is

-- what a step finds in a sound world
found_sound : {T : Type 0} (begin : Option Begin) (me : Me (Option T) (View T)) (word : ℕ) (w : Me (Option T) (View T))
    → (s : Steps begin me word w) → IsFoundBy me.0.opened.shape s.from word
unfolding found word_at
found_sound begin me word w s =
    let v = me.0 in
    let here = sound v.opened.shape v.opened.threads (seen_of v ++ s.between) s.here s.reached in
    subst (λ (n : ℕ). IsFoundBy v.opened.shape s.from n) (sym s.word_is)
    (found_by v.opened.shape s.here.words s.here.places s.from here)

-- steps of a call, and then more of it
pub runs_on : {T : Type 0} {begin : Option Begin} {old mid new : Seat (Option T) (View T)} {place : Running}
    {next : Next}
    → Runs begin old (Goes place) mid → Comes mid next new → Runs begin old next new
runs_on {T} {begin} {old} {mid} {new} {place} {next} a b = record {
  same_table = b.same_table ∙ a.same_table;
  leads = more_steps begin old.me mid.me new.me place next a.leads b.leads;
}

pub comes_as : {T : Type 0} {begin : Option Begin} {old new : Seat (Option T) (View T)} {next later : Next}
    → Runs begin old next new
    → next ≡ later → Runs begin old later new
comes_as {T} {begin} {old} {new} runs is = subst (λ (n : Next). Runs begin old n new) is runs

module _ {T : Type 0} {ring : Ring T} where
  seat_on : {old new : Seat (Option T) (View T)} (begin : Option Begin) (next : Next) → IsSeatOf ring old
      → Runs begin old next new
      → IsSeatOf ring new
  seat_on begin next of runs = record {
    table = runs.same_table ∙ of.table;
    size = of.size;
    sizes = ap (λ (v : View T). v.opened.shape) runs.leads.now ∙ of.sizes;
  }

  -- where steps of a call led the thread, it stands
  pub stands_on : {begin : Option Begin} {old new : Seat (Option T) (View T)} {place : Running} → IsSeatOf ring old
      → Runs begin old (Goes place) new → Stands ring new place
  stands_on {begin} {old} {new} {place} of runs =
      let there = at_next begin old.me new.me (Goes place) runs.leads in
      let seat = seat_on begin (Goes place) of runs in
      record {
        of = seat;
        at = there;
        is_place = subst (λ (s : Shape). IsPlace s place) seat.sizes (is_place place new.me there);
      }

  -- what the table tells of a step
  pub stepped : {old new : Seat (Option T) (View T)} {found word : ℕ} → new.table_id ≡ old.table_id
      → Steps None old.me found new.me
      → word ≡ found → Stepped ring old word new
  stepped {old} {new} {found} {word} table steps is =
      let step : Steps None old.me word new.me = subst (λ (n : ℕ). Steps None old.me n new.me) (sym is) steps in
      record {
        comes = λ place stands. record {
          same_table = table;
          leads = one_step None (Some place) place old.me word new.me _ stands.at step refl
              (ap (λ (x : Shape). advance x place word) stands.of.sizes);
        };
        sound = λ place stands.
            subst (λ (x : Shape × Running). IsFoundBy x.0 x.1 word)
            (λ i. (stands.of.sizes i, steps_from None (Some place) place old.me word new.me stands.at step refl i))
            (found_sound None old.me word new.me step);
      }

  -- and of the first step of a call
  pub begun : {old new : Seat (Option T) (View T)} {picked begin : Begin} {found word : ℕ} → Rests ring (Some begin) old
      → picked ≡ begin
      → new.table_id ≡ old.table_id → Steps (Some picked) old.me found new.me → word ≡ found
      → (place : Running) → going ring.shape.now None (Some begin) ≡ Some place
      → Runs (Some begin) old (advance ring.shape.now place word) new
  begun {old} {new} {picked} {begin} {found} {word} rests same table steps is place from =
      let step : Steps (Some begin) old.me word new.me =
      subst (λ (x : Begin × ℕ). Steps (Some x.0) old.me x.1 new.me) (λ i. (same i, sym is i)) steps in
      let from' = ap (λ (x : Shape). going x None (Some begin)) rests.of.sizes ∙ from in
      record {
        same_table = table;
        leads = one_step (Some begin) None place old.me word new.me _ rests.idle step from'
            (ap (λ (x : Shape). advance x place word) rests.of.sizes);
      }

  -- the step that a place asks for
  pub awaits : {seat : Seat (Option T) (View T)} {place : Running} {next : Access} → Stands ring seat place
      → access ring.shape.now place ≡ next → Awaits ring seat next
  awaits {seat} {place} stands is = record { place = place; stands = stands; next_is = is }

  -- the step from where the thread stood, and where it leads
  pub comes : {old new : Seat (Option T) (View T)} {place : Running} {word : ℕ} {next : Next} → Stands ring old place
      → Stepped ring old word new → advance ring.shape.now place word ≡ next → Comes old next new
  comes {old} {new} {place} stands stepped is = subst (λ (n : Next). Comes old n new) is (stepped.comes place stands)

  pub goes_to : {old new : Seat (Option T) (View T)} {place later : Running} {word : ℕ} → Stands ring old place
      → Stepped ring old word new
      → advance ring.shape.now place word ≡ Goes later → Stands ring new later
  goes_to stands stepped is = stands_on stands.of (comes stands stepped is)

  -- and what follows it
  pub comes_by : {old mid new : Seat (Option T) (View T)} {place : Running} {word : ℕ} {next : Next} (later : Running)
      → Stands ring old place → Stepped ring old word mid → advance ring.shape.now place word ≡ Goes later
      → Comes mid next new → Comes old next new
  comes_by later stands stepped is more = runs_on (comes stands stepped is) more

  -- where the thread stands, it has come from there
  pub onward_here : {seat : Seat (Option T) (View T)} {place : Running} → Stands ring seat place
      → Onward ring seat place seat
  onward_here stands = record { stands = stands; so_far = λ next later more. more }

  -- and a step leads on
  pub onward_step : {old mid new : Seat (Option T) (View T)} {place later : Running} {word : ℕ}
      → Onward ring old place mid
      → Stepped ring mid word new → advance ring.shape.now place word ≡ Goes later → Onward ring old later new
  onward_step on stepped is = record {
    stands = goes_to on.stands stepped is;
    so_far = λ next last more. on.so_far next last (runs_on (comes on.stands stepped is) more);
  }

  -- and so do more steps
  pub onward_on : {old mid new : Seat (Option T) (View T)} {place later : Running} → Onward ring old place mid
      → Comes mid (Goes later) new
      → Onward ring old later new
  onward_on on more = record {
    stands = stands_on on.stands.of more;
    so_far = λ next last rest. on.so_far next last (runs_on more rest);
  }

  pub onward_comes : {old mid new : Seat (Option T) (View T)} {place : Running} {word : ℕ} {next : Next}
      → Onward ring old place mid
      → Stepped ring mid word new → advance ring.shape.now place word ≡ next → Comes old next new
  onward_comes {old} {mid} {new} {place} {word} {next} on stepped is = on.so_far next new (comes on.stands stepped is)

  -- the next step's word is one of the table
  pub within_table : {seat : Seat (Option T) (View T)} {next : Access} → (a : Awaits ring seat next)
      → accessed next < ring.words.now.table_id.words
  within_table {seat} {next} a =
      let below = in_table ring.shape.now a.place a.stands.is_place in
      let same = ap accessed a.next_is in
      let size = a.stands.of.size in
      omega (arith, below, size, same)
