-- A pass that has seen more is still in no call.
use Rattle.std.proofs.Common.{◌≡◌, ℕ, ◌<◌, ◌≤◌, List, [], ◌∷◌, ◌++◌, length, Option, Some, None, refl, sym, ap, ◌∙◌}
use Rattle.std.proofs.Common.{subst, arith, append_assoc}
use Rattle.std.proofs.lemmas.List.{append-nil, length-replicate}
use Rattle.atomic_table.specs.Table.{Me}
use Rattle.atomic_table.specs.Seated.{TableId}
use Rattle.atomic_table.specs.declared.shared.Seat.{Seat}
use Rattle.kfifo_live.proofs.Types.{Answer, Begin, Event, Hand, Opening, Part, Running, Shape, View}
use Rattle.kfifo_machine.specs.declared.event.Begin.TheVariants.{Tick}
use Rattle.kfifo_machine.specs.declared.place.Next.TheVariants.{Answers}
use Rattle.kfifo_machine.specs.Machine.{World, opening, place_of, run, ticked, word_at, world_of}
use Rattle.kfifo_machine.specs.Runs.{Begins, CompleteExecution, event, own}
use Rattle.kfifo_machine.proofs.Schedules.{after-snoc, own-append, run_on, same_place, still_threads}
use Rattle.kfifo_live.specs.Hands.{Gifts, carrying}
use Rattle.kfifo_live.specs.Schedule.{gifts_of, hand_of, hand_in, stamped_opening, IsSmall, part, view_of, world_after}
use Rattle.kfifo_live.specs.Schedule.{thread_in, thread_of, more_in, seen_of, with_seen, AllBegin, first_part}
use Rattle.kfifo_live.specs.Schedule.{other_parts, no_part, both_parts}
use Rattle.kfifo_live.specs.Step.{IsAt, DrawsStamp, Looks, Leads, Runs}
use Rattle.kfifo_live.specs.Pass.{PassView, OpenQueue, queue_of, StartsWith, IsPass, pass_view, Finds}
use Rattle.kfifo_live.specs.Promise.{KeepsPromise}
use Rattle.kfifo_live.specs.Calls.{Makes}
use Rattle.kfifo_live.specs.Stamps.{Draws}
use Rattle.kfifo_live.proofs.CompleteExecutions.{at_next, whole}
use Rattle.kfifo_linear.proofs.Schedule.{has_legal_order, few_overtake, few_certainly}

length-ticked : (shape : Shape) (world : World) → length (ticked shape world).places ≡ length world.places
unfolding ticked
length-ticked shape world = refl

-- a tick leaves each thread where it was
tick_leaves : (shape : Shape) (here : World) (thread : ℕ) → place_of (ticked shape here) thread ≡ place_of here thread
unfolding ticked place_of
tick_leaves shape here thread = refl

-- a pass acts for its thread
pub pass_thread : {T : Type 0} (thread : ℕ) (me : Me (Option T) (View T)) → IsPass thread me → thread_of me.0 ≡ thread
pass_thread thread me p = ap thread_in p.alone

-- a world of a schedule has the threads of the opening
pub threads_are : (o : Opening) (seen : List Event) (here : World) → world_after o seen ≡ Some here
    → length here.places ≡ o.threads
unfolding opening
threads_are o seen here reached =
    let idle : Option Running = None in
    still_threads o.shape (opening o.shape o.threads) here seen reached ∙ length-replicate o.threads idle

-- its thread is idle after others' events
pub idle_on : (o : Opening) (thread : ℕ) (seen all : List Event) (here end : World) → world_after o seen ≡ Some here
    → thread < length here.places → place_of here thread ≡ None
    → Begins thread seen all → world_after o all ≡ Some end → (thread < length end.places)
    × (place_of end thread ≡ None)
idle_on o thread seen all here end reached within idle b there =
    let onward : run o.shape (Some here) b.rest ≡ Some end =
    sym (run_on o.shape (Some (opening o.shape o.threads)) here seen b.rest reached)
    ∙ ap (λ es. world_after o es) (sym b.goes_on)
    ∙ there in
    let still = still_threads o.shape here end b.rest onward in
    (omega (arith, within, still), same_place o.shape here end b.rest thread b.no_own onward ∙ idle)

-- its opening is as small as before
pub few_same : {T : Type 0} (v w : View T) (parts : List (Part T)) → w ≡ view_of v.opened parts → IsSmall v.opened
    → IsSmall w.opened
few_same {T} v w parts is few = subst IsSmall (sym (ap (λ (x : View T). x.opened) is)) few

passes_on : {T : Type 0} (thread : ℕ) (old new : Me (Option T) (View T)) (all : List Event) (gifts : Gifts T)
    (end : World)
    → IsPass thread old
    → new.0 ≡ view_of old.0.opened (part thread all gifts (hand_of old.0) ∷ []) → new.1 ≡ []
    → Begins thread (seen_of old.0) all
    → world_after old.0.opened all ≡ Some end → IsPass thread new
passes_on {T} thread old new all gifts end p is held b there =
    let same = pass_thread thread old p in
    let within = subst (λ (t : ℕ). t < length p.idle.here.places) same p.idle.within in
    let place = ap (λ t. place_of p.idle.here t) (sym same) ∙ p.idle.place_is in
    let on = idle_on old.0.opened thread (seen_of old.0) all p.idle.here end p.idle.reached within place b there in
    let idle : IsAt None (view_of old.0.opened (part thread all gifts (hand_of old.0) ∷ []), new.1) =
    record {
      here = end;
      seated = refl;
      reached = there;
      within = on.0;
      place_is = on.1;
      carries = (p.idle.carries.0, held ∙ sym p.held ∙ p.idle.carries.1);
    } in
    record {
      alone = ap (λ v. v.parts) is
          ∙ (λ i. part thread (sym (ap seen_of is) i) (sym (ap gifts_of is) i) (sym (ap hand_of is) i)
          ∷ []);
      held = held;
      idle = subst (λ (x : View T). IsAt None (x, new.1)) (sym is) idle;
      few = few_same old.0 new.0 (part thread all gifts _ ∷ []) is p.few;
    }

pub alone_with : {T : Type 0} (thread : ℕ) (old : Me (Option T) (View T)) (all : List Event) (gifts : Gifts T)
    (hand : Hand T)
    → IsPass thread old → with_seen old.0 all gifts hand ≡ view_of old.0.opened (part thread all gifts hand ∷ [])
alone_with {T} thread old all gifts hand p =
    ap (λ (ps : List (Part T)). view_of old.0.opened (part (thread_in ps) all gifts hand ∷ more_in ps)) p.alone

-- after a look
pub looked : {T : Type 0} (thread index word : ℕ) (old new : Me (Option T) (View T)) → IsPass thread old → new.1 ≡ old.1
    → Looks index word old.0 new.0 → IsPass thread new
looked {T} thread index word old new p held l =
    let b = subst (λ (ps : List (Part T)). AllBegin ps l.all) p.alone l.begin in
    passes_on thread old new l.all l.gifts l.world p (l.afterwards ∙ alone_with thread old l.all l.gifts (hand_of old.0)
    p) (held ∙ p.held)
    b.0 l.reached

-- and what the look found
pub finds : {T : Type 0} (table table' : TableId) (thread index word : ℕ) (old new : Me (Option T) (View T))
    → IsPass thread old
    → Looks index word old.0 new.0
    → Finds (pass_view table thread old.0) (pass_view table' thread new.0) index word
unfolding word_at
finds {T} table table' thread index word old new p l =
    let b = subst (λ (ps : List (Part T)). AllBegin ps l.all) p.alone l.begin in
    let seen : seen_of new.0 ≡ l.all = ap seen_of l.afterwards in
    record {
      others = subst (λ (es : List Event). Begins thread (seen_of old.0) es) (sym seen) b.0;
      world = l.world;
      reached = ap (λ es. world_after old.0.opened es) seen ∙ l.reached;
      word_is = l.word_is;
    }

-- a pass of a plain queue has no tokens
pub no_tokens : {T : Type 0} {table : TableId} {thread : ℕ} (v : View T) {p : PassView} {q : OpenQueue} {shape : Shape}
    {threads calls : ℕ} {of : TableId} → pass_view table thread v ≡ p → p.opened ≡ q.opened
    → queue_of of (stamped_opening shape threads calls) ≡ q → v.opened.tokens ≡ 0
no_tokens v pass opened queue = ap (λ (k : PassView). k.opened.tokens) pass ∙ ap (λ (o : Opening). o.tokens) opened
    ∙ sym (ap (λ (q : OpenQueue). q.opened.tokens) queue)

-- after a call
pub called : {T : Type 0} (begin : Begin) (answer : Answer) (thread : ℕ) (old new : Me (Option T) (View T))
    → IsPass thread old
    → old.0.opened.tokens ≡ 0 → Leads (Some begin) old (Answers answer) new → IsPass thread new
called begin answer thread old new p none_there l =
    let all = (seen_of old.0 ++ l.between) ++ l.last ∷ [] in
    let gifts = gifts_of old.0 ++ l.given in
    let is : new.0 ≡ view_of old.0.opened (part thread all gifts l.hand ∷ []) = l.now
    ∙ alone_with thread old all gifts l.hand p in
    record {
      alone = ap (λ v. v.parts) is
          ∙ (λ i. part thread (sym (ap seen_of is) i) (sym (ap gifts_of is) i) (sym (ap hand_of is) i) ∷ []);
      held = l.carries ∙ ap (λ (n : ℕ). carrying n l.hand.out l.hand.payload) none_there;
      idle = at_next (Some begin) old new (Answers answer) l;
      few = few_same old.0 new.0 (part thread all gifts _ ∷ []) is p.few;
    }

-- after a tick
pub drawn : {T : Type 0} (stamp thread : ℕ) (old new : Me (Option T) (View T)) → IsPass thread old → new.1 ≡ old.1
    → DrawsStamp old.0 stamp new.0 → IsPass thread new
drawn {T} stamp thread old new p slots d =
    let v = old.0 in
    let t = thread_of v in
    let shape = v.opened.shape in
    let all = (seen_of v ++ d.between) ++ event t (Some Tick) ∷ [] in
    let gifts = gifts_of v ++ d.given in
    let is : new.0 ≡ view_of v.opened (part thread all gifts (hand_of v) ∷ []) =
    d.afterwards ∙ alone_with thread old all gifts (hand_of v) p in
    let onward : run shape (Some p.idle.here) d.between ≡ Some d.here =
    sym (run_on shape (Some (opening shape v.opened.threads)) p.idle.here (seen_of v) d.between p.idle.reached)
    ∙ d.reached in
    let still = still_threads shape p.idle.here d.here d.between onward in
    let there : place_of d.here t ≡ None = same_place shape p.idle.here d.here d.between t d.others onward
    ∙ p.idle.place_is in
    let size = length-ticked shape d.here in
    let at : IsAt None (with_seen v all gifts (hand_of v), new.1) = record {
      here = ticked shape d.here;
      seated = refl;
      reached = after-snoc shape v.opened.threads (seen_of v ++ d.between) d.here (event t (Some Tick)) d.reached
          ∙ ap world_of d.made;
      within = let w = p.idle.within in omega arith;
      place_is = tick_leaves shape d.here t ∙ there;
      carries = (p.idle.carries.0, slots ∙ p.idle.carries.1);
    } in
    record {
      alone = ap (λ v. v.parts) is
          ∙ (λ i. part thread (sym (ap seen_of is) i) (sym (ap gifts_of is) i) (sym (ap hand_of is) i) ∷ []);
      held = slots ∙ p.held;
      idle = subst (λ (x : View T). IsAt None (x, new.1)) (sym d.afterwards) at;
      few = few_same old.0 new.0 (part thread all gifts _ ∷ []) is p.few;
    }

-- and what it drew
pub draws_known : {T : Type 0} (stamp thread : ℕ) (old new : Seat (Option T) (View T)) (now : PassView)
    → IsPass thread old.me
    → pass_view old.table_id thread old.me.0 ≡ now → new.table_id ≡ old.table_id
    → DrawsStamp old.me.0 stamp new.me.0 → Draws stamp now (pass_view new.table_id thread new.me.0)
draws_known {T} stamp thread old new now p is table d =
    let v = old.me.0 in
    let of_pass = subst (λ (t : ℕ). Draws stamp (pass_view old.table_id t v) (pass_view new.table_id t new.me.0))
    (pass_thread thread old.me p) at_thread in
    subst (λ (k : PassView). Draws stamp k (pass_view new.table_id thread new.me.0)) is of_pass
  where
    at_thread : Draws stamp (pass_view old.table_id (thread_of old.me.0) old.me.0)
        (pass_view new.table_id (thread_of old.me.0) new.me.0)
    at_thread = record {
      between = d.between;
      here = d.here;
      others = d.others;
      reached = d.reached;
      stamp_is = d.stamp_is;
      made = d.made;
      same = (table, ap (λ (x : View T). x.opened) d.afterwards, refl);
      new_is = ap seen_of d.afterwards;
    }

-- and what was new to it is one complete execution
pub made : {T : Type 0} (call : Begin) (answer : Answer) (thread : ℕ) (old new : Seat (Option T) (View T))
    (now : PassView)
    → IsPass thread old.me → pass_view old.table_id thread old.me.0 ≡ now
    → Runs (Some call) old (Answers answer) new → Makes call answer now (pass_view new.table_id thread new.me.0)
made call answer thread old new now p is runs =
    let run = whole call old.me new.me answer runs.leads in
    let o = old.me.0.opened in
    let of_thread : CompleteExecution o.shape o.threads thread call answer (seen_of old.me.0) (seen_of new.me.0) =
    subst (λ (t : ℕ). CompleteExecution o.shape o.threads t call answer (seen_of old.me.0) (seen_of new.me.0))
    (pass_thread thread old.me p)
    run in
    subst (λ (k : PassView). Makes call answer k (pass_view new.table_id thread new.me.0)) is of_thread

-- after a look with another's parts beside its own, which it then gives back
pub met : {T : Type 0} (thread word found : ℕ) (old new : Me (Option T) (View T)) (other both seen : View T)
    → IsPass thread old
    → new.1 ≡ old.1
    → both ≡ both_parts old.0 other → Looks word found both seen → new.0 ≡ first_part seen → IsPass thread new
met {T} thread word found old new other both seen p held is l kept =
    let parts : both.parts ≡ part thread (seen_of old.0) (gifts_of old.0) (hand_of old.0) ∷ other.parts =
    ap (λ v. v.parts) is ∙ ap (λ (ps : List (Part T)). ps ++ other.parts) p.alone in
    let b = subst (λ (ps : List (Part T)). AllBegin ps l.all) parts l.begin in
    let opened : both.opened ≡ old.0.opened = ap (λ v. v.opened) is in
    passes_on thread old new l.all l.gifts l.world p
    (kept ∙ ap first_part l.afterwards
    ∙ (λ i. view_of (opened i) (part (thread_in (parts i)) l.all l.gifts (hand_in (parts i)) ∷ [])))
    (held ∙ p.held) b.0 (ap (λ (o : Opening). world_after o l.all) (sym opened) ∙ l.reached)

-- the parts that were put behind a pass's own for a look come back as they were
pub returned : {T : Type 0} (thread : ℕ) (old : Me (Option T) (View T)) (lent both seen rest back : View T)
    (all : List Event)
    (gifts : Gifts T) (hand : Hand T) → IsPass thread old → both ≡ both_parts old.0 lent
    → seen ≡ with_seen both all gifts hand
    → rest ≡ other_parts seen
    → back ≡ both_parts (no_part lent) rest → back ≡ lent
returned {T} thread old lent both seen rest back all gifts hand p both_is seen_is rest_is back_is =
    let behind : both.parts ≡ part thread (seen_of old.0) (gifts_of old.0) (hand_of old.0) ∷ lent.parts =
    ap (λ (v : View T). v.parts) both_is ∙ ap (λ (ps : List (Part T)). ps ++ lent.parts) p.alone in
    let parts : rest.parts ≡ lent.parts = ap (λ (v : View T). v.parts) (rest_is ∙ ap other_parts seen_is)
    ∙ ap more_in behind in
    back_is ∙ ap (λ (ps : List (Part T)). view_of lent.opened ps) parts

-- a look at the schedule with the parts of two passes: each has seen a beginning of it with all its own events
pub both_begin : {T : Type 0} (whole both : View T) (thread other : ℕ) (old : Me (Option T) (View T))
    (mine : Me (Option T) (View T)) (index word : ℕ) (seen : View T)
    → IsPass thread old → IsPass other mine → whole ≡ old.0 → both ≡ both_parts mine.0 whole
    → (l : Looks index word both seen)
    → Begins thread (seen_of old.0) l.all × Begins other (seen_of mine.0) l.all
both_begin {T} whole both thread other old mine index word seen p q is put l =
    let parts : both.parts ≡ part other (seen_of mine.0) (gifts_of mine.0) (hand_of mine.0)
    ∷ (part thread (seen_of old.0) (gifts_of old.0) (hand_of old.0) ∷ []) =
    ap (λ (v : View T). v.parts) put ∙ (λ i. q.alone i ++ (ap (λ (v : View T). v.parts) is ∙ p.alone) i) in
    let b = subst (λ (ps : List (Part T)). AllBegin ps l.all) parts l.begin in
    (b.1.0, b.0)

-- a schedule that one pass had seen, and that begins with what the other has seen, has no own event of the other beyond
pub exactly_own : (thread other : ℕ) (seen mine before all : List Event) → Begins thread seen all
    → Begins other mine all
    → StartsWith mine before → StartsWith before seen
    → own thread before ≡ own thread seen
exactly_own thread other seen mine before all b o on from =
    let rest : b.rest ≡ from.0 ++ (on.0 ++ o.rest) =
    append_cancel seen b.rest (from.0 ++ (on.0 ++ o.rest))
    (sym b.goes_on ∙ o.goes_on ∙ ap (λ es. es ++ o.rest) (on.1 ∙ ap (λ es. es ++ on.0) from.1)
    ∙ append_assoc (seen ++ from.0) on.0 o.rest
    ∙ append_assoc seen from.0 (on.0 ++ o.rest)) in
    let none : own thread from.0 ++ own thread (on.0 ++ o.rest) ≡ [] =
    sym (own-append thread from.0 (on.0 ++ o.rest)) ∙ ap (own thread) (sym rest) ∙ b.no_own in
    ap (own thread) from.1 ∙ own-append thread seen from.0
    ∙ ap (λ es. own thread seen ++ es) (left_nil (own thread from.0) (own thread (on.0 ++ o.rest)) none)
    ∙ append-nil (own thread seen)
  where
    append_cancel : (xs ys zs : List Event) → xs ++ ys ≡ xs ++ zs → ys ≡ zs
    append_cancel [] ys zs e = e
    append_cancel (x ∷ xs) ys zs e = append_cancel xs ys zs (tail_same x (xs ++ ys) (xs ++ zs) e)
      where
        tail_same : (x : Event) (ys zs : List Event) → x ∷ ys ≡ x ∷ zs → ys ≡ zs
        tail_same x ys zs e = cc

    left_nil : (xs ys : List Event) → xs ++ ys ≡ [] → xs ≡ []
    left_nil [] ys e = refl
    left_nil (x ∷ xs) ys e = absurd (cc)

-- every schedule of an opening for at most 64 threads keeps the promise
pub keeps_promise : (o : Opening) (seen : List Event) (here : World) → o.threads ≤ 64 → world_after o seen ≡ Some here
    → KeepsPromise o seen
keeps_promise o seen here few reached = record {
  world = here;
  reached = reached;
  legal = has_legal_order o.shape o.threads few seen here reached;
  few_overtake = few_overtake o.shape o.threads few seen here reached;
  few_certainly_overtake = λ distinct c done. few_certainly o.shape o.threads few seen here reached c done distinct;
}

-- so does what a pass has seen
pub promised : {T : Type 0} (thread : ℕ) (me : Me (Option T) (View T)) → IsPass thread me
    → KeepsPromise me.0.opened (seen_of me.0)
promised thread me p = keeps_promise me.0.opened (seen_of me.0) p.idle.here p.few.0 p.idle.reached
