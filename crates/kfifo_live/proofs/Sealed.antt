-- A thread that has tried to seal is still in no call, and what it then knows.
use Rattle.std.proofs.Common.{◌≡◌, ℕ, ◌≤◌, List, [], ◌∷◌, ◌++◌, length, Option, Some, None, Bool, true, false, refl}
use Rattle.std.proofs.Common.{sym, ap, ◌∙◌, subst, inl, inr, arith, cond, eq-eqb, append_assoc}
use Rattle.std.proofs.lemmas.Bool.{false≢true}
use Rattle.std.specs.Prelude.{◌==◌}
use Rattle.std.proofs.lemmas.List.{append-nil}
use Rattle.atomic_table.specs.Table.{Me}
use Rattle.kfifo_live.proofs.Types.{Answer, Begin, Event, Opening, Shape, View}
use Rattle.kfifo_words.specs.Words.{head_of, tail_of, version_of}
use Rattle.kfifo_model.specs.declared.calls.Answer.TheVariants.{Empty}
use Rattle.kfifo_machine.specs.declared.event.Begin.TheVariants.{Seal}
use Rattle.kfifo_machine.specs.Machine.{World, after, opening, place_of, run, word_at, world_of}
use Rattle.kfifo_machine.specs.Runs.{Begins, BeginsOnce, CompleteExecution, event, own}
use Rattle.kfifo_machine.proofs.Schedules.{Some-injective, after-snoc, first_made, own-append, run_on, same_place}
use Rattle.kfifo_machine.proofs.Schedules.{stepped, still_threads}
use Rattle.kfifo_machine.proofs.Sound.{IsSound, sound}
use Rattle.kfifo_machine.proofs.Versions.{no_going_seal, run_rises, sealable, sealed-ends, sealed-same}
use Rattle.kfifo_linear.specs.Seals.{IsSealed, SealedEmpty}
use Rattle.kfifo_linear.proofs.Seals.{run_stands}
use Rattle.kfifo_live.specs.Schedule.{GiftsFit, part, view_of, world_after, thread_of, seen_of, gifts_of, hand_of}
use Rattle.kfifo_live.specs.Schedule.{with_seen}
use Rattle.kfifo_live.specs.Step.{IsAt, TriesSeal}
use Rattle.kfifo_live.specs.Pass.{IsPass}
use Rattle.kfifo_live.specs.Hands.{Gifts}
use Rattle.kfifo_live.specs.Seals.{FailsToSeal, SealsFrom, WasSeen}
use Rattle.kfifo_live.proofs.Passes.{alone_with, few_same}

-- a seal, or none, leaves the threads where they were
seal_stays : (shape : Shape) (here end : World) (t : ℕ) (b : Bool) (seal : List Event)
    → seal ≡ cond b (event t (Some Seal) ∷ []) []
    → run shape (Some here) seal ≡ Some end → (length end.places ≡ length here.places)
    × (place_of end t ≡ place_of here t)
seal_stays shape here end t b seal is made = by_test b (ap (run shape (Some here)) (sym is) ∙ made)
  where
    by_test : (b : Bool) → run shape (Some here) (cond b (event t (Some Seal) ∷ []) []) ≡ Some end
        → (length end.places ≡ length here.places) × (place_of end t ≡ place_of here t)
    by_test false made = let same = Some-injective here end made in
        (ap (λ (w : World). length w.places) (sym same), ap (λ (w : World). place_of w t) (sym same))
    by_test true made =
        let m = first_made shape here (event t (Some Seal)) end [] made in
        let same = Some-injective m.0 end m.1.1.1 in
        elim (stepped shape here (event t (Some Seal)) m.0 m.1.0 m.1.1.0) [
          | inl s ↦ absurd (no_going_seal shape (place_of here t) (Some Seal) s.running refl s.goes)
          | inr o ↦ (
            ap (λ (w : World). length w.places) (sym same) ∙ ap length o.stays,
            ap (λ (w : World). place_of w t) (sym same) ∙ o.leaves t,
          )
        ]

-- after a seal that was tried the thread is in no call
pub tried : {T : Type 0} (sought word : ℕ) (old new : Me (Option T) (View T)) → IsAt None old → new.1 ≡ old.1
    → TriesSeal sought old.0 word new.0 → IsAt None new
tried {T} sought word old new idle slots d =
    let v = old.0 in
    let t = thread_of v in
    let shape = v.opened.shape in
    let all = (seen_of v ++ d.between) ++ d.seal in
    let gifts = gifts_of v ++ d.given in
    let onward : run shape (Some idle.here) d.between ≡ Some d.here =
    sym (run_on shape (Some (opening shape v.opened.threads)) idle.here (seen_of v) d.between idle.reached)
    ∙ d.reached in
    let still = still_threads shape idle.here d.here d.between onward in
    let there : place_of d.here t ≡ None = same_place shape idle.here d.here d.between t d.others onward
    ∙ idle.place_is in
    let stays = seal_stays shape d.here d.end t (word == sought) d.seal d.seal_is d.made in
    let at : IsAt None (with_seen v all gifts (hand_of v), new.1) = record {
      here = d.end;
      seated = refl;
      reached = run_on shape (Some (opening shape v.opened.threads)) d.here (seen_of v ++ d.between) d.seal d.reached
          ∙ d.made;
      within = let w = idle.within in let s = stays.0 in omega arith;
      place_is = stays.1 ∙ there;
      carries = (idle.carries.0, slots ∙ idle.carries.1);
    } in
    subst (λ (x : View T). IsAt None (x, new.1)) (sym d.afterwards) at

-- where nothing was tried the view is as it was
pub untried : {T : Type 0} (me : Me (Option T) (View T)) → IsAt None me
    → me.0 ≡ with_seen me.0 (seen_of me.0) (gifts_of me.0 ++ []) (hand_of me.0)
untried me idle = idle.seated ∙ ap (λ gifts. with_seen me.0 (seen_of me.0) gifts (hand_of me.0))
    (sym (append-nil (gifts_of me.0)))

-- a pass whose view has seen more, with more gifts, is still a pass
pub pass_on : {T : Type 0} (given : Gifts T) (thread : ℕ) (old new : Me (Option T) (View T)) → IsPass thread old
    → new.1 ≡ old.1
    → IsAt None new → new.0 ≡ with_seen old.0 (seen_of new.0) (gifts_of old.0 ++ given) (hand_of old.0)
    → IsPass thread new
pass_on {T} given thread old new p slots idle on =
    let all = seen_of new.0 in
    let gifts = gifts_of old.0 ++ given in
    let is : new.0 ≡ view_of old.0.opened (part thread all gifts (hand_of old.0) ∷ []) = on
    ∙ alone_with thread old all gifts (hand_of old.0) p in
    record {
      alone = ap (λ v. v.parts) is
          ∙ (λ i. part thread (sym (ap seen_of is) i) (sym (ap gifts_of is) i) (sym (ap hand_of is) i) ∷ []);
      held = slots ∙ p.held;
      idle = idle;
      few = few_same old.0 new.0 (part thread all gifts (hand_of old.0) ∷ []) is p.few;
    }

-- where it was won the ends are sealed
seal_made : (shape : Shape) (threads : ℕ) (seen : List Event) (here end : World) (t : ℕ) → IsSound shape here
    → run shape (Some here) (event t (Some Seal) ∷ []) ≡ Some end → IsSealed shape (word_at end 0)
seal_made shape threads seen here end t safe made =
    let m = first_made shape here (event t (Some Seal)) end [] made in
    let same = Some-injective m.0 end m.1.1.1 in
    elim (stepped shape here (event t (Some Seal)) m.0 m.1.0 m.1.1.0) [
      | inl s ↦ absurd (no_going_seal shape (place_of here t) (Some Seal) s.running refl s.goes)
      | inr o ↦ elim o.by [
        | inl k ↦ absurd (let e = k.begins in cc)
        | inr z ↦
            let word = ap (λ (w : World). word_at w 0) (sym same ∙ z.there_is) ∙ sealed-ends shape here safe in
            let k = sealed-same shape (word_at here 0) in
            record {
              together = ap head_of word ∙ k.0 ∙ (sealable shape (word_at here 0) z.may).0 ∙ sym k.1
                  ∙ ap tail_of (sym word);
              last = ap version_of word ∙ k.2;
            }
      ]
    ]

-- its gifts are those of before and more, in turn
pub tries_gifts : {T : Type 0} {sought word : ℕ} {v w : View T} (d : TriesSeal sought v word w)
    → w ≡ with_seen v (seen_of w) (gifts_of v ++ d.given) (hand_of v)
tries_gifts {T} {sought} {word} {v} {w} d =
    d.afterwards ∙ ap (λ es. with_seen v es (gifts_of v ++ d.given) (hand_of v)) (sym (ap seen_of d.afterwards))

pub tries_fit : {T : Type 0} {sought word : ℕ} {v w : View T} → TriesSeal sought v word w
    → GiftsFit v.opened (seen_of w) (gifts_of w)
tries_fit {T} {sought} {word} {v} {w} d = subst (λ (x : View T). GiftsFit v.opened (seen_of x) (gifts_of x))
    (sym d.afterwards) d.in_turn

pub tries_won : {T : Type 0} (sought word : ℕ) (v w : View T) → TriesSeal sought v word w → word ≡ sought
    → SealsFrom v.opened (thread_of v) sought (seen_of v) (seen_of w)
tries_won {T} sought word v w d won =
    let shape = v.opened.shape in
    let threads = v.opened.threads in
    let e = event (thread_of v) (Some Seal) in
    let one : d.seal ≡ e ∷ [] = d.seal_is ∙ ap (λ b. cond b (e ∷ []) []) (eq-eqb word sought won) in
    let made : run shape (Some d.here) (e ∷ []) ≡ Some d.end = ap (run shape (Some d.here)) (sym one) ∙ d.made in
    record {
      rest = d.between;
      seals = e ∷ [];
      here = d.here;
      end = d.end;
      others = d.others;
      split = ap seen_of d.afterwards ∙ ap (λ es. (seen_of v ++ d.between) ++ es) one;
      all_seal = (refl, tt);
      reached = d.reached;
      word_is = sym d.word_is ∙ won;
      ends_at = ap (world_after v.opened) (ap seen_of d.afterwards)
          ∙ run_on shape (Some (opening shape threads)) d.here (seen_of v ++ d.between) d.seal d.reached ∙ d.made;
      sealed = seal_made shape threads (seen_of v ++ d.between) d.here d.end (thread_of v)
          (sound shape threads (seen_of v ++ d.between) d.here d.reached) made;
    }

-- where it was lost they had moved
pub tries_lost : {T : Type 0} (sought word : ℕ) (v w : View T) → TriesSeal sought v word w → (word == sought) ≡ false
    → FailsToSeal v.opened (thread_of v) sought (seen_of v) (seen_of w)
tries_lost {T} sought word v w d lost =
    let none : d.seal ≡ [] = d.seal_is ∙ ap (λ b. cond b (event (thread_of v) (Some Seal) ∷ []) []) lost in
    let seen : seen_of w ≡ seen_of v ++ d.between =
    ap seen_of d.afterwards ∙ ap (λ es. (seen_of v ++ d.between) ++ es) none ∙ append-nil (seen_of v ++ d.between) in
    record {
      others = record { rest = d.between; goes_on = seen; no_own = d.others };
      why = inr (
        d.here,
        ap (world_after v.opened) seen ∙ d.reached,
        λ same. false≢true (sym lost ∙ eq-eqb word sought (d.word_is ∙ same)),
      );
    }

-- ends that are sealed already
pub sealed_before : (o : Opening) (thread ends : ℕ) (seen : List Event) → WasSeen o ends seen → IsSealed o.shape ends
    → SealsFrom o thread ends seen seen
sealed_before o thread ends seen s sealed =
    let shape = o.shape in
    let safe : IsSound shape s.world = sound shape o.threads s.before s.world s.reached in
    let on : run shape (Some s.world) s.rest ≡ Some s.now =
    sym (run_on shape (Some (opening shape o.threads)) s.world s.before s.rest s.reached)
    ∙ ap (world_after o) (sym s.split) ∙ s.seen_at in
    let stands : word_at s.now 0 ≡ ends =
    run_stands shape s.world s.now s.rest safe on (ap version_of (sym s.word_is) ∙ sealed.last) ∙ sym s.word_is in
    record {
      rest = [];
      seals = [];
      here = s.now;
      end = s.now;
      others = refl;
      split = sym (append-nil (seen ++ []) ∙ append-nil seen);
      all_seal = tt;
      reached = ap (world_after o) (append-nil seen) ∙ s.seen_at;
      word_is = stands;
      ends_at = s.seen_at;
      sealed = subst (IsSealed shape) (sym stands) sealed;
    }

-- a complete execution after events of others is one from before them
pub whole_from : {shape : Shape} {threads thread : ℕ} {call : Begin} {answer : Answer} {old looked made : List Event}
    → Begins thread old looked → CompleteExecution shape threads thread call answer looked made
    → CompleteExecution shape threads thread call answer old made
whole_from {shape} {threads} {thread} {call} {answer} {old} {looked} {made} b whole =
    let so_far : looked ++ whole.between ≡ old ++ (b.rest ++ whole.between) =
    ap (λ es. es ++ whole.between) b.goes_on ∙ append_assoc old b.rest whole.between in
    let mine : own thread ((b.rest ++ whole.between) ++ whole.last ∷ [])
    ≡ own thread (whole.between ++ whole.last ∷ []) =
    ap (own thread) (append_assoc b.rest whole.between (whole.last ∷ []))
    ∙ own-append thread b.rest (whole.between ++ whole.last ∷ [])
    ∙ ap (λ es. es ++ own thread (whole.between ++ whole.last ∷ [])) b.no_own in
    record {
      between = b.rest ++ whole.between;
      last = whole.last;
      before = whole.before;
      world = whole.world;
      new_is = whole.new_is ∙ ap (λ es. es ++ whole.last ∷ []) so_far;
      last_own = whole.last_own;
      one_call = subst (BeginsOnce thread call) (sym mine) whole.one_call;
      reached = ap (after shape threads) (sym so_far) ∙ whole.reached;
      ends = whole.ends;
    }

-- what a look found was seen when a complete execution has followed it
pub seen_before : (o : Opening) {thread ends : ℕ} {call : Begin} {answer : Answer} {looked made : List Event}
    {world : World}
    → world_after o looked ≡ Some world → ends ≡ word_at world 0
    → CompleteExecution o.shape o.threads thread call answer looked made → WasSeen o ends made
seen_before o {thread} {ends} {call} {answer} {looked} {made} {world} reached is whole = record {
  before = looked;
  rest = whole.between ++ whole.last ∷ [];
  world = world;
  split = whole.new_is ∙ append_assoc looked whole.between (whole.last ∷ []);
  reached = reached;
  word_is = is;
  now = whole.world;
  seen_at =
      ap (world_after o) whole.new_is
      ∙ after-snoc o.shape o.threads (looked ++ whole.between) whole.before whole.last whole.reached
      ∙ ap world_of whole.ends;
}

-- A dequeue that returned Empty, between a look that found these ends and a seal from them
pub sealed_empty : (o : Opening) (thread : ℕ) (call : Begin) (looked made all : List Event) (ends : ℕ) (world : World)
    → world_after o looked ≡ Some world → ends ≡ word_at world 0
    → CompleteExecution o.shape o.threads thread call Empty looked made → {owner : ℕ} → SealsFrom o owner ends made all
    → SealedEmpty o.shape o.threads all
sealed_empty o thread call looked made all ends world reached is whole {owner} f =
    let shape = o.shape in
    let start = Some (opening shape o.threads) in
    let found = made ++ f.rest in
    let split : found ≡ (looked ++ whole.between) ++ whole.last ∷ f.rest =
    ap (λ es. es ++ f.rest) whole.new_is ∙ append_assoc (looked ++ whole.between) (whole.last ∷ []) f.rest in
    let safe : IsSound shape world = sound shape o.threads looked world reached in
    let to_empty : run shape (Some world) whole.between ≡ Some whole.before =
    sym (run_on shape start world looked whole.between reached) ∙ whole.reached in
    let to_end : run shape (Some whole.before) (whole.last ∷ f.rest) ≡ Some f.here =
    sym (run_on shape start whole.before (looked ++ whole.between) (whole.last ∷ f.rest) whole.reached)
    ∙ ap (world_after o) (sym split) ∙ f.reached in
    let low : word_at world 0 ≤ word_at whole.before 0 = run_rises shape world whole.before whole.between 0 safe
    to_empty in
    let high : word_at whole.before 0 ≤ word_at f.here 0 =
    run_rises shape whole.before f.here (whole.last ∷ f.rest) 0
    (sound shape o.threads (looked ++ whole.between) whole.before whole.reached) to_end in
    let word = f.word_is in
    record {
      found = found;
      seals = f.seals;
      here = f.end;
      split = f.split;
      was_empty = record {
        earlier = looked ++ whole.between;
        empty = whole.last;
        later = f.rest;
        here = whole.before;
        next = whole.world;
        there = f.here;
        split = split;
        reached = whole.reached;
        answers = whole.ends;
        ends_at = f.reached;
        stands = omega arith;
      };
      all_seal = f.all_seal;
      reached = f.ends_at;
      sealed = f.sealed;
    }
