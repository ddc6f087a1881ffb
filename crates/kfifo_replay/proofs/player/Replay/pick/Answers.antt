-- A pick makes its event, and the replay stands for one pick more.
use Rattle.std.proofs.Common.{◌≡◌, ℕ, ◌+◌, ◌<◌, ◌≤◌, List, [], ◌∷◌, ◌++◌, length, get_or, set, Option, None, Bool, true}
use Rattle.std.proofs.Common.{false, cond, refl, sym, ◌∙◌, ap, subst, arith, length-append}
use Rattle.std.specs.Prelude.{slice_get, is_some}
use Rattle.std.specs.Int.{from_bool}
use Rattle.std.proofs.lemmas.Grind.{get_or_default_zero}
use Rattle.kfifo_replay.proofs.Types.{Begin, Event, Running, Shape}
use Rattle.kfifo_machine.specs.Machine.{place_of}
use Rattle.kfifo_machine.specs.Calls.{logged}
use Rattle.kfifo_linear.specs.Following.{Follows}
use Rattle.kfifo_replay.specs.Scripts.{calls_in}
use Rattle.kfifo_replay.specs.Picks.{script_of, event_at}
use Rattle.kfifo_replay.specs.Player.{Player, StandsFor, is_undoing, takes_back}
use Rattle.kfifo_replay.specs.contracts.player.Replay.{the_view}
use Rattle.kfifo_replay.proofs.Picking.{sees, few_steps, few_rollbacks, is_refused, thread_within, enabled, goes}
use Rattle.kfifo_replay.proofs.Picking.{room_for_call, room_in_book, thread_in_book, call_in_book, few_begun, stands_on}
use Rattle.kfifo_replay.proofs.player.Replay.pick.Goals as goal

-- a test as a number
from_bool-cond : (b : Bool) → from_bool b ≡ cond b 1 0
from_bool-cond true = refl
from_bool-cond false = refl

from_bool-le : (b : Bool) → from_bool b ≤ 1
from_bool-le true = omega arith
from_bool-le false = omega arith

-- the event is the one that the replay sees
seen : (p q : Player) (thread : ℕ) (place : Option Running) (found : Option Event) → p ≡ q
    → place ≡ place_of p.follower.world thread
    → found ≡ event_at thread place (slice_get (script_of q.scripts thread) (get_or q.begun thread 0))
    → sees p thread ≡ found
seen p q thread place found same at is =
    ap (λ (r : Option Running). event_at thread r (slice_get (script_of p.scripts thread) (get_or p.begun thread 0)))
    (sym at)
    ∙ ap (λ (x : Player). event_at thread place (slice_get (script_of x.scripts thread) (get_or x.begun thread 0))) same
    ∙ sym is

none_seen : (c : goal.In_default) → sees (the_view c.self.inside) c.args.thread ≡ None
none_seen c = seen (the_view c.self.inside) c.args.self.now c.args.thread c.place-place.result c.event.result
    c.self.view_is c.place-place.ensures.place c.event.ensures ∙ c.in_default.is

pub returns-in_default-clause-refused : goal.returns-in_default-clause-refused
returns-in_default-clause-refused c isnt shape scripts earlier stands =
    is_refused shape scripts earlier (the_view c.self.inside)
    (subst (StandsFor shape scripts earlier) (sym c.self.view_is) stands)
    c.args.thread (none_seen c)

pub returns-in_default-clause-few : goal.returns-in_default-clause-few
returns-in_default-clause-few c =
    let i = c.self.invariant in
    let few = few_steps i.shape i.scripts i.picks (the_view c.self.inside) i.stands in
    let same : (the_view c.self.inside).follower.notes.step ≡ c.args.self.now.follower.notes.step =
    ap (λ (p : Player). p.follower.notes.step) c.self.view_is in
    omega (arith, few, same)

pub make-outcome-requires-clause-shape : goal.make-outcome-requires-clause-shape
make-outcome-requires-clause-shape c = let i = c.self.invariant in i.stands.shape_is ∙ sym i.stands.follower_shape

pub make-outcome-requires-clause-enabled : goal.make-outcome-requires-clause-enabled
make-outcome-requires-clause-enabled c =
    let i = c.self.invariant in
    enabled i.shape i.scripts i.picks (the_view c.self.inside) i.stands c.args.thread c.in-Some.event
    (seen (the_view c.self.inside) c.args.self.now c.args.thread c.place-place.result c.event.result c.self.view_is
    c.place-place.ensures.place c.event.ensures ∙ c.in-Some.is)

pub make-outcome-requires-clause-goes : goal.make-outcome-requires-clause-goes
make-outcome-requires-clause-goes c =
    let i = c.self.invariant in
    goes i.shape i.scripts i.picks (the_view c.self.inside) i.stands c.args.thread c.in-Some.event
    (seen (the_view c.self.inside) c.args.self.now c.args.thread c.place-place.result c.event.result c.self.view_is
    c.place-place.ensures.place c.event.ensures ∙ c.in-Some.is)

pub make-outcome-requires-clause-steps : goal.make-outcome-requires-clause-steps
make-outcome-requires-clause-steps c = let i = c.self.invariant in
    omega (arith, few_steps i.shape i.scripts i.picks (the_view c.self.inside) i.stands)

pub make-outcome-requires-clause-room : goal.make-outcome-requires-clause-room
make-outcome-requires-clause-room c begins =
    let i = c.self.invariant in
    room_for_call i.shape i.scripts i.picks (the_view c.self.inside) i.stands c.args.thread c.in-Some.event
    (seen (the_view c.self.inside) c.args.self.now c.args.thread c.place-place.result c.event.result c.self.view_is
    c.place-place.ensures.place c.event.ensures ∙ c.in-Some.is) begins

pub note-requires-clause-thread : goal.note-requires-clause-thread
note-requires-clause-thread c =
    let i = c.self.invariant in
    thread_in_book i.shape i.scripts i.picks (the_view c.self.inside) i.stands c.args.thread c.in-Some.event
    (seen (the_view c.self.inside) c.args.self.now c.args.thread c.place-place.result c.event.result c.self.view_is
    c.place-place.ensures.place c.event.ensures ∙ c.in-Some.is)

pub note-requires-clause-room : goal.note-requires-clause-room
note-requires-clause-room c begins =
    let i = c.self.invariant in
    room_in_book i.shape i.scripts i.picks (the_view c.self.inside) i.stands c.args.thread c.in-Some.event
    (seen (the_view c.self.inside) c.args.self.now c.args.thread c.place-place.result c.event.result c.self.view_is
    c.place-place.ensures.place c.event.ensures ∙ c.in-Some.is) begins

pub note-requires-clause-call : goal.note-requires-clause-call
note-requires-clause-call c answer none ended =
    let i = c.self.invariant in
    call_in_book i.shape i.scripts i.picks (the_view c.self.inside) i.stands c.args.thread c.in-Some.event
    (seen (the_view c.self.inside) c.args.self.now c.args.thread c.place-place.result c.event.result c.self.view_is
    c.place-place.ensures.place c.event.ensures ∙ c.in-Some.is) none

pub index_mut-requires : goal.index_mut-requires
index_mut-requires c =
    let i = c.self.invariant in
    let within = thread_within i.shape i.scripts i.picks (the_view c.self.inside) i.stands c.args.thread c.in-Some.event
    (seen (the_view c.self.inside) c.args.self.now c.args.thread c.place-place.result c.event.result c.self.view_is
    c.place-place.ensures.place c.event.ensures ∙ c.in-Some.is) in
    grind (arith, within)

pub overflow_add-index_mut : goal.overflow_add-index_mut
overflow_add-index_mut c =
    let i = c.self.invariant in
    let few = few_begun i.shape i.scripts i.picks (the_view c.self.inside) i.stands c.args.thread c.in-Some.event
    (seen (the_view c.self.inside) c.args.self.now c.args.thread c.place-place.result c.event.result c.self.view_is
    c.place-place.ensures.place c.event.ensures ∙ c.in-Some.is) in
    let within = thread_within i.shape i.scripts i.picks (the_view c.self.inside) i.stands c.args.thread c.in-Some.event
    (seen (the_view c.self.inside) c.args.self.now c.args.thread c.place-place.result c.event.result c.self.view_is
    c.place-place.ensures.place c.event.ensures ∙ c.in-Some.is) in
    let value : c.index_mut.result.now ≡ get_or c.self.inside.begun.items c.args.thread 0 =
    c.index_mut.ensures.value ∙ get_or_default_zero c.self.inside.begun.items c.args.thread c.index_mut.result.now
    within in
    let one : c.from.result ≤ 1 = subst (λ n. n ≤ 1) (sym c.from.ensures) (from_bool-le c.is_some.result) in
    omega (arith, few, value, one)

pub overflow_add-self : goal.overflow_add-self
overflow_add-self c =
    let i = c.self.invariant in
    let few = few_rollbacks i.shape i.scripts i.picks (the_view c.self.inside) i.stands in
    let one : c.from-2.result ≤ 1 = subst (λ n. n ≤ 1) (sym c.from-2.ensures) (from_bool-le c.takes_back.result) in
    omega (arith, few, one)

-- the replay stands for one pick more
stands_then : (c : goal.After-self-2-1) (shape : Shape) (scripts : List (List Begin)) (earlier : List ℕ)
    → StandsFor shape scripts earlier (the_view c.self.inside)
    → StandsFor shape scripts (earlier ++ c.args.thread ∷ [])
    (record {
      shape = (the_view c.self.inside).shape;
      scripts = (the_view c.self.inside).scripts;
      follower = c.make-outcome.new.linearizer;
      begun = set c.self.inside.begun.items c.args.thread (c.index_mut.result.now + c.from.result);
      book = c.note.new.self;
      rollbacks = c.self.inside.rollbacks + c.from-2.result;
      trace = c.make-outcome.new.trace;
    })
stands_then c shape scripts earlier stands =
    stands_on shape scripts earlier (the_view c.self.inside) stands c.args.thread c.in-Some.event
    (seen (the_view c.self.inside) c.args.self.now c.args.thread c.place-place.result c.event.result c.self.view_is
    c.place-place.ensures.place c.event.ensures ∙ c.in-Some.is)
    c.make-outcome.new.linearizer.world c.make-outcome.result c.make-outcome.ensures.made c.make-outcome.new.linearizer
    c.note.new.self
    (set c.self.inside.begun.items c.args.thread (c.index_mut.result.now + c.from.result))
    (c.self.inside.rollbacks + c.from-2.result)
    c.make-outcome.new.trace
    c.make-outcome.ensures.shape
    (c.make-outcome.ensures.follows (length scripts) (calls_in scripts) stands.events stands.follows)
    (c.note.ensures.log ∙ ap (λ n. logged n c.in-Some.event.thread c.in-Some.event.begin c.make-outcome.result
    c.self.inside.book.log)
    c.steps-step.ensures)
    c.note.ensures.room
    (ap (set c.self.inside.begun.items c.args.thread)
    (ap (λ n. n + c.from.result) value ∙ ap (λ n. get_or c.self.inside.begun.items c.args.thread 0 + n) began))
    (ap (λ n. c.self.inside.rollbacks + n) undone)
    c.make-outcome.ensures.trace
  where
    within : c.args.thread < length c.self.inside.begun.items
    within =
        thread_within shape scripts earlier (the_view c.self.inside) stands c.args.thread c.in-Some.event
        (seen (the_view c.self.inside) c.args.self.now c.args.thread c.place-place.result c.event.result c.self.view_is
        c.place-place.ensures.place c.event.ensures ∙ c.in-Some.is)

    value : c.index_mut.result.now ≡ get_or c.self.inside.begun.items c.args.thread 0
    value = c.index_mut.ensures.value ∙ get_or_default_zero c.self.inside.begun.items c.args.thread
        c.index_mut.result.now within

    began : c.from.result ≡ cond (is_some c.in-Some.event.begin) 1 0
    began = c.from.ensures ∙ from_bool-cond c.is_some.result ∙ ap (λ b. cond {A = ℕ} b 1 0) c.is_some.ensures

    undone : c.from-2.result
        ≡ cond (takes_back (is_undoing (place_of c.self.inside.linearizer.world c.args.thread))
        c.make-outcome.result) 1 0
    undone =
        c.from-2.ensures
        ∙ from_bool-cond c.takes_back.result
        ∙ ap (λ b. cond {A = ℕ} b 1 0) (c.takes_back.ensures
        ∙ ap (λ b. takes_back b c.make-outcome.result)
        (c.is_undoing-undoing.ensures ∙ ap is_undoing c.place-place.ensures.place))

pub invariant_of-self : goal.invariant_of-self
invariant_of-self c =
    let i = c.self.invariant in
    record {
      shape = i.shape;
      scripts = i.scripts;
      picks = i.picks ++ c.args.thread ∷ [];
      stands = stands_then c i.shape i.scripts i.picks i.stands;
    }

pub returns-clause-made : goal.returns-clause-made
returns-clause-made c isnt shape scripts earlier stands =
    stands_then c shape scripts earlier (subst (StandsFor shape scripts earlier) (sym c.self.view_is) stands)

pub returns-clause-steps : goal.returns-clause-steps
returns-clause-steps c is =
    let i = c.self.invariant in
    let follows : Follows (length i.scripts) (calls_in i.scripts) (i.stands.events ++ c.in-Some.event ∷ [])
    c.make-outcome.new.linearizer =
    c.make-outcome.ensures.follows (length i.scripts) (calls_in i.scripts) i.stands.events i.stands.follows in
    let more : length (i.stands.events ++ c.in-Some.event ∷ []) ≡ length i.stands.events + 1 =
    length-append i.stands.events (c.in-Some.event ∷ []) in
    let same : (the_view c.self.inside).follower.notes.step ≡ c.args.self.now.follower.notes.step =
    ap (λ (p : Player). p.follower.notes.step) c.self.view_is in
    omega (arith, follows.steps, more, i.stands.follows.steps, same)

pub returns-clause-few : goal.returns-clause-few
returns-clause-few c =
    let i = c.self.invariant in
    omega (
      arith,
      few_steps i.shape i.scripts (i.picks ++ c.args.thread ∷ []) _
          (stands_then c i.shape i.scripts i.picks i.stands),
    )
