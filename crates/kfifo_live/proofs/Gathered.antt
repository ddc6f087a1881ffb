-- The seats of all passes, put together.
use Rattle.std.proofs.Common.{◌≡◌, ℕ, zero, suc, ◌+◌, List, [], ◌∷◌, ◌++◌, Option, Some, None, take, get_or, ◌<◌, ◌≤◌}
use Rattle.std.proofs.Common.{sym, ap, ◌∙◌, subst, arith}
use mathlib.Core.Option.{some, some-ne-none, some-injective}
use lib.ListN.{get_elem?}
use Rattle.atomic_table.specs.Table.{Me, State, Final, Seen}
use Rattle.kfifo_words.specs.Words.{head_of}
use Rattle.kfifo_machine.specs.Machine.{World, place_of, word_at}
use Rattle.kfifo_machine.proofs.Sound.{sound_ends}
use Rattle.kfifo_live.proofs.Types.{Event, Opening, Part, View}
use Rattle.kfifo_machine.specs.Runs.{Begins}
use Rattle.kfifo_live.specs.Hands.{Gifts}
use Rattle.kfifo_live.specs.Payloads.{EndsIn, PayPassView, passes_of}
use Rattle.kfifo_live.specs.Schedule.{world_after, gifts_of, seen_of, AllBegin, AllGiven, OneSchedule}
use Rattle.kfifo_live.specs.Left.{items_left}
use Rattle.kfifo_live.specs.Balance.{times, undos, takes}
use Rattle.kfifo_live.specs.Pass.{OpenQueue, PassView, IsPass, AllSeen, IsJoined, Closes, IsComplete, AllIdle}
use Rattle.kfifo_live.proofs.Balance.{balance}
use Rattle.kfifo_live.proofs.Passes.{keeps_promise, pass_thread}
use Rattle.kfifo_live.proofs.ClosedEmpty.{sealed_closes}
use Rattle.kfifo_machine.proofs.Schedules.{Some-injective}

pub all_seen_push : (ps : List PassView) (p : PassView) (all : List Event) → AllSeen ps all → Begins p.thread p.seen all
    → AllSeen (ps ++ p ∷ []) all
all_seen_push [] p all s b = (b, tt)
all_seen_push (x ∷ ps) p all s b = (s.0, all_seen_push ps p all s.1 b)

pub all_begin_parts : {T : Type 0} (xs ys : List (Part T)) (all : List Event) → AllBegin (xs ++ ys) all
    → AllBegin xs all × AllBegin ys all
all_begin_parts [] ys all b = (tt, b)
all_begin_parts (x ∷ xs) ys all b = let r = all_begin_parts xs ys all b.1 in ((b.0, r.0), r.1)

pub all_given_parts : {T : Type 0} (xs ys : List (Part T)) (gifts : Gifts T) → AllGiven (xs ++ ys) gifts
    → AllGiven xs gifts × AllGiven ys gifts
all_given_parts [] ys gifts g = (tt, g)
all_given_parts (x ∷ xs) ys gifts g = let r = all_given_parts xs ys gifts g.1 in ((g.0, r.0), r.1)

pub all_idle_push : (o : Opening) (ps : List PassView) (p : PassView) → AllIdle o ps
    → ((here : World) → world_after o p.seen ≡ Some here → place_of here p.thread ≡ None) → AllIdle o (ps ++ p ∷ [])
all_idle_push o [] p idle mine = (mine, tt)
all_idle_push o (x ∷ ps) p idle mine = (idle.0, all_idle_push o ps p idle.1 mine)

pub pays_idle_push : {T : Type 0} (o : Opening) (ps : List (PayPassView T)) (p : PayPassView T)
    → AllIdle o (passes_of ps)
    → ((here : World) → world_after o p.pass.seen ≡ Some here → place_of here p.pass.thread ≡ None)
    → AllIdle o (passes_of (ps ++ p ∷ []))
pays_idle_push o [] p idle mine = (mine, tt)
pays_idle_push o (x ∷ ps) p idle mine = (idle.0, pays_idle_push o ps p idle.1 mine)

-- a pass is in no call
pub pass_idle : {T : Type 0} (o : Opening) (thread : ℕ) (me : Me (Option T) (View T)) (p : PassView) → IsPass thread me
    → me.0.opened ≡ o → p.thread ≡ thread → p.seen ≡ seen_of me.0 → (here : World) → world_after o p.seen ≡ Some here
    → place_of here p.thread ≡ None
pass_idle o thread me p is opened same_thread same_seen here reached =
    let same : is.idle.here ≡ here = Some-injective is.idle.here here
    (sym is.idle.reached ∙ (λ k. world_after (opened k) (sym same_seen k)) ∙ reached) in
    (λ k. place_of (sym same k) ((same_thread ∙ sym (pass_thread thread me is)) k)) ∙ is.idle.place_is

-- the one part of a pass
pub pass_begins : {T : Type 0} (thread : ℕ) (me : Me (Option T) (View T)) (p : PassView) (all : List Event)
    → IsPass thread me
    → p.thread ≡ thread → p.seen ≡ seen_of me.0 → AllBegin me.0.parts all → Begins p.thread p.seen all
pass_begins {T} thread me p all is same_thread same_seen b =
    let one = subst (λ (ps : List (Part T)). AllBegin ps all) is.alone b in
    subst (λ (x : ℕ × List Event). Begins x.0 x.1 all) (λ i. (sym same_thread i, sym same_seen i)) one.0

pub pass_ends : {T : Type 0} (thread : ℕ) (me : Me (Option T) (View T)) (p : PayPassView T) (all : List Event)
    (gifts : Gifts T)
    → IsPass thread me → p.pass.thread ≡ thread → p.pass.seen ≡ seen_of me.0 → p.gifts ≡ gifts_of me.0
    → AllBegin me.0.parts all
    → AllGiven me.0.parts gifts → EndsIn all gifts p
pass_ends {T} thread me p all gifts is same_thread same_seen same_gifts b g =
    let one = (subst (λ (ps : List (Part T)). AllGiven ps gifts) is.alone g).0 in (
      pass_begins thread me p.pass all is same_thread same_seen b,
      (one.0, one.1 ∙ ap (λ gs. gs ++ one.0) (sym same_gifts)),
    )

pub closes : {T : Type 0} (q : OpenQueue) (ps : List PassView) (items table_words : List ℕ) (slots : List (Option T))
    (key : Opening) (id : ℕ) (v w : View T) (rest : List PassView) (last : PassView)
    → key ≡ q.opened → ps ≡ rest ++ last ∷ [] → IsJoined v rest w → IsComplete q.opened.threads ps
    → ((here : World) → world_after q.opened last.seen ≡ Some here → place_of here last.thread ≡ None)
    → ((all : List Event) → AllBegin v.parts all → Begins last.thread last.seen all)
    → q.opened.threads ≤ 64 → items ≡ items_left q.opened.shape table_words
    → Final (Seen (λ (s : State (Option T) (View T)). OneSchedule key s.words s.homes s.views) id w) table_words slots
    → Closes q ps items
closes q ps items table_words slots key id v w rest last opened ps_are gathered complete last_idle of_last few same f =
    let kept = f.1.0 in
    let parts = (kept.fit id w f.1.1).begin in
    let seen = gathered.all_seen kept.all parts in
    let reached : world_after q.opened kept.all ≡ Some kept.world =
    ap (λ (o : Opening). world_after o kept.all) (sym opened) ∙ kept.runs in
    let items_are : items ≡ items_left q.opened.shape kept.world.words = same
    ∙ ap (items_left q.opened.shape) (sym f.2 ∙ kept.words_are) in
    let all_seen : AllSeen ps kept.all = subst (λ (xs : List PassView). AllSeen xs kept.all) (sym ps_are)
    (all_seen_push rest last kept.all seen.1 (of_last kept.all seen.0)) in
    let same_opened : v.opened ≡ q.opened = sym gathered.opened ∙ (kept.fit id w f.1.1).opened ∙ opened in
    let idle : AllIdle q.opened ps = subst (AllIdle q.opened) (sym ps_are)
    (all_idle_push q.opened rest last (subst (λ (o : Opening). AllIdle o rest) same_opened gathered.all_idle)
    last_idle) in
    record {
      all = kept.all;
      world = kept.world;
      reached = reached;
      begin = all_seen;
      items_are = items_are;
      balance = λ item. balance q.opened kept.all kept.world item reached
          ∙ ap (λ xs. undos item q.opened kept.all + (takes item q.opened kept.all + times item xs)) (sym items_are);
      promise = keeps_promise q.opened kept.all kept.world few reached;
      sealed = λ one. items_are ∙ sealed_closes q.opened ps kept.all kept.world few reached all_seen idle
          complete.each one;
    }

-- the ends word of a closed table names segments
pub final_head : {T : Type 0} (slots : List (Option T)) (words : List ℕ) (o : Opening) (id : ℕ) (w : View T)
    → Final (Seen (λ (s : State (Option T) (View T)). OneSchedule o s.words s.homes s.views) id w) words slots
    → head_of (get_or words 0 0) < o.shape.n
unfolding word_at
final_head slots words o id w f =
    let kept = f.1.0 in
    let ends = sound_ends o.shape o.threads kept.all kept.world kept.runs in
    subst (λ (ws : List ℕ). head_of (get_or ws 0 0) < o.shape.n) (sym kept.words_are ∙ f.2) ends.head

pub take_next : {A : Type 0} (xs : List A) (i : ℕ) (x : A) → get_elem? xs i ≡ some x
    → take (i + 1) xs ≡ take i xs ++ x ∷ []
take_next xs i x e = ap (λ (n : ℕ). take n xs) (let s : i + 1 ≡ suc i = omega arith in s) ∙ next xs i x e
  where
    next : {A : Type 0} (xs : List A) (i : ℕ) (x : A) → get_elem? xs i ≡ some x → take (suc i) xs ≡ take i xs ++ x ∷ []
    next [] i x e = absurd (some-ne-none x (sym e))
    next (y ∷ ys) zero x e = ap (λ z. z ∷ []) (some-injective y x e)
    next (y ∷ ys) (suc i) x e = ap (λ zs. y ∷ zs) (next ys i x e)
