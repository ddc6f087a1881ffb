-- A stamped call adds one call to the log, and nothing else.
use Rattle.std.proofs.Common.{◌≡◌, ◌≢◌, ℕ, ◌+◌, ◌*◌, ◌<◌, ◌≤◌, List, [], ◌∷◌, ◌++◌, length, filter, drop, Option, Some}
use Rattle.std.proofs.Common.{None, Ok, false, refl, sym, ap, ◌∙◌, subst, inl, inr, arith, append_assoc, cond}
use Rattle.std.proofs.Common.{length-append}
use Rattle.std.proofs.Math.ListN.{get_or-append}
use Rattle.std.proofs.Math.Seq.{drop-append_seam, get_or-append_seam}
use Rattle.std.proofs.lemmas.Bool.{cases_eq, cases_lt}
use Rattle.std.proofs.lemmas.List.{append-nil}
use Rattle.kfifo_words.specs.Ring.{clock_at}
use Rattle.kfifo_live.proofs.Types.{Answer, Begin, Call, Event, Opening}
use Rattle.kfifo_model.specs.declared.calls.End.{End}
use Rattle.std.specs.List.{AllByRecursion}
use Rattle.kfifo_model.specs.Lists.{EachPair}
use Rattle.kfifo_model.specs.Histories.{call, no_call, EndsBelow}
use Rattle.kfifo_model.proofs.Lists.{AllByRecursion-push, AllByRecursion-weaker}
use Rattle.kfifo_machine.specs.declared.event.Begin.TheVariants.{Tick}
use Rattle.kfifo_machine.specs.declared.event.Outcome.TheVariants.{Went}
use Rattle.kfifo_machine.specs.Laws.{most_events}
use Rattle.kfifo_machine.specs.Machine.{World, opening, step, ticked, word_at}
use Rattle.kfifo_machine.specs.Calls.{op_asked}
use Rattle.kfifo_machine.specs.Runs.{AllGoOn, CompleteExecution, event, own}
use Rattle.kfifo_machine.proofs.Schedules.{own-append, run_before}
use Rattle.kfifo_live.specs.Schedule.{begins_tick, ticks, world_after}
use Rattle.kfifo_live.specs.Pass.{PassView, IsSamePass}
use Rattle.kfifo_live.specs.Promise.{calls_of}
use Rattle.kfifo_live.specs.Calls.{Makes, MakesCall, added}
use Rattle.kfifo_live.specs.Stamps.{Draws, HasCalls, IsLog, IsLogIn, IsStamped, MakesStamped, TakesFewStampedSteps}
use Rattle.kfifo_live.specs.Stamps.{logged_by, stamped_call}
use Rattle.kfifo_live.proofs.Keeps.{own_same}
use Rattle.kfifo_live.proofs.Ticks.{clock_is, ticks-append, ticks_of_one}
use Rattle.kfifo_machine.proofs.OwnCalls.{AddsCall, KeepsCalls, RunAdds, keeps_trans, others_keep, run_adds, tick_keeps}

-- a longer schedule has the same stamped calls
pub stamped_on : (new all more : List Event) → new ≡ all ++ more → (c d : Call) → IsStamped all c d → IsStamped new c d
stamped_on new all more is c d s = subst (λ (es : List Event). IsStamped es c d) (sym is) record {
  thread = s.thread;
  op = s.op;
  before = s.before;
  between = s.between;
  begin = s.begin;
  rest = s.rest ++ more;
  split = ap (λ es. es ++ more) s.split ∙ append_assoc (s.before ++ event c.thread (Some Tick) ∷ s.between)
      (s.begin ∷ s.rest) more;
  quiet = s.quiet;
  own_begin = s.own_begin;
  first_is = s.first_is;
  made_first = s.made_first;
  upto = s.upto;
  later = s.later ++ more;
  answer = s.answer;
  step = s.step;
  split_last = ap (λ es. es ++ more) s.split_last ∙ append_assoc s.upto (event c.thread (Some Tick) ∷ s.later) more;
  logged_end = s.logged_end;
  made_end = s.made_end;
  ended = s.ended;
}

-- a longer schedule in which no call of the thread comes
pub has_on : (o : Opening) (new seen more : List Event) → new ≡ seen ++ more → (thread : ℕ) (log : List Call)
    → HasCalls o seen thread log
    → KeepsCalls thread (calls_of o seen) (calls_of o new) → HasCalls o new thread log
has_on o new seen more is thread log has k = record {
  made = λ i less.
      let m = has.made i less in
      let same : call (calls_of o new) m.0 ≡ call (calls_of o seen) m.0 = k.same m.0 m.1 m.2 in (
        m.0,
        (let a = m.1 in let b = k.longer in omega arith),
        ap (λ (c : Call). c.thread) same ∙ m.2,
        subst (IsStamped new (call log i)) (sym same) (stamped_on new seen more is _ _ m.3),
      );
  logged = λ n less mine.
      let old = k.none n less mine in
      let own_call = k.mine n old mine in
      let m = has.logged n old own_call in (
        m.0,
        m.1,
        subst (IsStamped new (call log m.0)) (sym (k.same n old own_call))
            (stamped_on new seen more is _ _ m.2),
      );
}

-- a log with one call more
call-before : (log : List Call) (c : Call) (i : ℕ) → i < length log → call (log ++ c ∷ []) i ≡ call log i
call-before log c i less = get_or-append log (c ∷ []) no_call i less

call-last : (log : List Call) (c : Call) → call (log ++ c ∷ []) (length log) ≡ c
call-last log c = get_or-append_seam log c [] no_call

-- a longer schedule in which one call of the thread comes
has_more : (o : Opening) (new seen more : List Event) → new ≡ seen ++ more → (thread : ℕ) (log : List Call) (c d : Call)
    → HasCalls o seen thread log → AddsCall thread (calls_of o seen) (calls_of o new) d
    → d.thread ≡ thread → IsStamped new c d → HasCalls o new thread (log ++ c ∷ [])
has_more o new seen more on thread log c d has k of_thread stamped =
    let size : length (log ++ c ∷ []) ≡ length log + 1 = length-append log (c ∷ []) in
    record {
      made = λ i less. elim (cases_lt i (length log)) [
        | inl old ↦
            let m = has.made i old in
            let same : call (calls_of o new) m.0 ≡ call (calls_of o seen) m.0 = k.same m.0 m.1 m.2 in
            let inside : m.0 < length (calls_of o new) = let a = m.1 in let b = k.beyond in let e = k.within in
            omega arith in (
              m.0,
              inside,
              ap (λ (x : Call). x.thread) same ∙ m.2,
              subst (λ (x : Call × Call). IsStamped new x.0 x.1) (λ j. (sym (call-before log c i old) j, sym same j))
                  (stamped_on new seen more on _ _ m.3),
            )
        | inr latest ↦
            let last : i ≡ length log = omega arith in
            let is : call (log ++ c ∷ []) i ≡ c = ap (call (log ++ c ∷ [])) last ∙ call-last log c in (
              k.number,
              k.within,
              ap (λ (x : Call). x.thread) k.is ∙ of_thread,
              subst (λ (x : Call × Call). IsStamped new x.0 x.1) (λ j. (sym is j, sym k.is j)) stamped,
            )
      ];
      logged = λ n less mine. elim (cases_eq n k.number) [
        | inl latest ↦
            let is : call (calls_of o new) n ≡ d = ap (call (calls_of o new)) latest ∙ k.is in (
              length log,
              (omega arith),
              subst (λ (x : Call × Call). IsStamped new x.0 x.1) (λ j. (sym (call-last log c) j, sym is j))
                  stamped,
            )
        | inr ne ↦
            let old = k.none n less mine ne in
            let own_call = k.mine n old mine in
            let m = has.logged n old own_call in
            let same : call (calls_of o new) n ≡ call (calls_of o seen) n = k.same n old own_call in (
              m.0,
              (let a = m.1 in omega arith),
              subst (λ (x : Call × Call). IsStamped new x.0 x.1)
                  (λ j. (sym (call-before log c m.0 m.1) j, sym same j)) (stamped_on new seen more on _ _ m.2),
            )
      ];
    }

-- a call comes between schedules in which none comes
adds_between : (thread : ℕ) (a b c e : List Call) (d : Call) → d.thread ≡ thread → KeepsCalls thread a b
    → AddsCall thread b c d
    → KeepsCalls thread c e → AddsCall thread a e d
adds_between thread a b c e d mine x y z =
    let is_mine : (call c y.number).thread ≡ thread = ap (λ (k : Call). k.thread) y.is ∙ mine in
    record {
      number = y.number;
      beyond = let l = x.longer in let m = y.beyond in omega arith;
      within = let l = z.longer in let m = y.within in omega arith;
      is = z.same y.number y.within is_mine ∙ y.is;
      same = λ n less own_call.
          let in_b : n < length b = let l = x.longer in omega arith in
          let in_c : n < length c = let l = y.beyond in let m = y.within in omega arith in
          let s = x.same n less own_call in
          let b_mine = ap (λ (k : Call). k.thread) s ∙ own_call in
          let t = y.same n in_b b_mine in
          let c_mine = ap (λ (k : Call). k.thread) t ∙ b_mine in
          z.same n in_c c_mine ∙ t ∙ s;
      none = λ n less own_call ne.
          let in_c = z.none n less own_call in
          let c_mine = z.mine n in_c own_call in
          let in_b = y.none n in_c c_mine ne in
          x.none n in_b (y.mine n in_b c_mine);
      mine = λ n less own_call.
          let in_b : n < length b = let l = x.longer in omega arith in
          let in_c : n < length c = let l = y.beyond in let m = y.within in omega arith in
          x.mine n less (y.mine n in_b (z.mine n in_c own_call));
    }

-- a stamp drawn by a thread of an opening, over plain schedules
record DrawsIn (o : Opening) (thread stamp : ℕ) (old new : List Event) : Type 0 where
  between : List Event
  here : World
  others : own thread between ≡ []
  reached : world_after o (old ++ between) ≡ Some here
  stamp_is : stamp ≡ word_at here (clock_at o.shape.k o.shape.n)
  made : step o.shape here (event thread (Some Tick)) ≡ Ok (ticked o.shape here, Went)
  new_is : new ≡ (old ++ between) ++ event thread (Some Tick) ∷ []

draws_in : (o : Opening) (thread stamp : ℕ) (p q : PassView) → p.opened ≡ o → p.thread ≡ thread → Draws stamp p q
    → DrawsIn o thread stamp p.seen q.seen
draws_in o thread stamp p q opened same d =
    subst (λ (x : Opening × ℕ). DrawsIn x.0 x.1 stamp p.seen q.seen) (λ i. (opened i, same i)) record {
      between = d.between;
      here = d.here;
      others = d.others;
      reached = d.reached;
      stamp_is = d.stamp_is;
      made = d.made;
      new_is = d.new_is;
    }

module _ (o : Opening) (thread stamp : ℕ) (old new : List Event) (d : DrawsIn o thread stamp old new) where
  -- no call comes with it
  draw_keeps : o.threads ≤ 64 → KeepsCalls thread (calls_of o old) (calls_of o new)
  draw_keeps few =
      let split = run_before o.shape (Some (opening o.shape o.threads)) d.here old d.between d.reached in
      let a = others_keep o.shape o.threads thread old d.between split.0 d.here few split.1 split.2 d.others in
      let b = tick_keeps o.shape o.threads thread (old ++ d.between) d.here (ticked o.shape d.here) Went d.reached
      d.made in
      subst (λ (es : List Event). KeepsCalls thread (calls_of o old) (calls_of o es)) (sym d.new_is)
      (keeps_trans thread _ _ _ a b)

  -- the stamp is the number of ticks before
  draw_ticks : stamp ≡ ticks (old ++ d.between)
  draw_ticks = d.stamp_is ∙ clock_is o (old ++ d.between) d.here d.reached

  -- the tick is the one own event
  draw_own : own thread new ≡ own thread old ++ event thread (Some Tick) ∷ []
  draw_own =
      ap (own thread) d.new_is
      ∙ own-append thread (old ++ d.between) (event thread (Some Tick) ∷ [])
      ∙ (λ i. (own-append thread old d.between ∙ ap (λ es. own thread old ++ es) d.others
      ∙ append-nil (own thread old)) i
      ++ own_same thread (Some Tick) i)

  draw_count : ticks (own thread new) ≡ ticks (own thread old) + 1
  draw_count = ap ticks draw_own ∙ ticks-append (own thread old) (event thread (Some Tick) ∷ [])

  draw_length : length (own thread new) ≡ length (own thread old) + 1
  draw_length = ap length draw_own ∙ length-append (own thread old) (event thread (Some Tick) ∷ [])

  draw_more : ticks new ≡ stamp + 1
  draw_more = ap ticks d.new_is ∙ ticks-append (old ++ d.between) (event thread (Some Tick) ∷ [])
      ∙ ap (λ n. n + 1) (sym draw_ticks)

  draw_from : ticks old ≤ stamp
  draw_from = let a = draw_ticks in let b = ticks-append old d.between in omega arith

-- a run makes no tick
no_ticks : (events : List Event) → AllGoOn events → ticks events ≡ 0
no_ticks [] go_on = refl
no_ticks (e ∷ es) go_on = ap (λ b. length (cond (begins_tick b) (e ∷ filter_ticks es) (filter_ticks es))) go_on.0
    ∙ no_ticks es go_on.1
  where
    filter_ticks : List Event → List Event
    filter_ticks es = filter (λ (x : Event). begins_tick x.begin) es

EachPair-push : {X : Type 0} (R : X → X → Type 0) (xs : List X) (x : X) → EachPair R xs → AllByRecursion (λ y. R y x) xs
    → EachPair R (xs ++ x ∷ [])
EachPair-push R [] x pairs all = (tt, tt)
EachPair-push R (y ∷ ys) x pairs all =
    (AllByRecursion-push (R y) ys x pairs.0 all.0, EachPair-push R ys x pairs.1 all.1)

ends_later : (end : Option End) (m n : ℕ) → m ≤ n → EndsBelow end m → EndsBelow end n
ends_later None m n le below = below
ends_later (Some end) m n le below = omega arith

-- a run of a call, whose own events are no ticks
module _ (o : Opening) (thread : ℕ) (begin : Begin) (answer : Answer) (old new : List Event)
    (w : CompleteExecution o.shape o.threads thread begin answer old new) where
  abbrev run_more : List Event
  run_more = w.between ++ w.last ∷ []

  run_is : new ≡ old ++ run_more
  run_is = w.new_is ∙ append_assoc old w.between (w.last ∷ [])

  run_count : begins_tick (Some begin) ≡ false → ticks (own thread new) ≡ ticks (own thread old)
  run_count no_tick =
      let split = ap ticks (ap (own thread) run_is ∙ own-append thread old run_more)
      ∙ ticks-append (own thread old) (own thread run_more) in
      let first : ticks (event thread (Some begin) ∷ []) ≡ 0 = ticks_of_one (event thread (Some begin))
      ∙ ap (λ b. cond b 1 0) no_tick in
      let others = no_ticks w.one_call.others w.one_call.go_on in
      let both : ticks (own thread run_more) ≡ ticks (event thread (Some begin) ∷ []) + ticks w.one_call.others =
      ap ticks w.one_call.first ∙ ticks-append (event thread (Some begin) ∷ []) w.one_call.others in
      omega arith

  run_from : ticks old ≤ ticks new
  run_from = let a = ap ticks run_is ∙ ticks-append old run_more in omega arith

-- A stamped call: a tick, a run, a tick
module _ (o : Opening) (thread first last : ℕ) (begin : Begin) (answer : Answer) (old begun ended new : List Event)
    (few : o.threads ≤ 64) (no_tick : begins_tick (Some begin) ≡ false)
    (a : DrawsIn o thread first old begun) (w : CompleteExecution o.shape o.threads thread begin answer begun ended)
    (b : DrawsIn o thread last ended new) where
  abbrev run : RunAdds o.shape o.threads thread begin answer begun ended
  run = run_adds o.shape o.threads thread begin answer begun ended few w

  abbrev the_call : Call
  the_call = stamped_call thread (op_asked begin) first last answer

  abbrev made_call : Call
  made_call = stamped_call thread (op_asked begin) (length (begun ++ run.before)) run.last_place answer

  abbrev tail : List Event
  tail = b.between ++ event thread (Some Tick) ∷ []

  up_to_run : begun ++ run.before ≡ (old ++ a.between) ++ event thread (Some Tick) ∷ run.before
  up_to_run = ap (λ es. es ++ run.before) a.new_is ∙ append_assoc (old ++ a.between) (event thread (Some Tick) ∷ [])
      run.before

  split : new ≡ ((old ++ a.between) ++ event thread (Some Tick) ∷ run.before) ++ event thread (Some begin)
      ∷ (run.rest ++ tail)
  split =
      b.new_is
      ∙ append_assoc ended b.between (event thread (Some Tick) ∷ [])
      ∙ ap (λ es. es ++ tail) run.split
      ∙ append_assoc (begun ++ run.before) (event thread (Some begin) ∷ run.rest) tail
      ∙ ap (λ es. es ++ event thread (Some begin) ∷ (run.rest ++ tail)) up_to_run

  abbrev more : List Event
  more = a.between ++ (event thread (Some Tick) ∷ run.before ++ event thread (Some begin) ∷ (run.rest ++ tail))

  goes_on : new ≡ old ++ more
  goes_on =
      split
      ∙ append_assoc (old ++ a.between) (event thread (Some Tick) ∷ run.before)
      (event thread (Some begin) ∷ (run.rest ++ tail))
      ∙ append_assoc old a.between (event thread (Some Tick) ∷ run.before ++ event thread (Some begin)
      ∷ (run.rest ++ tail))

  stamped : IsStamped new the_call made_call
  stamped = record {
    thread = refl;
    op = refl;
    before = old ++ a.between;
    between = run.before;
    begin = event thread (Some begin);
    rest = run.rest ++ tail;
    split = split;
    quiet = run.quiet;
    own_begin = refl;
    first_is = draw_ticks o thread first old begun a;
    made_first = ap length up_to_run;
    upto = ended ++ b.between;
    later = [];
    answer = answer;
    step = run.last_place;
    split_last = b.new_is;
    logged_end = ap (λ (n : ℕ). Some (record { last = n; answer = answer })) (draw_ticks o thread last ended new b);
    made_end = refl;
    ended = let l = run.last_is in let m = length-append ended b.between in omega arith;
  }

  adds : AddsCall thread (calls_of o old) (calls_of o new) made_call
  adds = adds_between thread _ _ _ _ made_call refl (draw_keeps o thread first old begun a few) run.adds
      (draw_keeps o thread last ended new b few)

  -- the log has one call more
  logs_on : (log : List Call) (p u : PassView) → p.opened ≡ o → u.opened ≡ o → p.thread ≡ thread → u.thread ≡ thread
      → p.seen ≡ old
      → u.seen ≡ new → length log < o.calls → IsLog p log → IsLog u (log ++ the_call ∷ [])
  logs_on log p u p_opened u_opened p_thread u_thread p_seen u_seen room is =
      let size : length (log ++ the_call ∷ []) ≡ length log + 1 = length-append log (the_call ∷ []) in
      let Q : Opening × ℕ × List Event → Type 0 = λ x. IsLogIn x.0 x.1 x.2 (log ++ the_call ∷ []) in
      let R : Opening × ℕ × List Event → Type 0 = λ x. IsLogIn x.0 x.1 x.2 log in
      let old_log = subst R (λ i. (p_opened i, p_thread i, p_seen i)) (is) in
      let counted : ticks (own thread new) ≡ ticks (own thread old) + 2 =
      (let x = draw_count o thread first old begun a in let y = run_count o thread begin answer begun ended w no_tick in
      let z =
      draw_count o thread last ended new b in omega arith) in
      let from = draw_from o thread first old begun a in
      let later = draw_more o thread first old begun a in
      let still = run_from o thread begin answer begun ended w in
      let last_from = draw_from o thread last ended new b in
      let last_more = draw_more o thread last ended new b in
      let new_log : IsLogIn o thread new (log ++ the_call ∷ []) = record {
        count = let c = old_log.count in omega arith;
        room = omega arith;
        mine = AllByRecursion-push (λ c. c.thread ≡ thread) log the_call old_log.mine refl;
        in_turn = EachPair-push (λ c d. EndsBelow c.end d.first) log the_call old_log.in_turn
            (AllByRecursion-weaker _ _ (λ c. ends_later c.end (ticks old) first from) log old_log.past);
        past = AllByRecursion-push (λ c. EndsBelow c.end (ticks new)) log the_call
            (AllByRecursion-weaker _ _ (λ c. ends_later c.end (ticks old) (ticks new) (omega arith)) log old_log.past)
            (omega arith);
        calls = has_more o new old more goes_on thread log the_call made_call old_log.calls adds refl stamped;
      } in
      (subst Q (λ i. (sym u_opened i, sym u_thread i, sym u_seen i)) new_log)

-- The same of passes, step by step
module _ (p q r u : PassView) (begin : Begin) (answer : Answer) (first last : ℕ) (log : List Call) (is : IsLog p log)
    (room : length log < p.opened.calls) (no_tick : begins_tick (Some begin) ≡ false)
    (a : Draws first p q) (same : IsSamePass q r) (makes : Makes begin answer q r) where
  drawn_first : DrawsIn p.opened p.thread first p.seen q.seen
  drawn_first = draws_in p.opened p.thread first p q refl refl a

  run_between : CompleteExecution p.opened.shape p.opened.threads p.thread begin answer q.seen r.seen
  run_between = subst (λ (x : Opening × ℕ). CompleteExecution x.0.shape x.0.threads x.1 begin answer q.seen r.seen)
      (λ i. (a.same.1 i, a.same.2 i)) makes

  -- the pass may tick once more
  pub room_left : ticks (own r.thread r.seen) < 2 * r.opened.calls
  room_left =
      let first_tick = draw_count p.opened p.thread first p.seen q.seen drawn_first in
      let no_more = run_count p.opened p.thread begin answer q.seen r.seen run_between no_tick in
      let count = is.count in
      let few : ticks (own p.thread r.seen) < 2 * p.opened.calls = omega arith in
      subst (λ (x : Opening × ℕ). ticks (own x.1 r.seen) < 2 * x.0.calls)
      (λ i. (sym (same.1 ∙ a.same.1) i, sym (same.2 ∙ a.same.2) i)) few

  module _ (few : p.opened.threads ≤ 64) (b : Draws last r u) where
    drawn_last : DrawsIn p.opened p.thread last r.seen u.seen
    drawn_last = draws_in p.opened p.thread last r u (same.1 ∙ a.same.1) (same.2 ∙ a.same.2) b

    -- its log has one call more
    logs_more : IsLog u (log ++ stamped_call p.thread (op_asked begin) first last answer ∷ [])
    logs_more =
        logs_on p.opened p.thread first last begin answer p.seen q.seen r.seen u.seen few no_tick drawn_first
        run_between drawn_last log p u
        refl (b.same.1 ∙ same.1 ∙ a.same.1) refl (b.same.2 ∙ same.2 ∙ a.same.2) refl refl room is

    -- and it has made two steps more than the run
    two_more : length (own p.thread (added p u)) ≡ length (own q.thread (added q r)) + 2
    two_more =
        let o = p.opened in
        let t = p.thread in
        let x = draw_length o t first p.seen q.seen drawn_first in
        let z = draw_length o t last r.seen u.seen drawn_last in
        let whole : u.seen ≡ p.seen ++ added p u =
        from_start p.seen u.seen _ (goes_on o t first last begin answer p.seen q.seen r.seen u.seen few no_tick
        drawn_first run_between
        drawn_last) in
        let part : r.seen ≡ q.seen ++ added q r =
        from_start q.seen r.seen _ (run_is o t begin answer q.seen r.seen run_between) in
        let w = ap length (ap (own t) whole ∙ own-append t p.seen (added p u))
        ∙ length-append (own t p.seen) (own t (added p u)) in
        let y = ap length (ap (own t) part ∙ own-append t q.seen (added q r))
        ∙ length-append (own t q.seen) (own t (added q r)) in
        let n : length (own q.thread (added q r)) ≡ length (own t (added q r)) =
        ap (λ k. length (own k (added q r))) a.same.2 in
        omega arith
      where
        from_start : (old new later : List Event) → new ≡ old ++ later → new ≡ old ++ drop (length old) new
        from_start old new later is = is
            ∙ ap (λ es. old ++ es) (sym (ap (drop (length old)) is ∙ drop-append_seam old later))

-- a log that is not full has room
pub has_room : (n m calls len : ℕ) → n ≤ m → m ≡ calls → len ≡ n → len ≢ calls → n < m
has_room n m calls len le same size ne = elim (cases_lt n m) [ inl less ↦ less | inr ge ↦ absurd (ne (omega arith)) ]

-- What is known of a stamped call: a tick, a run, a tick
pub record StampedRun (p q r u : PassView) (begin : Begin) (answer : Answer) (first last : ℕ) (log : List Call) : Type 0
  where
    pub is : IsLog p log
    pub room : length log < p.opened.calls
    pub no_tick : begins_tick (Some begin) ≡ false
    pub few : p.opened.threads ≤ 64
    pub draws_first : Draws first p q
    pub same : IsSamePass q r
    pub call : MakesCall begin answer q r
    pub draws_last : Draws last r u

module _ {p q r u : PassView} {begin : Begin} {answer : Answer} {first last : ℕ} {log : List Call}
    (s : StampedRun p q r u begin answer first last log) where
  -- its own events are those of the run and two ticks
  few_steps_more : TakesFewStampedSteps begin p u
  few_steps_more =
      let two = two_more p q r u begin answer first last log s.is s.room s.no_tick s.draws_first s.same s.call.run s.few
      s.draws_last in
      let few : length (own q.thread (added q r)) ≤ most_events q.opened.shape begin = s.call.few_steps in
      let shape : most_events q.opened.shape begin ≡ most_events p.opened.shape begin =
      ap (λ (o : Opening). most_events o.shape begin) s.draws_first.same.1 in
      omega arith

  -- where its call was logged under the pass's own number, the log is one
  module _ (thread : ℕ) (items : List Call) (mine : thread ≡ u.thread)
      (logged : items ≡ log ++ stamped_call thread (op_asked begin) first last answer ∷ []) where
    added_call : items ≡ log ++ stamped_call p.thread (op_asked begin) first last answer ∷ []
    added_call = logged ∙ ap (λ (t : ℕ). log ++ stamped_call t (op_asked begin) first last answer ∷ [])
        (mine ∙ s.draws_last.same.2 ∙ s.same.2 ∙ s.draws_first.same.2)

    pub log_grows : IsLog u items
    log_grows = subst (IsLog u) (sym added_call)
        (logs_more p q r u begin answer first last log s.is s.room s.no_tick s.draws_first s.same s.call.run s.few
        s.draws_last)

    pub makes_stamped : MakesStamped begin answer (logged_by p log) (logged_by u items)
    makes_stamped = record {
      room = s.room;
      begun = q;
      ended = r;
      first = first;
      last = last;
      draws_first = s.draws_first;
      call = s.call;
      draws_last = s.draws_last;
      few_steps = few_steps_more;
      log_is = added_call;
    }

  -- the pass may make as many calls as before
  pub calls_same : u.opened.calls ≡ p.opened.calls
  calls_same = ap (λ (o : Opening). o.calls) (s.draws_last.same.1 ∙ s.same.1 ∙ s.draws_first.same.1)
