-- How a call that begins, goes on or ends changes the log of calls.
use Rattle.std.proofs.Common.{◌≡◌, ◌≢◌, ◌⊎◌, ℕ, ◌+◌, ◌<◌, ◌≤◌, List, [], ◌∷◌, ◌++◌, length, get_or, set, Option, Some}
use Rattle.std.proofs.Common.{None, true, refl, sym, ap, ◌∙◌, subst, inl, inr, arith, length-append}
use Rattle.std.proofs.Math.ListN.{get_or-append}
use Rattle.std.proofs.Math.Seq.{get_or-append_seam}
use Rattle.std.proofs.lemmas.Bool.{cases_eq, cases_lt, and_parts}
use Rattle.std.proofs.lemmas.Bool.Decides.{nat_tests}
use Rattle.std.proofs.lemmas.Grind.{get_or-set_at}
use Rattle.std.proofs.lemmas.List.{get_or-set_other, length-set}
use Rattle.kfifo_machine.proofs.Types.{Answer, Begin, DequeuePhase, Next, Running, Shape}
use Rattle.kfifo_words.specs.Words.{value_of}
use Rattle.kfifo_model.specs.declared.calls.Answer.TheVariants as A
use Rattle.kfifo_model.specs.declared.calls.Op.{Op}
use Rattle.kfifo_model.specs.declared.calls.Op.TheVariants as O
use Rattle.kfifo_model.specs.declared.calls.End.{End}
use Rattle.kfifo_model.specs.declared.calls.Call.{Call}
use Rattle.kfifo_model.specs.declared.effects.Effect.TheVariants.{Wrong}
use Rattle.kfifo_model.specs.Relaxed.{effect}
use Rattle.kfifo_model.specs.Histories.{call, no_call, EndsBelow}
use Rattle.kfifo_model.specs.Validity.{IsItem, OpInRange, AnswerInRange, IsInRange, Answers, EndsFrom, Rises, IsApart}
use Rattle.kfifo_model.specs.Validity.{IsGood, IsHistory}
use Rattle.kfifo_machine.specs.declared.place.Found.TheVariants.{Slot}
use Rattle.kfifo_machine.specs.declared.place.DequeuePhase.TheVariants as D
use Rattle.kfifo_machine.specs.declared.place.Running.TheVariants as R
use Rattle.kfifo_machine.specs.declared.place.Next.TheVariants as N
use Rattle.kfifo_machine.specs.Program.{advance}
use Rattle.kfifo_machine.specs.Machine.{World, place_of, found, begun, may_begin, step}
use Rattle.kfifo_machine.specs.Calls.{Log, begins, ended, ends}
use Rattle.kfifo_machine.proofs.Schedules.{Some-injective}

-- what a thread at this place was asked for
abbrev pub op_of : Running → Op
op_of (R.Enqueue item start left phase) = O.Enqueue item
op_of (R.Dequeue start left phase) = O.Dequeue

-- a dequeue that found a slot found an item there
abbrev pub Finds : DequeuePhase → Type 0
Finds (D.Recheck ends (Slot index seen)) = value_of seen ≢ 0
Finds (D.MoveTail ends index filled) = value_of filled ≢ 0
Finds (D.Take ends index filled) = value_of filled ≢ 0
Finds other = Unit {0}

abbrev pub FindsAt : Running → Type 0
FindsAt (R.Enqueue item start left phase) = IsItem item
FindsAt (R.Dequeue start left phase) = Finds phase

-- an answer of the operation
abbrev pub IsAnswer : Op → Answer → Type 0
IsAnswer (O.Enqueue item) A.Done = Unit {0}
IsAnswer (O.Enqueue item) A.Full = Unit {0}
IsAnswer (O.Enqueue item) A.Busy = Unit {0}
IsAnswer (O.Enqueue item) A.Worn = Unit {0}
IsAnswer O.Dequeue (A.Got item) = IsItem item
IsAnswer O.Dequeue A.Empty = Unit {0}
IsAnswer O.Dequeue A.Busy = Unit {0}
IsAnswer O.Dequeue A.Worn = Unit {0}
IsAnswer op other = ⊥

abbrev pub NextFits : Op → Next → Type 0
NextFits op (N.Goes running) = (op_of running ≡ op) × FindsAt running
NextFits op (N.Answers answer) = IsAnswer op answer

value-below : (word : ℕ) → value_of word < 16777216
unfolding value_of
value-below word = omega arith

-- a step keeps to its call, and answers it
pub fits : (shape : Shape) (running : Running) (word : ℕ) → FindsAt running
    → NextFits (op_of running) (advance shape running word)
fits shape running word finds = grind (arith, nat_tests, value-below)

right_answer : (op : Op) (answer : Answer) → IsAnswer op answer → effect op answer ≢ Wrong
right_answer (O.Enqueue item) A.Done is wrong = cc
right_answer (O.Enqueue item) A.Full is wrong = cc
right_answer (O.Enqueue item) A.Busy is wrong = cc
right_answer (O.Enqueue item) A.Worn is wrong = cc
right_answer (O.Enqueue item) (A.Got x) is wrong = is
right_answer (O.Enqueue item) A.Empty is wrong = is
right_answer O.Dequeue (A.Got x) is wrong = cc
right_answer O.Dequeue A.Empty is wrong = cc
right_answer O.Dequeue A.Busy is wrong = cc
right_answer O.Dequeue A.Worn is wrong = cc
right_answer O.Dequeue A.Done is wrong = is
right_answer O.Dequeue A.Full is wrong = is

answer_in_range : (op : Op) (answer : Answer) → IsAnswer op answer → AnswerInRange answer
answer_in_range O.Dequeue (A.Got x) is = is
answer_in_range op A.Done is = tt
answer_in_range op A.Full is = tt
answer_in_range op A.Empty is = tt
answer_in_range op A.Busy is = tt
answer_in_range op A.Worn is = tt
answer_in_range (O.Enqueue item) (A.Got x) is = absurd is

op_in_range : (running : Running) → FindsAt running → OpInRange (op_of running)
op_in_range (R.Enqueue item start left phase) finds = finds
op_in_range (R.Dequeue start left phase) finds = tt

-- what a call asks for that may begin, and where it begins
pub begun_fits : (shape : Shape) (begin : Begin) (running : Running) → may_begin shape begin ≡ true
    → begun begin ≡ Some running
    → FindsAt running
begun_fits shape begin running may is = grind (arith, nat_tests, and_parts)

-- calls before this place
abbrev pub EndPast : ℕ → Option End → Type 0
EndPast now None = Unit {0}
EndPast now (Some end) = end.last < now

pub record IsPast (now : ℕ) (c : Call) : Type 0 where
  pub begun : c.first < now
  pub over : EndPast now c.end

-- what an unfinished call says of its thread
pub record IsOpen (here : World) (latest : List ℕ) (n : ℕ) (c : Call) : Type 0 where
  pub running : Running
  pub there : place_of here c.thread ≡ Some running
  pub asks : op_of running ≡ c.op
  pub number : get_or latest c.thread 0 ≡ n

-- what a thread inside a call says of the log
pub record IsMade (log : Log) (thread : ℕ) (running : Running) : Type 0 where
  pub within : get_or log.latest thread 0 < length log.calls
  pub mine : (call log.calls (get_or log.latest thread 0)).thread ≡ thread
  pub unfinished : (call log.calls (get_or log.latest thread 0)).end ≡ None
  pub finds : FindsAt running

-- The log of a schedule that has come to this place and this world
pub record IsLog (threads : ℕ) (here : World) (now : ℕ) (log : Log) : Type 0 where
  pub history : IsHistory log.calls
  pub past : (n : ℕ) → n < length log.calls → IsPast now (call log.calls n)
  pub open_calls : (n : ℕ) → n < length log.calls → (call log.calls n).end ≡ None
      → IsOpen here log.latest n (call log.calls n)
  pub running_calls : (t : ℕ) (r : Running) → place_of here t ≡ Some r → IsMade log t r
  pub known : length log.latest ≡ threads
  pub threads_are : length here.places ≡ threads

-- a call is good as long as it and those before it stay
stays_good : (h g : List Call) (n : ℕ) → ((j : ℕ) → j ≤ n → call g j ≡ call h j) → IsGood h n → IsGood g n
stays_good h g n same good =
    let at : call g n ≡ call h n = same n (omega arith) in
    record {
      ranged = rw at good.ranged;
      answers = rw at good.answers;
      ends = rw at good.ends;
      rises = λ j e. let b : call g j ≡ call h j = same j (omega arith) in rw (at, b) (good.rises j e);
      apart = λ j less mine. let b : call g j ≡ call h j = same j (omega arith) in
          let old : EndsBelow (call h j).end (call h n).first =
          good.apart j less (ap (λ (c : Call). c.thread) (sym b) ∙ mine ∙ ap (λ (c : Call). c.thread) at) in
          rw (at, b) old;
    }

past_on : (now : ℕ) (c : Call) → IsPast now c → IsPast (now + 1) c
past_on now c past = record { begun = let b = past.begun in omega arith; over = on c.end past.over }
  where
    on : (e : Option End) → EndPast now e → EndPast (now + 1) e
    on None over = tt
    on (Some end) over = omega arith

-- the list of calls with one more
pub call-before : (h : List Call) (c : Call) (n : ℕ) → n < length h → call (h ++ c ∷ []) n ≡ call h n
call-before h c n less = get_or-append h (c ∷ []) no_call n less

pub call-new : (h : List Call) (c : Call) (n : ℕ) → n ≡ length h → call (h ++ c ∷ []) n ≡ c
call-new h c n is = ap (call (h ++ c ∷ [])) is ∙ get_or-append_seam h c [] no_call

pub length-more : (h : List Call) (c : Call) → length (h ++ c ∷ []) ≡ length h + 1
length-more h c = length-append h (c ∷ [])

-- the call that a thread begins at this place
abbrev pub opened : ℕ → ℕ → Op → Call
opened now thread op = record { thread = thread; op = op; first = now; end = None }

-- A thread that was idle begins a call
module _ (threads : ℕ) (here there : World) (now thread : ℕ) (op : Op) (running : Running) (log : Log)
    (is : IsLog threads here now log) (few : threads ≤ 64) (within : thread < length here.places)
    (idle : place_of here thread ≡ None) (at : place_of there thread ≡ Some running) (asks : op_of running ≡ op)
    (finds : FindsAt running)
    (apart : (t : ℕ) → t ≢ thread → place_of there t ≡ place_of here t)
    (still : length there.places ≡ length here.places) where
  old_or_new : (n : ℕ) → n < length (begins now thread op log).calls → (n < length log.calls) ⊎ (n ≡ length log.calls)
  old_or_new n less = let all : length (log.calls ++ opened now thread op ∷ []) ≡ length log.calls + 1 =
      length-more log.calls (opened now thread op) in
      elim (cases_lt n (length log.calls)) [ inl lt ↦ inl lt | inr ge ↦ inr (omega arith) ]

  -- no unfinished call is of an idle thread
  over_before : (j : ℕ) (e : Option End) → j < length log.calls → (call log.calls j).end ≡ e
      → (call log.calls j).thread ≡ thread
      → EndPast now e → EndsBelow e now
  over_before j None less unfinished mine past =
      let open_call = is.open_calls j less unfinished in
      absurd (let h : None ≡ Some open_call.running = sym idle ∙ ap (place_of here) (sym mine) ∙ open_call.there in cc)
  over_before j (Some end) less finished mine past = past

  new_good : (n : ℕ) → n ≡ length log.calls → IsGood (begins now thread op log).calls n
  new_good n last =
      let c : call (log.calls ++ opened now thread op ∷ []) n ≡ opened now thread op =
      call-new log.calls (opened now thread op) n last in
      let low : thread < 64 = let k = is.threads_are in omega arith in
      record {
        ranged = rw c (low, subst OpInRange asks (op_in_range running finds), tt);
        answers = rw c tt;
        ends = rw c tt;
        rises = λ j e.
            let b : call (log.calls ++ opened now thread op ∷ []) j ≡ call log.calls j =
            call-before log.calls (opened now thread op) j (omega arith) in
            let first : (call log.calls j).first < now = (is.past j (omega arith)).begun in
            rw (c, b) first;
        apart = λ j less mine.
            let in_old : j < length log.calls = omega arith in
            let b : call (log.calls ++ opened now thread op ∷ []) j ≡ call log.calls j =
            call-before log.calls (opened now thread op) j in_old in
            let own : (call log.calls j).thread ≡ thread = ap (λ (x : Call). x.thread) (sym b) ∙ mine
            ∙ ap (λ (x : Call). x.thread) c in
            rw (c, b) (over_before j (call log.calls j).end in_old refl own (is.past j in_old).over);
      }

  begin_good : IsHistory (begins now thread op log).calls
  begin_good n less = elim (old_or_new n less) [
    | inl in_old ↦ stays_good log.calls (begins now thread op log).calls n
        (λ j low. call-before log.calls (opened now thread op) j (omega arith)) (is.history n in_old)
    | inr last ↦ new_good n last
  ]

  begin_past : (n : ℕ) → n < length (begins now thread op log).calls
      → IsPast (now + 1) (call (begins now thread op log).calls n)
  begin_past n less = elim (old_or_new n less) [
    | inl in_old
        ↦ rw (call-before log.calls (opened now thread op) n in_old) (past_on now (call log.calls n) (is.past n in_old))
    | inr last ↦ rw (call-new log.calls (opened now thread op) n last) (record { begun = omega arith; over = tt })
  ]

  begin_open : (n : ℕ) → n < length (begins now thread op log).calls → (call (begins now thread op log).calls n).end
      ≡ None
      → IsOpen there (set log.latest thread (length log.calls)) n (call (begins now thread op log).calls n)
  begin_open n less unfinished = elim (old_or_new n less) [
    | inl in_old ↦
        let b : call (log.calls ++ opened now thread op ∷ []) n ≡ call log.calls n =
        call-before log.calls (opened now thread op) n in_old in
        let o = is.open_calls n in_old (ap (λ (x : Call). x.end) (sym b) ∙ unfinished) in
        let ne : (call log.calls n).thread ≢ thread =
        λ mine. absurd (let h : None ≡ Some o.running = sym idle ∙ ap (place_of here) (sym mine) ∙ o.there in cc) in
        subst (IsOpen there (set log.latest thread (length log.calls)) n) (sym b) (record {
          running = o.running;
          there = apart (call log.calls n).thread ne ∙ o.there;
          asks = o.asks;
          number = get_or-set_other log.latest thread (call log.calls n).thread (length log.calls) 0 ne ∙ o.number;
        })
    | inr last ↦
        let c : call (log.calls ++ opened now thread op ∷ []) n ≡ opened now thread op =
        call-new log.calls (opened now thread op) n last in
        let known : thread < length log.latest = let k = is.known in let l = is.threads_are in omega arith in
        subst (IsOpen there (set log.latest thread (length log.calls)) n) (sym c) (record {
          running = running;
          there = at;
          asks = asks;
          number = get_or-set_at log.latest thread thread (length log.calls) 0 refl known ∙ sym last;
        })
  ]

  begin_running : (t : ℕ) (r : Running) → place_of there t ≡ Some r → IsMade (begins now thread op log) t r
  begin_running t r there_at = elim (cases_eq t thread) [
    | inl mine ↦
        let known : thread < length log.latest = let k = is.known in let l = is.threads_are in omega arith in
        let number : get_or (set log.latest thread (length log.calls)) t 0 ≡ length log.calls =
        get_or-set_at log.latest thread t (length log.calls) 0 mine known in
        let c : call (log.calls ++ opened now thread op ∷ []) (get_or (set log.latest thread (length log.calls)) t 0)
        ≡ opened now thread op = call-new log.calls (opened now thread op) _ number in
        let same : running ≡ r = Some-injective running r (sym at ∙ ap (place_of there) (sym mine) ∙ there_at) in
        record {
          within = omega (arith, length-more log.calls (opened now thread op));
          mine = rw c (sym mine);
          unfinished = rw c refl;
          finds = subst FindsAt same finds;
        }
    | inr ne ↦
        let m = is.running_calls t r (sym (apart t ne) ∙ there_at) in
        let number : get_or (set log.latest thread (length log.calls)) t 0 ≡ get_or log.latest t 0 =
        get_or-set_other log.latest thread t (length log.calls) 0 ne in
        let low : get_or log.latest t 0 < length log.calls = m.within in
        let b : call (log.calls ++ opened now thread op ∷ []) (get_or (set log.latest thread (length log.calls)) t 0)
        ≡ call log.calls (get_or log.latest t 0) =
        ap (call (log.calls ++ opened now thread op ∷ [])) number
        ∙ call-before log.calls (opened now thread op) (get_or log.latest t 0) low in
        record {
          within = omega (arith, length-more log.calls (opened now thread op));
          mine = rw b m.mine;
          unfinished = rw b m.unfinished;
          finds = m.finds;
        }
  ]

  pub begin_log : IsLog threads there (now + 1) (begins now thread op log)
  begin_log = record {
    history = begin_good;
    past = begin_past;
    open_calls = begin_open;
    running_calls = begin_running;
    known = length-set log.latest thread (length log.calls) ∙ is.known;
    threads_are = still ∙ is.threads_are;
  }

-- A thread goes on with its call, or does something outside of calls
module _ (threads : ℕ) (here there : World) (now thread : ℕ) (log : Log) (is : IsLog threads here now log)
    (apart : (t : ℕ) → t ≢ thread → place_of there t ≡ place_of here t)
    (still : length there.places ≡ length here.places) where
  pub go_log : (running next : Running) → place_of here thread ≡ Some running → place_of there thread ≡ Some next
      → op_of next ≡ op_of running
      → FindsAt next → IsLog threads there (now + 1) log
  go_log running next was at same finds = record {
    history = is.history;
    past = λ n less. past_on now (call log.calls n) (is.past n less);
    open_calls = λ n less unfinished.
        let o = is.open_calls n less unfinished in
        elim (cases_eq (call log.calls n).thread thread) [
          | inl mine ↦
              let r : o.running ≡ running =
              Some-injective o.running running (sym o.there ∙ ap (place_of here) mine ∙ was) in
              record {
                running = next;
                there = ap (place_of there) mine ∙ at;
                asks = same ∙ ap op_of (sym r) ∙ o.asks;
                number = o.number;
              }
          | inr ne ↦ record {
            running = o.running;
            there = apart (call log.calls n).thread ne ∙ o.there;
            asks = o.asks;
            number = o.number;
          }
        ];
    running_calls = λ t r there_at. elim (cases_eq t thread) [
      | inl mine ↦
          let m = is.running_calls t running (ap (place_of here) mine ∙ was) in
          let e : next ≡ r = Some-injective next r (sym at ∙ ap (place_of there) (sym mine) ∙ there_at) in
          record { within = m.within; mine = m.mine; unfinished = m.unfinished; finds = subst FindsAt e finds }
      | inr ne ↦ is.running_calls t r (sym (apart t ne) ∙ there_at)
    ];
    known = is.known;
    threads_are = still ∙ is.threads_are;
  }

  pub idle_log : place_of there thread ≡ place_of here thread → IsLog threads there (now + 1) log
  idle_log same =
      let all : (t : ℕ) → place_of there t ≡ place_of here t =
      λ t. elim (cases_eq t thread) [
        | inl mine ↦ ap (place_of there) mine ∙ same ∙ ap (place_of here) (sym mine)
        | inr ne ↦ apart t ne
      ] in
      record {
        history = is.history;
        past = λ n less. past_on now (call log.calls n) (is.past n less);
        open_calls = λ n less unfinished. let o = is.open_calls n less unfinished in
            record {
              running = o.running;
              there = all (call log.calls n).thread ∙ o.there;
              asks = o.asks;
              number = o.number;
            };
        running_calls = λ t r there_at. is.running_calls t r (sym (all t) ∙ there_at);
        known = is.known;
        threads_are = still ∙ is.threads_are;
      }

-- A thread's call ends
module _ (threads : ℕ) (here there : World) (now thread : ℕ) (running : Running) (answer : Answer) (log : Log)
    (is : IsLog threads here now log) (was : place_of here thread ≡ Some running)
    (at : place_of there thread ≡ None) (right : IsAnswer (op_of running) answer)
    (apart : (t : ℕ) → t ≢ thread → place_of there t ≡ place_of here t)
    (still : length there.places ≡ length here.places) where
  this_call : IsMade log thread running
  this_call = is.running_calls thread running was

  this_open : IsOpen here log.latest (get_or log.latest thread 0) (call log.calls (get_or log.latest thread 0))
  this_open = is.open_calls (get_or log.latest thread 0) this_call.within this_call.unfinished

  this_asks : (call log.calls (get_or log.latest thread 0)).op ≡ op_of running
  this_asks =
      let same : this_open.running ≡ running = Some-injective this_open.running running
      (sym this_open.there ∙ ap (place_of here) this_call.mine ∙ was) in
      sym this_open.asks ∙ ap op_of same

  this_now : (n : ℕ) → n ≡ get_or log.latest thread 0
      → call (ends now thread answer log).calls n ≡ ended (call log.calls (get_or log.latest thread 0)) now answer
  this_now n same = get_or-set_at log.calls (get_or log.latest thread 0) n
      (ended (call log.calls (get_or log.latest thread 0)) now answer) no_call same this_call.within

  other_now : (n : ℕ) → n ≢ get_or log.latest thread 0 → call (ends now thread answer log).calls n ≡ call log.calls n
  other_now n ne = get_or-set_other log.calls (get_or log.latest thread 0) n
      (ended (call log.calls (get_or log.latest thread 0)) now answer) no_call ne

  size_now : length (ends now thread answer log).calls ≡ length log.calls
  size_now = length-set log.calls (get_or log.latest thread 0) (ended (call log.calls (get_or log.latest thread 0)) now
      answer)

  -- threads and first steps stay
  same_thread : (n : ℕ) → (call (ends now thread answer log).calls n).thread ≡ (call log.calls n).thread
  same_thread n = elim (cases_eq n (get_or log.latest thread 0)) [
    | inl same ↦ ap (λ (c : Call). c.thread) (this_now n same ∙ refl)
        ∙ ap (λ (m : ℕ). (call log.calls m).thread) (sym same)
    | inr ne ↦ ap (λ (c : Call). c.thread) (other_now n ne)
  ]

  same_first : (n : ℕ) → (call (ends now thread answer log).calls n).first ≡ (call log.calls n).first
  same_first n = elim (cases_eq n (get_or log.latest thread 0)) [
    | inl same ↦ ap (λ (c : Call). c.first) (this_now n same) ∙ ap (λ (m : ℕ). (call log.calls m).first) (sym same)
    | inr ne ↦ ap (λ (c : Call). c.first) (other_now n ne)
  ]

  end_apart : (n : ℕ) → n < length log.calls → IsApart (ends now thread answer log).calls n
  end_apart n less j before mine =
      let old : EndsBelow (call log.calls j).end (call log.calls n).first =
      (is.history n less).apart j before (sym (same_thread j) ∙ mine ∙ same_thread n) in
      elim (cases_eq j (get_or log.latest thread 0)) [
        | inl same ↦
            let none : (call log.calls j).end ≡ None = ap (λ (m : ℕ). (call log.calls m).end) same
            ∙ this_call.unfinished in
            absurd (subst (λ (e : Option End). EndsBelow e (call log.calls n).first) none old)
        | inr ne ↦
            let first : (call (ends now thread answer log).calls n).first ≡ (call log.calls n).first = same_first n in
            subst (λ (c : Call). EndsBelow c.end (call (ends now thread answer log).calls n).first)
            (sym (other_now j ne))
            (subst (λ (f : ℕ). EndsBelow (call log.calls j).end f) (sym first) old)
      ]

  end_rises : (n : ℕ) → n < length log.calls → Rises (ends now thread answer log).calls n
  end_rises n less j next =
      let old : (call log.calls j).first < (call log.calls n).first = (is.history n less).rises j next in
      let a = same_first j in
      let b = same_first n in
      omega arith

  -- the call that ended, and the others
  end_one : (c : Call) → IsInRange c → c.op ≡ op_of running → IsInRange (ended c now answer)
      × Answers c.op (Some (record { last = now; answer = answer }))
  end_one c ranged op = (
    (ranged.0, ranged.1, answer_in_range (op_of running) answer right),
    λ wrong. right_answer (op_of running) answer right (ap (λ (o : Op). effect o answer) (sym op) ∙ wrong),
  )

  end_good : IsHistory (ends now thread answer log).calls
  end_good n less_now =
      let less : n < length log.calls = let s = size_now in omega arith in
      let old = is.history n less in
      elim (cases_eq n (get_or log.latest thread 0)) [
        | inl same ↦
            let c : call (ends now thread answer log).calls n ≡ ended (call log.calls (get_or log.latest thread 0)) now
            answer =
            this_now n same in
            let both = end_one (call log.calls (get_or log.latest thread 0))
            (is.history (get_or log.latest thread 0) this_call.within).ranged this_asks in
            let begun : (call log.calls (get_or log.latest thread 0)).first < now =
            (is.past (get_or log.latest thread 0) this_call.within).begun in
            record {
              ranged = subst IsInRange (sym c) both.0;
              answers = subst (λ (x : Call). Answers x.op x.end) (sym c) both.1;
              ends = subst (λ (x : Call). EndsFrom x.first x.end) (sym c) (omega arith);
              rises = end_rises n less;
              apart = end_apart n less;
            }
        | inr ne ↦
            let b : call (ends now thread answer log).calls n ≡ call log.calls n = other_now n ne in
            record {
              ranged = subst IsInRange (sym b) old.ranged;
              answers = subst (λ (x : Call). Answers x.op x.end) (sym b) old.answers;
              ends = subst (λ (x : Call). EndsFrom x.first x.end) (sym b) old.ends;
              rises = end_rises n less;
              apart = end_apart n less;
            }
      ]

  end_past : (n : ℕ) → n < length (ends now thread answer log).calls
      → IsPast (now + 1) (call (ends now thread answer log).calls n)
  end_past n less_now =
      let less : n < length log.calls = let s = size_now in omega arith in
      elim (cases_eq n (get_or log.latest thread 0)) [
        | inl same ↦
            let begun : (call log.calls (get_or log.latest thread 0)).first < now =
            (is.past (get_or log.latest thread 0) this_call.within).begun in
            subst (IsPast (now + 1)) (sym (this_now n same)) (record { begun = omega arith; over = omega arith })
        | inr ne ↦ subst (IsPast (now + 1)) (sym (other_now n ne)) (past_on now (call log.calls n) (is.past n less))
      ]

  end_open : (n : ℕ) → n < length (ends now thread answer log).calls → (call (ends now thread answer log).calls n).end
      ≡ None
      → IsOpen there log.latest n (call (ends now thread answer log).calls n)
  end_open n less_now unfinished =
      let less : n < length log.calls = let s = size_now in omega arith in
      elim (cases_eq n (get_or log.latest thread 0)) [
        | inl same ↦ absurd (let h : Some (record {
          last = now;
          answer = answer;
        }) ≡ None = ap (λ (c : Call). c.end) (sym (this_now n same))
            ∙ unfinished in cc)
        | inr ne ↦
            let o = is.open_calls n less (ap (λ (c : Call). c.end) (sym (other_now n ne)) ∙ unfinished) in
            let other : (call log.calls n).thread ≢ thread =
            λ mine. ne (sym o.number ∙ ap (λ (t : ℕ). get_or log.latest t 0) mine) in
            subst (IsOpen there log.latest n) (sym (other_now n ne))
            (record {
              running = o.running;
              there = apart (call log.calls n).thread other ∙ o.there;
              asks = o.asks;
              number = o.number;
            })
      ]

  end_running : (t : ℕ) (r : Running) → place_of there t ≡ Some r → IsMade (ends now thread answer log) t r
  end_running t r there_at =
      elim (cases_eq t thread) [
        | inl mine ↦ absurd (let h : None ≡ Some r = sym at ∙ ap (place_of there) (sym mine) ∙ there_at in cc)
        | inr ne ↦
            let m = is.running_calls t r (sym (apart t ne) ∙ there_at) in
            let other : get_or log.latest t 0 ≢ get_or log.latest thread 0 =
            λ same. ne (sym m.mine ∙ ap (λ (n : ℕ). (call log.calls n).thread) same ∙ this_call.mine) in
            let b : call (ends now thread answer log).calls (get_or log.latest t 0)
            ≡ call log.calls (get_or log.latest t 0) =
            other_now (get_or log.latest t 0) other in
            record {
              within = let s = size_now in let low = m.within in omega arith;
              mine = ap (λ (c : Call). c.thread) b ∙ m.mine;
              unfinished = ap (λ (c : Call). c.end) b ∙ m.unfinished;
              finds = m.finds;
            }
      ]

  pub end_log : IsLog threads there (now + 1) (ends now thread answer log)
  end_log = record {
    history = end_good;
    past = end_past;
    open_calls = end_open;
    running_calls = end_running;
    known = is.known;
    threads_are = still ∙ is.threads_are;
  }
