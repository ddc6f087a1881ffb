-- The ledger and the log of a schedule tell the same of each call.
use Rattle.std.proofs.Common.{◌≡◌, ◌≢◌, ℕ, ◌+◌, ◌<◌, ◌≤◌, List, [], ◌∷◌, ◌++◌, length, get_or, set, Option, Some, None}
use Rattle.std.proofs.Common.{Ok, refl, sym, ap, ◌∙◌, subst, inl, inr, arith, length-append}
use Rattle.std.proofs.Math.ListN.{get_or-append}
use Rattle.std.proofs.Math.Seq.{get_or-append_seam}
use Rattle.std.proofs.lemmas.Bool.{cases_eq}
use Rattle.std.proofs.lemmas.Grind.{get_or-set_at}
use Rattle.std.proofs.lemmas.List.{get_or-set_other, length-set}
use Rattle.kfifo_linear.proofs.Types.{Answer, Begin, Call, End, Event, Next, Outcome, Running, Shape}
use Rattle.kfifo_model.specs.declared.calls.Op.{Op}
use Rattle.kfifo_model.specs.declared.calls.Op.TheVariants as O
use Rattle.kfifo_model.specs.Histories.{call, no_call}
use Rattle.kfifo_machine.specs.declared.event.Begin.TheVariants as B
use Rattle.kfifo_machine.specs.declared.place.EnqueuePhase.TheVariants as E
use Rattle.kfifo_machine.specs.declared.place.DequeuePhase.TheVariants as D
use Rattle.kfifo_machine.specs.declared.place.Next.TheVariants.{Goes, Answers}
use Rattle.kfifo_machine.specs.declared.place.Running.TheVariants as R
use Rattle.kfifo_machine.specs.Program.{advance}
use Rattle.kfifo_machine.specs.Machine.{World, word_at, place_of, outcome_of, found, step, run}
use Rattle.kfifo_machine.specs.Runs.{going}
use Rattle.kfifo_machine.specs.Calls.{Log, begins, ended, ends, logged, log_from}
use Rattle.kfifo_machine.proofs.Schedules.{Some-injective, first_made, made_within, stepped, same_threads}
use Rattle.kfifo_linear.specs.Ledger.{Ledger, noted, found_in, called, ledger_from, ledger_after, ledger_of, blank}
use Rattle.kfifo_linear.specs.Ledger as ledger
use Rattle.kfifo_linear.proofs.Abstract.{At, event_at, noted-same, noted-other}
use Rattle.kfifo_linear.proofs.Invariant.{Inv}
use Rattle.kfifo_linear.proofs.Invariance.{inv_table, inv_begin, inv_step, inv_outside}

-- what a begin asks for
abbrev pub op_of : Begin → Op
op_of (B.Enqueue item start turns) = O.Enqueue item
op_of (B.Dequeue start turns) = O.Dequeue
op_of B.Tick = O.Dequeue
op_of B.Seal = O.Dequeue

-- the end of a call with this last step and this answer
abbrev pub end_of : Option ℕ → Option Answer → Option End
end_of (Some last) (Some answer) = Some (record { last = last; answer = answer })
end_of None (Some answer) = None
end_of last None = None

-- a call is as the ledger has it
pub record SameCall (c : Call) (l : Ledger) (n : ℕ) : Type 0 where
  pub op : c.op ≡ op_of (l.begin n)
  pub first : c.first ≡ l.first n
  pub end : c.end ≡ end_of (l.last n) (l.answer n)

pub record Agrees (log : Log) (l : Ledger) (place : ℕ) : Type 0 where
  pub count : length log.calls ≡ l.calls
  pub now : l.now ≡ place
  pub each : (c : ℕ) → c < l.calls → SameCall (call log.calls c) l c
  pub none : (c : ℕ) → l.calls ≤ c → (l.last c ≡ None) × (l.answer c ≡ None)
  pub latest : (t : ℕ) → get_or log.latest t 0 ≡ l.caller t

call-before : (h : List Call) (c : Call) (n : ℕ) → n < length h → call (h ++ c ∷ []) n ≡ call h n
call-before h c n less = get_or-append h (c ∷ []) no_call n less

call-new : (h : List Call) (c : Call) (n : ℕ) → n ≡ length h → call (h ++ c ∷ []) n ≡ c
call-new h c n is = ap (call (h ++ c ∷ [])) is ∙ get_or-append_seam h c [] no_call

call-set_at : (h : List Call) (c : Call) (n m : ℕ) → m ≡ n → n < length h → call (set h n c) m ≡ c
call-set_at h c n m same less = get_or-set_at h n m c no_call same less

call-set_other : (h : List Call) (c : Call) (n m : ℕ) → m ≢ n → call (set h n c) m ≡ call h m
call-set_other h c n m ne = get_or-set_other h n m c no_call ne

-- a call begins
agree_begins : (log : Log) (l : Ledger) (place thread : ℕ) (b : Begin) → Agrees log l place → thread < length log.latest
    → Agrees (begins place thread (op_of b) log) (called thread b l) place
unfolding called
agree_begins log l place thread b h within =
    let opened : Call = record { thread = thread; op = op_of b; first = place; end = None } in
    record {
      count = length-append log.calls (opened ∷ []) ∙ ap (λ n. n + 1) h.count;
      now = h.now;
      each = λ c less. elim (cases_eq c l.calls) [
        | inl same ↦
            let new : call (log.calls ++ opened ∷ []) c ≡ opened = call-new log.calls opened c (same ∙ sym h.count) in
            record {
              op = ap (λ (x : Call). x.op) new ∙ ap op_of (sym (noted-same l.begin l.calls c b same));
              first = ap (λ (x : Call). x.first) new ∙ sym h.now ∙ sym (noted-same l.first l.calls c l.now same);
              end = ap (λ (x : Call). x.end) new ∙ sym
                  (ap (end_of (noted l.last l.calls None c)) (noted-same l.answer l.calls c None same));
            }
        | inr ne ↦
            let was = h.each c (omega arith) in
            let old : call (log.calls ++ opened ∷ []) c ≡ call log.calls c =
            call-before log.calls opened c (omega (arith, h.count)) in
            record {
              op = ap (λ (x : Call). x.op) old ∙ was.op ∙ ap op_of (sym (noted-other l.begin l.calls c b ne));
              first = ap (λ (x : Call). x.first) old ∙ was.first ∙ sym (noted-other l.first l.calls c l.now ne);
              end = ap (λ (x : Call). x.end) old ∙ was.end
                  ∙ ap (λ x. end_of x (l.answer c)) (sym (noted-other l.last l.calls c None ne))
                  ∙ ap (end_of (noted l.last l.calls None c)) (sym (noted-other l.answer l.calls c None ne));
            }
      ];
      none = λ c above.
          let ne : c ≢ l.calls = λ e. absurd (omega arith) in
          let was = h.none c (omega arith) in
          (noted-other l.last l.calls c None ne ∙ was.0, noted-other l.answer l.calls c None ne ∙ was.1);
      latest = λ t. elim (cases_eq t thread) [
        | inl same ↦ get_or-set_at log.latest thread t (length log.calls) 0 same within ∙ h.count
            ∙ sym (noted-same l.caller thread t l.calls same)
        | inr ne ↦ get_or-set_other log.latest thread t (length log.calls) 0 ne ∙ h.latest t
            ∙ sym (noted-other l.caller thread t l.calls ne)
      ];
    }

-- a step after which the call goes on
agree_goes : (shape : Shape) (w : ℕ → ℕ) (t : ℕ) (r q : Running) (log : Log) (l : Ledger) (place : ℕ)
    → Agrees log l place
    → advance shape r (found_in shape w r) ≡ Goes q → Agrees log (ledger.stepped shape w t r l) (place + 1)
unfolding ledger.stepped
agree_goes shape w t r q log l place h goes =
    rw goes (record {
      count = h.count;
      now = ap (λ n. n + 1) h.now;
      each = λ c less. let was = h.each c less in record { op = was.op; first = was.first; end = was.end };
      none = h.none;
      latest =
          h.latest;
    })

-- a step with which it ends
agree_ends : (shape : Shape) (w : ℕ → ℕ) (t : ℕ) (r : Running) (x : Answer) (log : Log) (l : Ledger) (place : ℕ)
    → Agrees log l place
    → advance shape r (found_in shape w r) ≡ Answers x → l.caller t < l.calls
    → Agrees (ends place t x log) (ledger.stepped shape w t r l) (place + 1)
unfolding ledger.stepped
agree_ends shape w t r x log l place h answers known =
    let mine : get_or log.latest t 0 ≡ l.caller t = h.latest t in
    let closed : Call = ended (call log.calls (get_or log.latest t 0)) place x in
    let within : get_or log.latest t 0 < length log.calls = omega (arith, h.count) in
    rw answers (record {
      count = length-set log.calls (get_or log.latest t 0) closed ∙ h.count;
      now = ap (λ n. n + 1) h.now;
      each = λ c less. elim (cases_eq c (l.caller t)) [
        | inl same ↦
            let here : c ≡ get_or log.latest t 0 = same ∙ sym mine in
            let new : call (set log.calls (get_or log.latest t 0) closed) c ≡ closed =
            call-set_at log.calls closed (get_or log.latest t 0) c here within in
            let was = h.each c less in
            let as_was : call log.calls (get_or log.latest t 0) ≡ call log.calls c = ap (call log.calls) (sym here) in
            record {
              op = ap (λ (y : Call). y.op) new ∙ ap (λ (y : Call). y.op) as_was ∙ was.op;
              first = ap (λ (y : Call). y.first) new ∙ ap (λ (y : Call). y.first) as_was ∙ was.first;
              end = ap (λ (y : Call). y.end) new ∙ ap (λ n. Some (record { last = n; answer = x })) (sym h.now)
                  ∙ ap (end_of (Some l.now)) (sym (noted-same l.answer (l.caller t) c (Some x) same))
                  ∙ ap (λ y. end_of y (noted l.answer (l.caller t) (Some x) c))
                  (sym (noted-same l.last (l.caller t) c (Some l.now) same));
            }
        | inr ne ↦
            let apart : c ≢ get_or log.latest t 0 = λ e. ne (e ∙ mine) in
            let old : call (set log.calls (get_or log.latest t 0) closed) c ≡ call log.calls c =
            call-set_other log.calls closed (get_or log.latest t 0) c apart in
            let was = h.each c less in
            record {
              op = ap (λ (y : Call). y.op) old ∙ was.op;
              first = ap (λ (y : Call). y.first) old ∙ was.first;
              end = ap (λ (y : Call). y.end) old ∙ was.end
                  ∙ ap (λ y. end_of y (l.answer c)) (sym (noted-other l.last (l.caller t) c (Some l.now) ne))
                  ∙ ap (end_of (noted l.last (l.caller t) (Some l.now) c))
                  (sym (noted-other l.answer (l.caller t) c (Some x) ne));
            }
      ];
      none = λ c above.
          let ne : c ≢ l.caller t = λ e. absurd (omega arith) in
          let was = h.none c above in (
            noted-other l.last (l.caller t) c (Some l.now) ne ∙ was.0,
            noted-other l.answer (l.caller t) c (Some x) ne
                ∙ was.1,
          );
      latest = h.latest;
    })

agree_outside : (log : Log) (l : Ledger) (place : ℕ) → Agrees log l place
    → Agrees log (record l { now = l.now + 1 }) (place + 1)
agree_outside log l place h =
    record {
      count = h.count;
      now = ap (λ n. n + 1) h.now;
      each = λ c less. let was = h.each c less in record { op = was.op; first = was.first; end = was.end };
      none = h.none;
      latest =
          h.latest;
    }

-- the invariant of a world and a ledger
abbrev pub InvAt : Shape → World → Ledger → Type 0
InvAt shape world l = At shape (Inv shape) (inv_table shape) (inv_begin shape) (inv_step shape) (inv_outside shape)
    world l

module _ (shape : Shape) (world next : World) (outcome : Outcome) (e : Event) (log : Log) (l : Ledger) (place : ℕ)
    (inv : InvAt shape world l) (h : Agrees log l place) (known : length log.latest ≡ length world.places)
    (made : step shape world e ≡ Ok (next, outcome)) where
  by_next : (r : Running) (n : Next) → place_of world e.thread ≡ Some r
      → advance shape r (found_in shape (word_at world) r) ≡ n
      → Agrees (logged place e.thread None (outcome_of n) log) (ledger.stepped shape (word_at world) e.thread r l)
      (place + 1)
  by_next r (Goes q) was goes = agree_goes shape (word_at world) e.thread r q log l place h goes
  by_next r (Answers x) was answers = agree_ends shape (word_at world) e.thread r x log l place h answers
      (inv.holds.threads e.thread r was).known

  begins_so : (b : Begin) (r q : Running) → advance shape r (found_in shape (word_at world) r) ≡ Goes q
      → Agrees (begins place e.thread (op_of b) log)
      (ledger.stepped shape (word_at world) e.thread r (called e.thread b l)) (place + 1)
  begins_so b r q goes =
      let within : e.thread < length world.places = made_within shape world e next outcome made in
      agree_goes shape (word_at world) e.thread r q (begins place e.thread (op_of b) log) (called e.thread b l) place
      (agree_begins log l place e.thread b h (omega arith)) goes

  by_place : (at : Option Running) (begin : Option Begin) (r : Running) → place_of world e.thread ≡ at
      → going shape at begin ≡ Some r
      → outcome ≡ outcome_of (advance shape r (found_in shape (word_at world) r))
      → Agrees (logged place e.thread begin outcome log) (ledger_from shape (word_at world) e.thread at begin l)
      (place + 1)
  by_place None None r was goes comes = absurd (cc)
  by_place (Some q) None r was goes comes =
      let same : q ≡ r = Some-injective q r goes in
      subst (λ (o : Outcome). Agrees (logged place e.thread None o log)
      (ledger.stepped shape (word_at world) e.thread q l) (place + 1))
      (sym (comes ∙ ap (λ (x : Running). outcome_of (advance shape x (found_in shape (word_at world) x))) (sym same)))
      (by_next q (advance shape q (found_in shape (word_at world) q)) was refl)
  by_place (Some q) (Some b) r was goes comes = absurd (cc)
  by_place None (Some (B.Enqueue item start turns)) r was goes comes =
      begins_so (B.Enqueue item start turns) (R.Enqueue item start turns E.LoadEnds) _ refl
  by_place None (Some (B.Dequeue start turns)) r was goes comes =
      begins_so (B.Dequeue start turns) (R.Dequeue start turns D.LoadEnds) _ refl
  by_place None (Some B.Tick) r was goes comes = agree_outside log l place h
  by_place None (Some B.Seal) r was goes comes = agree_outside log l place h

  agree_step : Agrees (logged place e.thread e.begin outcome log) (ledger_after shape world e l) (place + 1)
  unfolding ledger_after found
  agree_step =
      elim (stepped shape world e next outcome made) [
        | inl s ↦ by_place (place_of world e.thread) e.begin s.running refl s.goes s.outcome_is
        | inr o ↦ elim o.by [
          | inl t ↦
              let goal : Agrees (logged place e.thread (Some B.Tick) outcome log)
              (ledger_from shape (word_at world) e.thread None (Some B.Tick) l) (place + 1) =
              agree_outside log l place h in
              rw (t.begins, o.idle) goal
          | inr z ↦
              let goal : Agrees (logged place e.thread (Some B.Seal) outcome log)
              (ledger_from shape (word_at world) e.thread None (Some B.Seal) l) (place + 1) =
              agree_outside log l place h in
              rw (z.begins, o.idle) goal
        ]
      ]

  -- as many threads are known
  known_step : length (logged place e.thread e.begin outcome log).latest ≡ length next.places
  known_step = known_by e.begin outcome ∙ known ∙ sym (same_threads shape world e next outcome made)
    where
      known_by : (begin : Option Begin) (o : Outcome) → length (logged place e.thread begin o log).latest
          ≡ length log.latest
      known_by begin o = grind (arith, length-set)

pub agree_all : (shape : Shape) (world final : World) (events : List Event) (log : Log) (l : Ledger) (place : ℕ)
    → InvAt shape world l
    → Agrees log l place → length log.latest ≡ length world.places → run shape (Some world) events ≡ Some final
    → Agrees (log_from shape (Some world) place events log) (ledger_of shape (Some world) events l)
    (place + length events)
agree_all shape world final [] log l place inv h known is = let z : place ≡ place + 0 = omega arith in
    subst (λ n. Agrees log l n) z h
agree_all shape world final (e ∷ es) log l place inv h known is =
    let m = first_made shape world e final es is in
    let at : InvAt shape m.0 (ledger_after shape world e l) =
    event_at shape (Inv shape) (inv_table shape) (inv_begin shape) (inv_step shape) (inv_outside shape) world m.0 m.1.0
    e l inv m.1.1.0 in
    let all = agree_all shape m.0 final es (logged place e.thread e.begin m.1.0 log) (ledger_after shape world e l)
    (place + 1) at
    (agree_step shape world m.0 m.1.0 e log l place inv h known m.1.1.0)
    (known_step shape world m.0 m.1.0 e log l place inv h known m.1.1.0) m.1.1.1 in
    let places : (place + 1) + length es ≡ place + length (e ∷ es) = omega arith in
    subst (λ n. Agrees (log_from shape (Some world) place (e ∷ es) log) (ledger_of shape (Some world) (e ∷ es) l) n)
    places (rw m.1.1.0 all)
