-- The calls of all logs, by their first stamps, are a history: that of the schedule under other numbers and wider
-- stamps. So an
-- order that is legal for the one is legal for the other.
use Rattle.std.proofs.Common.{◌≡◌, ◌≢◌, ◌⊎◌, ℕ, zero, suc, ◌+◌, ◌<◌, ◌≤◌, List, [], ◌∷◌, ◌++◌, length, map, get_or}
use Rattle.std.proofs.Common.{true, Option, Some, None, refl, sym, ap, ◌∙◌, subst, inl, inr, arith, cond, append_assoc}
use Rattle.std.proofs.Common.{length-append, ne_eqb, ◌-◌}
use Rattle.std.specs.Prelude.{IsPermutation, ◌==◌}
use Rattle.std.specs.List.{All, Contains, list_any, AllByRecursion}
use Rattle.std.specs.List.Sorted.{IsNonDecreasingBy}
use Rattle.std.proofs.lemmas.Bool.{cases_eq, cases_lt}
use Rattle.std.proofs.lemmas.List.Elements.{All-append, All-from_get_or, All-get_or, All-nil, Contains-append_left}
use Rattle.std.proofs.lemmas.List.Elements.{Contains-append_right, Contains-get_or, recursion_from_All}
use Rattle.std.proofs.lemmas.List.Sorted.{All-permutation, Contains-permutation}
use Rattle.kfifo_live.proofs.Types.{Call, Event, Opening, Shape}
use Rattle.kfifo_model.specs.declared.calls.End.{End}
use Rattle.kfifo_model.specs.declared.calls.Op.{Op}
use Rattle.kfifo_model.specs.Lists.{EachPair}
use Rattle.kfifo_model.specs.Histories.{call, no_call, EndsBelow, IsLegal}
use Rattle.kfifo_model.specs.Matching.{Matches}
use Rattle.kfifo_model.specs.Measures.{HasDistinctItems, IsDoneEnqueue}
use Rattle.kfifo_model.specs.Overtaking.{certainly_overtaken}
use Rattle.kfifo_model.specs.declared.effects.Effect.TheVariants.{Wrong}
use Rattle.kfifo_model.specs.Relaxed.{effect}
use Rattle.kfifo_model.specs.Validity.{Answers, EndInRange, EndsFrom, IsHistory, IsInRange, OpInRange}
use Rattle.kfifo_model.proofs.Matching.{HasPartners, done_within, match_by, matched_distinct, matched_done}
use Rattle.kfifo_model.proofs.Matching.{matched_legal, matched_overtaken}
use Rattle.kfifo_model.proofs.Lists.{AllByRecursion-append}
use Rattle.kfifo_machine.specs.declared.event.Begin.TheVariants.{Tick}
use Rattle.kfifo_machine.specs.Machine.{World, opening, run}
use Rattle.kfifo_machine.specs.Runs.{event, own}
use Rattle.kfifo_machine.proofs.Calls.{history_is}
use Rattle.kfifo_machine.proofs.OwnCalls.{others_keep}
use Rattle.kfifo_machine.proofs.Schedules.{first_made, made_within, own_none, same_threads}
use Rattle.kfifo_machine.proofs.Sound.{sound_threads}
use Rattle.kfifo_linear.proofs.Schedule.{few_certainly, has_legal_order}
use Rattle.kfifo_linear.specs.Order.{order_of}
use Rattle.kfifo_live.specs.Schedule.{ticks, world_after}
use Rattle.kfifo_live.specs.Promise.{calls_of}
use Rattle.kfifo_live.specs.Stamps.{HasCalls, IsStamped, Logged, all_logs, passes_of}
use Rattle.kfifo_live.proofs.Shuffles.{AnyPair, later, pairs_shuffled}
use Rattle.kfifo_live.proofs.Ticks.{ticks-append}

-- of two beginnings of one schedule the shorter has no more ticks
ticks_up_to : (xs a ys b : List Event) → xs ++ a ≡ ys ++ b → length xs ≤ length ys → ticks xs ≤ ticks ys
ticks_up_to [] a ys b same le = omega arith
ticks_up_to (x ∷ xs) a [] b same le = absurd (omega arith)
ticks_up_to (x ∷ xs) a (y ∷ ys) b same le =
    let first : x ≡ y = cc in
    let rest : xs ++ a ≡ ys ++ b = cc in
    let below = ticks_up_to xs a ys b rest (omega arith) in
    let p = ticks-append (x ∷ []) xs in
    let q = ticks-append (y ∷ []) ys in
    let one : ticks (x ∷ []) ≡ ticks (y ∷ []) = ap (λ (e : Event). ticks (e ∷ [])) first in
    omega arith

-- and fewer, if a tick comes behind it
ticks_behind : (xs : List Event) (t : ℕ) (a ys b : List Event) → xs ++ event t (Some Tick) ∷ a ≡ ys ++ b
    → length xs < length ys
    → ticks xs < ticks ys
ticks_behind xs t a ys b same lt =
    let longer : (xs ++ event t (Some Tick) ∷ []) ++ a ≡ ys ++ b = append_assoc xs (event t (Some Tick) ∷ []) a
    ∙ same in
    let size = length-append xs (event t (Some Tick) ∷ []) in
    let up = ticks_up_to (xs ++ event t (Some Tick) ∷ []) a ys b longer (omega arith) in
    let more = ticks-append xs (event t (Some Tick) ∷ []) in
    omega arith

same_front : (xs a ys b : List Event) → xs ++ a ≡ ys ++ b → length xs ≡ length ys → (xs ≡ ys) × (a ≡ b)
same_front [] a [] b same size = (refl, same)
same_front [] a (y ∷ ys) b same size = absurd (omega arith)
same_front (x ∷ xs) a [] b same size = absurd (omega arith)
same_front (x ∷ xs) a (y ∷ ys) b same size =
    let first : x ≡ y = cc in
    let rest : xs ++ a ≡ ys ++ b = cc in
    let k = same_front xs a ys b rest (omega arith) in
    ((λ i. first i ∷ k.0 i), k.1)

-- the events between a place and the next event of a thread
same_gap : (t : ℕ) (xs ys : List Event) (e f : Event) (a b : List Event) → xs ++ e ∷ a ≡ ys ++ f ∷ b → own t xs ≡ []
    → own t ys ≡ []
    → e.thread ≡ t → f.thread ≡ t → xs ≡ ys
same_gap t [] [] e f a b same x y own_e own_f = refl
same_gap t [] (u ∷ ys) e f a b same x y own_e own_f =
    absurd (let first : e ≡ u = cc in (own_none t u ys y).0 (sym own_e ∙ ap (λ (v : Event). v.thread) first))
same_gap t (u ∷ xs) [] e f a b same x y own_e own_f =
    absurd (let first : u ≡ f = cc in (own_none t u xs x).0 (sym own_f ∙ ap (λ (v : Event). v.thread) (sym first)))
same_gap t (u ∷ xs) (v ∷ ys) e f a b same x y own_e own_f =
    let first : u ≡ v = cc in
    let rest : xs ++ e ∷ a ≡ ys ++ f ∷ b = cc in
    let k = same_gap t xs ys e f a b rest (own_none t u xs x).1 (own_none t v ys y).1 own_e own_f in
    λ i. first i ∷ k i

-- the last event of a thread before a place
own_there : (t : ℕ) (xs : List Event) (e : Event) (a : List Event) → e.thread ≡ t → own t (xs ++ e ∷ a) ≡ [] → ⊥
own_there t [] e a mine none = (own_none t e a none).0 (sym mine)
own_there t (x ∷ xs) e a mine none = own_there t xs e a mine (own_none t x (xs ++ e ∷ a) none).1

same_last : (t : ℕ) (xs ys : List Event) (e f : Event) (a b : List Event) → xs ++ e ∷ a ≡ ys ++ f ∷ b → own t a ≡ []
    → own t b ≡ []
    → e.thread ≡ t → f.thread ≡ t → xs ≡ ys
same_last t [] [] e f a b same x y own_e own_f = refl
same_last t [] (u ∷ ys) e f a b same x y own_e own_f =
    let rest : a ≡ ys ++ f ∷ b = cc in
    absurd (own_there t ys f b own_f (ap (own t) (sym rest) ∙ x))
same_last t (u ∷ xs) [] e f a b same x y own_e own_f =
    let rest : xs ++ e ∷ a ≡ b = cc in
    absurd (own_there t xs e a own_e (ap (own t) rest ∙ y))
same_last t (u ∷ xs) (v ∷ ys) e f a b same x y own_e own_f =
    let first : u ≡ v = cc in
    let rest : xs ++ e ∷ a ≡ ys ++ f ∷ b = cc in
    let k = same_last t xs ys e f a b rest x y own_e own_f in
    λ i. first i ∷ k i

-- Stamped calls of one schedule
module _ (all : List Event) where
  -- the schedule from the first tick on
  from_tick : (c d : Call) (s : IsStamped all c d) → all ≡ s.before ++ event c.thread (Some Tick)
      ∷ (s.between ++ s.begin ∷ s.rest)
  from_tick c d s = s.split ∙ append_assoc s.before (event c.thread (Some Tick) ∷ s.between) (s.begin ∷ s.rest)

  -- one stamp was drawn by one tick
  same_tick : (c d c' d' : Call) (s : IsStamped all c d) (s' : IsStamped all c' d') → c.first ≡ c'.first
      → (s.before ≡ s'.before)
      × (c.thread ≡ c'.thread) × (s.between ++ s.begin ∷ s.rest ≡ s'.between ++ s'.begin ∷ s'.rest)
  same_tick c d c' d' s s' same =
      let both : s.before ++ event c.thread (Some Tick) ∷ (s.between ++ s.begin ∷ s.rest)
      ≡ s'.before ++ event c'.thread (Some Tick) ∷ (s'.between ++ s'.begin ∷ s'.rest) = sym (from_tick c d s)
      ∙ from_tick c' d' s' in
      let equal : ticks s.before ≡ ticks s'.before = sym s.first_is ∙ same ∙ s'.first_is in
      let size : length s.before ≡ length s'.before =
      elim (cases_lt (length s.before) (length s'.before)) [
        | inl lt ↦ absurd (let less = ticks_behind s.before c.thread _ s'.before _ both lt in omega arith)
        | inr ge ↦ elim (cases_lt (length s'.before) (length s.before)) [
          | inl gt ↦ absurd (let less = ticks_behind s'.before c'.thread _ s.before _ (sym both) gt in omega arith)
          | inr le ↦ omega arith
        ]
      ] in
      let k = same_front s.before _ s'.before _ both size in
      let tick : event c.thread (Some Tick) ≡ event c'.thread (Some Tick) = cc in
      let rest : s.between ++ s.begin ∷ s.rest ≡ s'.between ++ s'.begin ∷ s'.rest = cc in
      (k.0, ap (λ (e : Event). e.thread) tick, rest)

  -- a logged call is one call of the schedule, and one call of the schedule is logged once
  one_made : (c d d' : Call) → IsStamped all c d → IsStamped all c d' → d.first ≡ d'.first
  one_made c d d' s s' =
      let k = same_tick c d c d' s s' refl in
      let gap = same_gap c.thread s.between s'.between s.begin s'.begin s.rest s'.rest k.2 s.quiet s'.quiet s.own_begin
      s'.own_begin in
      s.made_first ∙ (λ i. length (k.0 i ++ event c.thread (Some Tick) ∷ gap i)) ∙ sym s'.made_first

  one_logged : (c c' d : Call) → IsStamped all c d → IsStamped all c' d → c.first ≡ c'.first
  one_logged c c' d s s' =
      let t : c'.thread ≡ c.thread = s'.thread ∙ sym s.thread in
      let both : (s.before ++ event c.thread (Some Tick) ∷ s.between) ++ s.begin ∷ s.rest
      ≡ (s'.before ++ event c'.thread (Some Tick) ∷ s'.between) ++ s'.begin ∷ s'.rest = sym s.split ∙ s'.split in
      let k = same_front _ _ _ _ both (sym s.made_first ∙ s'.made_first) in
      let before = same_last c.thread s.before s'.before _ _ s.between s'.between k.0 s.quiet
      (ap (λ u. own u s'.between) (sym t) ∙ s'.quiet) refl t in
      s.first_is ∙ ap ticks before ∙ sym s'.first_is

  -- a stamped call ends after it began
  ends_after : (c d : Call) → EndsFrom d.first d.end → IsStamped all c d → EndsFrom c.first c.end
  ends_after c d from s =
      let step : d.first ≤ s.step = subst (EndsFrom d.first) s.made_end from in
      let both : s.before ++ event c.thread (Some Tick) ∷ (s.between ++ s.begin ∷ s.rest) ≡ s.upto
      ++ event c.thread (Some Tick) ∷ s.later =
      sym (from_tick c d s) ∙ s.split_last in
      let first = s.made_first in
      let size = length-append s.before (event c.thread (Some Tick) ∷ s.between) in
      let ended = s.ended in
      let up : ticks s.before ≤ ticks s.upto = ticks_up_to s.before _ s.upto _ both (omega arith) in
      let is = s.first_is in
      let fine : c.first ≤ ticks s.upto = omega arith in
      subst (EndsFrom c.first) (sym s.logged_end) fine

  -- what precedes by its stamps precedes by its steps
  steps_apart : (c d c' d' : Call) → IsStamped all c d → IsStamped all c' d' → EndsBelow c.end c'.first
      → EndsBelow d.end d'.first
  steps_apart c d c' d' s s' before =
      let stamps : ticks s.upto < c'.first = subst (λ (e : Option End). EndsBelow e c'.first) s.logged_end before in
      let both : s'.before ++ event c'.thread (Some Tick) ∷ (s'.between ++ s'.begin ∷ s'.rest)
      ≡ s.upto ++ event c.thread (Some Tick) ∷ s.later = sym (from_tick c' d' s') ∙ s.split_last in
      let is = s'.first_is in
      let far : length s.upto < length s'.before =
      elim (cases_lt (length s.upto) (length s'.before)) [
        | inl lt ↦ lt
        | inr ge ↦ absurd (let up = ticks_up_to s'.before _ s.upto _ both ge in omega arith)
      ] in
      let ended = s.ended in
      let first = s'.made_first in
      let size = length-append s'.before (event c'.thread (Some Tick) ∷ s'.between) in
      let fine : s.step < d'.first = omega arith in
      subst (λ (e : Option End). EndsBelow e d'.first) (sym s.made_end) fine

  -- a call of the schedule in range and with an answer of its own gives such a logged one
  in_range : (c d : Call) → IsStamped all c d → IsInRange d → IsInRange c
  in_range c d s r = (
    (let t = s.thread in let low = r.0 in omega arith),
    subst OpInRange (sym s.op) r.1,
    subst EndInRange (sym s.logged_end) (subst EndInRange s.made_end r.2),
  )

  answers_so : (c d : Call) → IsStamped all c d → Answers d.op d.end → Answers c.op c.end
  answers_so c d s a =
      let P : Op × Option End → Type 0 = λ x. Answers x.0 x.1 in
      let made : effect d.op s.answer ≢ Wrong = subst (λ (e : Option End). Answers d.op e) s.made_end a in
      let logged : effect c.op s.answer ≢ Wrong = subst (λ (x : Op). effect x s.answer ≢ Wrong) (sym s.op) made in
      subst (λ (e : Option End). Answers c.op e) (sym s.logged_end) logged

-- A log, as one of the whole schedule
pub record IsGoodLog (o : Opening) (all : List Event) (p : Logged) : Type 0 where
  pub calls : HasCalls o all p.pass.thread p.log
  pub mine : AllByRecursion (λ c. c.thread ≡ p.pass.thread) p.log
  pub in_turn : EachPair (λ c d. EndsBelow c.end d.first) p.log

-- no two of these calls have one first stamp, and of two of one thread one has ended before the other began
abbrev pub AreApart : Call → Call → Type 0
AreApart c d = (c.first ≢ d.first) × (c.thread ≡ d.thread → EndsBelow c.end d.first ⊎ EndsBelow d.end c.first)

-- lists
abbrev pub threads_of : List Logged → List ℕ
threads_of [] = []
threads_of (p ∷ ps) = p.pass.thread ∷ threads_of ps

each_both : {X : Type 0} (P Q T : X → Type 0) → ((x : X) → P x → Q x → T x) → (xs : List X) → AllByRecursion P xs
    → AllByRecursion Q xs
    → AllByRecursion T xs
each_both P Q T on [] p q = tt
each_both P Q T on (x ∷ xs) p q = (on x p.0 q.0, each_both P Q T on xs p.1 q.1)

pairs_append : {X : Type 0} (R : X → X → Type 0) (xs ys : List X) → EachPair R xs → EachPair R ys
    → AllByRecursion (λ x. AllByRecursion (R x) ys) xs → EachPair R (xs ++ ys)
pairs_append R [] ys a b c = b
pairs_append R (x ∷ xs) ys a b c = (AllByRecursion-append (R x) xs ys a.0 c.0, pairs_append R xs ys a.1 b c.1)

each_at : {X : Type 0} (d : X) (P : X → Type 0) (xs : List X) (n : ℕ) → n < length xs → AllByRecursion P xs
    → P (get_or xs n d)
each_at d P [] n less all = absurd (omega arith)
each_at d P (x ∷ xs) zero less all = all.0
each_at d P (x ∷ xs) (suc n) less all = each_at d P xs n (omega arith) all.1

any_from_each : {X : Type 0} (d : X) (R : X → X → Type 0) → ((x y : X) → R x y → R y x) → (l : List X) → EachPair R l
    → AnyPair d R l
any_from_each d R turn [] pairs i j low high apart = absurd (omega arith)
any_from_each d R turn (x ∷ xs) pairs zero zero low high apart = absurd (apart refl)
any_from_each d R turn (x ∷ xs) pairs zero (suc j) low high apart = each_at d (R x) xs j (omega arith) pairs.0
any_from_each d R turn (x ∷ xs) pairs (suc i) zero low high apart =
    turn x (get_or xs i d) (each_at d (R x) xs i (omega arith) pairs.0)
any_from_each d R turn (x ∷ xs) pairs (suc i) (suc j) low high apart =
    any_from_each d R turn xs pairs.1 i j (omega arith) (omega arith) (λ same. apart (ap suc same))

same_default : {X : Type 0} (xs : List X) (n : ℕ) (a b : X) → n < length xs → get_or xs n a ≡ get_or xs n b
same_default [] n a b less = absurd (omega arith)
same_default (x ∷ xs) zero a b less = refl
same_default (x ∷ xs) (suc n) a b less = same_default xs n a b (omega arith)

-- ends
first_apart : (end : Option End) (f g : ℕ) → EndsFrom f end → EndsBelow end g → f ≢ g
first_apart None f g from below same = below
first_apart (Some end) f g from below same = absurd (omega arith)

no_return : (end : Option End) (f g : ℕ) → EndsFrom f end → EndsBelow end g → g < f → ⊥
no_return None f g from below less = below
no_return (Some end) f g from below less = absurd (omega arith)

first_below : (end : Option End) (f g : ℕ) → EndsFrom f end → EndsBelow end g → f < g
first_below None f g from below = absurd below
first_below (Some end) f g from below = omega arith

-- the first stamps of a log rise
rising_log : (log : List Call) → AllByRecursion (λ c. EndsFrom c.first c.end) log
    → EachPair (λ c d. EndsBelow c.end d.first) log
    → EachPair (λ c d. c.first < d.first) log
rising_log [] from turn = tt
rising_log (c ∷ cs) from turn = (
  each_both (λ d. EndsBelow c.end d.first) (λ d. EndsBelow c.end d.first) (λ d. c.first < d.first)
      (λ d below same. first_below c.end c.first d.first from.0 below) cs turn.0 turn.0,
  rising_log cs from.1 turn.1,
)

turned_pair : (c d : Call) → AreApart c d → AreApart d c
turned_pair c d a = ((λ same. a.0 (sym same)), λ same. elim (a.1 (sym same)) [ inl x ↦ inr x | inr y ↦ inl y ])

-- a thread beyond the opening's has no event
own_beyond : (shape : Shape) (t : ℕ) (here there : World) (events : List Event) → length here.places ≤ t
    → run shape (Some here) events ≡ Some there → own t events ≡ []
own_beyond shape t here there [] beyond is = refl
own_beyond shape t here there (e ∷ es) beyond is =
    let m = first_made shape here e there es is in
    let within = made_within shape here e m.0 m.1.0 m.1.1.0 in
    let still = same_threads shape here e m.0 m.1.0 m.1.1.0 in
    ap (λ b. cond b (e ∷ own t es) (own t es)) (ne_eqb e.thread t (λ same. absurd (omega arith)))
    ∙ own_beyond shape t m.0 there es (omega arith) m.1.1.1

-- All logs of a schedule
module _ (o : Opening) (all : List Event) (here : World) (reached : world_after o all ≡ Some here)
    (few : o.threads ≤ 64) where
  made_history : IsHistory (calls_of o all)
  made_history = history_is o.shape o.threads all here few reached

  abbrev Logs : Call → Type 0
  Logs c = (m : ℕ) × (m < length (calls_of o all)) × IsStamped all c (call (calls_of o all) m)

  rises_by : (m k : ℕ) → m + suc k < length (calls_of o all)
      → (call (calls_of o all) m).first < (call (calls_of o all) (m + suc k)).first
  rises_by m zero within = (made_history (m + 1) within).rises m refl
  rises_by m (suc k) within =
      let before = rises_by m k (omega arith) in
      let next : (call (calls_of o all) (m + suc k)).first < (call (calls_of o all) (m + suc (suc k))).first =
      (made_history (m + suc (suc k)) within).rises (m + suc k) (omega arith) in
      omega arith

  one_number : (m p : ℕ) → m < length (calls_of o all) → p < length (calls_of o all)
      → (call (calls_of o all) m).first ≡ (call (calls_of o all) p).first → m ≡ p
  one_number m p low high same =
      elim (cases_lt m p) [
        | inl lt ↦ absurd (let less =
            subst (λ (n : ℕ). (call (calls_of o all) m).first < (call (calls_of o all) n).first)
            (let e : m + suc (p - suc m) ≡ p = omega arith in e) (rises_by m (p - suc m) (omega arith)) in omega arith)
        | inr ge ↦ elim (cases_lt p m) [
          | inl gt ↦ absurd (let less =
              subst (λ (n : ℕ). (call (calls_of o all) p).first < (call (calls_of o all) n).first)
              (let e : p + suc (m - suc p) ≡ m = omega arith in e) (rises_by p (m - suc p) (omega arith)) in
              omega arith)
          | inr le ↦ omega arith
        ]
      ]

  thread_below : (m : ℕ) → m < length (calls_of o all) → (call (calls_of o all) m).thread < o.threads
  thread_below m less =
      let t = (call (calls_of o all) m).thread in
      elim (cases_lt t o.threads) [
        | inl lt ↦ lt
        | inr ge ↦
            let size = sound_threads o.shape o.threads [] (opening o.shape o.threads) refl in
            let none = own_beyond o.shape t (opening o.shape o.threads) here all (omega arith) reached in
            let k = others_keep o.shape o.threads t [] all (opening o.shape o.threads) here few refl reached none in
            absurd (let no_call_before = k.none m less refl in omega arith)
      ]

  log_calls : (p : Logged) → IsGoodLog o all p → All Logs p.log
  log_calls p g = All-from_get_or Logs p.log no_call (λ i less. let m = g.calls.made i less in (m.0, m.1, m.3))

  all_calls : (ps : List Logged) → AllByRecursion (IsGoodLog o all) ps → All Logs (all_logs ps)
  all_calls [] g = All-nil Logs
  all_calls (p ∷ ps) g = All-append Logs p.log (all_logs ps) (log_calls p g.0) (all_calls ps g.1)

  -- each call of the schedule is in a log
  find_log : (m : ℕ) → m < length (calls_of o all) → (ps : List Logged) → AllByRecursion (IsGoodLog o all) ps
      → list_any (λ p. p.thread == (call (calls_of o all) m).thread) (passes_of ps) ≡ true
      → (c : Call) × Contains (all_logs ps) c × IsStamped all c (call (calls_of o all) m)
  find_log m less [] g is = absurd (cc)
  find_log m less (p ∷ ps) g is =
      let t = (call (calls_of o all) m).thread in
      elim (cases_eq p.pass.thread t) [
        | inl same ↦
            let i = g.0.calls.logged m less (sym same) in (
              call p.log i.0,
              Contains-append_left p.log (all_logs ps) (call p.log i.0)
                  (Contains-get_or p.log i.0 no_call i.1),
              i.2,
            )
        | inr ne ↦
            let f = find_log m less ps g.1 (later (p.pass.thread == t) (list_any (λ p. p.thread == t) (passes_of ps))
            (ne_eqb p.pass.thread t ne) is) in
            (f.0, Contains-append_right p.log (all_logs ps) f.0 f.1, f.2)
      ]

  call_ends : (c : Call) → Logs c → EndsFrom c.first c.end
  call_ends c l = ends_after all c (call (calls_of o all) l.0) (made_history l.0 l.1).ends l.2

  pub log_rises : (p : Logged) → IsGoodLog o all p → EachPair (λ c d. c.first < d.first) p.log
  log_rises p g = let logs = recursion_from_All Logs p.log (log_calls p g) in
      rising_log p.log (each_both Logs Logs (λ c. EndsFrom c.first c.end) (λ c l m. call_ends c l) p.log logs logs)
      g.in_turn

  in_log_pairs : (log : List Call) → AllByRecursion (λ c. EndsFrom c.first c.end) log
      → EachPair (λ c d. EndsBelow c.end d.first) log
      → EachPair AreApart log
  in_log_pairs [] from turn = tt
  in_log_pairs (c ∷ cs) from turn = (
    each_both (λ d. EndsBelow c.end d.first) (λ d. EndsFrom d.first d.end) (AreApart c)
        (λ d below ends. ((first_apart c.end c.first d.first from.0 below), (λ same. inl below))) cs turn.0 from.1,
    in_log_pairs cs from.1 turn.1,
  )

  of_others : (t : ℕ) (ps : List Logged) → AllByRecursion (IsGoodLog o all) ps
      → AllByRecursion (λ u. t ≢ u) (threads_of ps)
      → AllByRecursion (λ d. (t ≢ d.thread) × Logs d) (all_logs ps)
  of_others t [] g apart = tt
  of_others t (p ∷ ps) g apart =
      AllByRecursion-append (λ d. (t ≢ d.thread) × Logs d) p.log (all_logs ps)
      (each_both (λ d. d.thread ≡ p.pass.thread) Logs (λ d. (t ≢ d.thread) × Logs d)
      (λ d mine logs. ((λ same. apart.0 (same ∙ mine)), logs)) p.log g.0.mine
      (recursion_from_All Logs p.log (log_calls p g.0)))
      (of_others t ps g.1 apart.1)

  across : (c : Call) → Logs c → (ds : List Call) → AllByRecursion (λ d. (c.thread ≢ d.thread) × Logs d) ds
      → AllByRecursion (AreApart c) ds
  across c logs [] others = tt
  across c logs (d ∷ ds) others = (
    ((λ same. others.0.0 (same_tick all c _ d _ logs.2 others.0.1.2 same).1), (λ same. absurd (others.0.0 same))),
    across c logs ds others.1,
  )

  across_logs : (t : ℕ) (cs ds : List Call) → AllByRecursion (λ c. c.thread ≡ t) cs → AllByRecursion Logs cs
      → AllByRecursion (λ d. (t ≢ d.thread) × Logs d) ds → AllByRecursion (λ c. AllByRecursion (AreApart c) ds) cs
  across_logs t [] ds mine logs others = tt
  across_logs t (c ∷ cs) ds mine logs others = (
    across c logs.0 ds (subst (λ (u : ℕ). AllByRecursion (λ d. (u ≢ d.thread) × Logs d) ds) (sym mine.0) others),
    across_logs t cs ds mine.1 logs.1 others,
  )

  all_pairs : (ps : List Logged) → AllByRecursion (IsGoodLog o all) ps → EachPair (λ t u. t ≢ u) (threads_of ps)
      → EachPair AreApart (all_logs ps)
  all_pairs [] g apart = tt
  all_pairs (p ∷ ps) g apart =
      let logs = recursion_from_All Logs p.log (log_calls p g.0) in
      pairs_append AreApart p.log (all_logs ps)
      (in_log_pairs p.log (each_both Logs Logs (λ c. EndsFrom c.first c.end) (λ c l m. call_ends c l) p.log logs logs)
      g.0.in_turn)
      (all_pairs ps g.1 apart.1)
      (across_logs p.pass.thread p.log (all_logs ps) g.0.mine logs (of_others p.pass.thread ps g.1 apart.0))

  -- The calls of all logs in ascending order of their first stamps
  module _ (ps : List Logged) (h : List Call) (g : AllByRecursion (IsGoodLog o all) ps)
      (apart : EachPair (λ t u. t ≢ u) (threads_of ps))
      (complete : (t : ℕ) → t < o.threads → list_any (λ p. p.thread == t) (passes_of ps) ≡ true)
      (shuffled : IsPermutation (all_logs ps) h) (sorted : IsNonDecreasingBy (λ c. c.first) h) where
    calls : All Logs h
    calls = All-permutation Logs (all_logs ps) h shuffled (all_calls ps g)

    at : (n : ℕ) → n < length h → Logs (call h n)
    at n less = All-get_or Logs h n no_call less calls

    pairs : AnyPair no_call AreApart h
    pairs = pairs_shuffled no_call AreApart (all_logs ps) h shuffled
        (any_from_each no_call AreApart turned_pair (all_logs ps) (all_pairs ps g apart))

    pub rises : (i j : ℕ) → i < j → j < length h → (call h i).first < (call h j).first
    rises i j lt within =
        let le = sorted i j no_call (omega arith) within in
        let ne = (pairs i j (omega arith) within (λ same. absurd (omega arith))).0 in
        elim (cases_lt (call h i).first (call h j).first) [ inl less ↦ less | inr ge ↦ absurd (ne (omega arith)) ]

    pub logs_history : IsHistory h
    logs_history n less =
        let l = at n less in
        let made = made_history l.0 l.1 in
        record {
          ranged = in_range all (call h n) _ l.2 made.ranged;
          answers = answers_so all (call h n) _ l.2 made.answers;
          ends = ends_after all (call h n) _ made.ends l.2;
          rises = λ j e. rises j n (omega arith) less;
          apart = λ j before same. elim ((pairs j n (omega arith) less (λ e. absurd (omega arith))).1 same) [
            | inl below ↦ below
            | inr other ↦
                absurd (no_return (call h n).end (call h n).first (call h j).first
                (ends_after all (call h n) _ made.ends l.2) other (rises j n before less))
          ];
        }

    pub logs_match : Matches h (calls_of o all)
    logs_match =
        let R : ℕ → ℕ → Type 0 = λ n m. IsStamped all (call h n) (call (calls_of o all) m) in
        let right : HasPartners (λ m n. R n m) (length (calls_of o all)) (length h) = λ m less.
        let f = find_log m less ps g (complete (call (calls_of o all) m).thread (thread_below m less)) in
        let k = Contains-permutation (all_logs ps) h f.0 shuffled f.1 in (
          k.0,
          k.1,
          subst (λ (c : Call). IsStamped all c (call (calls_of o all) m))
              (sym (same_default h k.0 no_call f.0 k.1 ∙ k.2)) f.2,
        ) in
        let b = match_by R (length h) (length (calls_of o all)) at right
        (λ n p m n_in p_in m_in x y. elim (cases_eq n p) [
          | inl same ↦ same
          | inr ne ↦ absurd ((pairs n p n_in p_in ne).0 (one_logged all (call h n) (call h p) (call (calls_of o all) m)
              x y))
        ])
        (λ n m p n_in m_in p_in x y. one_number m p m_in p_in
        (one_made all (call h n) (call (calls_of o all) m) (call (calls_of o all) p) x y)) in
        record {
          numbers = b.0;
          same_op = λ n less. (b.1 n less).op;
          answers = λ n less. let s = b.1 n less in (_, _, s.logged_end, s.made_end, refl);
          keeps = λ c d c_in d_in before. steps_apart all (call h c) _ (call h d) _ (b.1 c c_in) (b.1 d d_in) before;
        }

    abbrev pub logs_order : List ℕ
    logs_order = map logs_match.numbers.from (order_of o.shape o.threads all)

    -- the order of the schedule is legal for them
    pub logs_legal : IsLegal o.shape.k h logs_order
    logs_legal = matched_legal o.shape.k h (calls_of o all) (order_of o.shape o.threads all) logs_match
        (has_legal_order o.shape o.threads few all here reached)

    -- and few overtakings are certain
    pub logs_few : HasDistinctItems h → (c : ℕ) → IsDoneEnqueue h c → certainly_overtaken h c < o.shape.k
    logs_few distinct c done =
        let within = done_within h c done in
        let less = few_certainly o.shape o.threads few all here reached (logs_match.numbers.to c)
        (matched_done h (calls_of o all) logs_match c within done)
        (matched_distinct h (calls_of o all) logs_match distinct) in
        let le = matched_overtaken h (calls_of o all) logs_match c within in
        omega arith
