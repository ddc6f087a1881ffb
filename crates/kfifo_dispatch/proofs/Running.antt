-- The calls of a worker, one turn of its loop after the other.
use Rattle.std.proofs.Common.{◌≡◌, ◌≤◌, ◌<◌, ◌∙◌, ◌⊎◌, ◌+◌, ◌-◌, ℕ, zero, suc, List, [], ◌∷◌, ◌++◌, map, length, get_or}
use Rattle.std.proofs.Common.{take, Option, Some, None, refl, sym, ap, subst, arith, inl, inr, Result, Ok, Err, IfOk}
use Rattle.std.proofs.Common.{IsOk, Vec}
use Rattle.std.proofs.lemmas.List.{length-take, take_more}
use Rattle.std.specs.List.{AllByRecursion}
use Rattle.kfifo_live.specs.declared.payload.Given.{Given}
use Rattle.kfifo_live.specs.declared.payload.Taken.{Taken}
use Rattle.kfifo_dispatch.specs.Jobs.{JobView}
use Rattle.kfifo_dispatch.specs.Starts.{Draws}
use Rattle.kfifo_dispatch.specs.declared.worker.Turn.{Turn}
use Rattle.kfifo_dispatch.specs.declared.worker.Turn.TheVariants as W
use Rattle.kfifo_dispatch.specs.Running.{AreEach, GivesAll, GoesOn, IsTurn, TellsOfKept, Works, begun, kept_after}
use Rattle.kfifo_dispatch.specs.Running.{place_kept}
use Rattle.kfifo_dispatch.specs.Working.{Ended, MayWork, places_of}
use Rattle.kfifo_live.specs.Pass.{IsSamePass, PassView, OpenQueue}
use Rattle.kfifo_live.specs.Payloads.{PayPassView}
use Rattle.kfifo_dispatch.specs.declared.task.Task.{Task}

append_nil : {A : Type 0} (xs : List A) → xs ++ [] ≡ xs
append_nil [] = refl
append_nil (x ∷ xs) = ap (λ ys. x ∷ ys) (append_nil xs)

append_assoc' : {A : Type 0} (xs ys zs : List A) → (xs ++ ys) ++ zs ≡ xs ++ (ys ++ zs)
append_assoc' [] ys zs = refl
append_assoc' (x ∷ xs) ys zs = ap (λ ws. x ∷ ws) (append_assoc' xs ys zs)

pub same_trans : (p q r : PassView) → IsSamePass p q → IsSamePass q r → IsSamePass p r
same_trans p q r a b = (b.0 ∙ a.0, b.1 ∙ a.1, b.2 ∙ a.2)

-- a worker that may work may do so after a call
pub may_still : (q : OpenQueue) (p p' : PassView) (d d' : Draws) (n n' : ℕ) → MayWork q p d n → IsSamePass p p'
    → d'.k ≡ d.k → n' ≡ n
    → MayWork q p' d' n'
may_still q p p' d d' n n' may same k turns = record {
  of = (same.0 ∙ may.of.0, same.1 ∙ may.of.1);
  starts_fit = k ∙ may.starts_fit;
  turns_some = rw turns may.turns_some;
}

module _ {S : Type 0} (Passes : S → ℕ → S → Type 0) (Tells : S → ℕ → Type 0) (Takes : S → ℕ → ℕ → Taken JobView → S
    → Type 0) (Gives : S → JobView → ℕ → ℕ → Given JobView → S → Type 0) where
  -- what a worker does after so many calls is the end of what it does in all
  abbrev pub Ends : ℕ → ℕ → S → Draws → ℕ → S → Draws → List ℕ → Type 0
  Ends turns all s0 d0 call s d kept = (t : S) (later : List ℕ)
      → Works Passes Tells Takes Gives turns (all - call) (call + 1) s d t later
      → Works Passes Tells Takes Gives turns all 1 s0 d0 t (kept ++ later)

  pub begins : (turns all : ℕ) (s : S) (d : Draws) → Ends turns all s d 0 s d []
  begins turns all s d t later works =
      let none : all - 0 ≡ all = omega arith in
      subst (λ (n : ℕ). Works Passes Tells Takes Gives turns n 1 s d t later) none works

  -- one more take
  one_turn : (turns left call : ℕ) (s u t : S) (d e : Draws) (turn : Turn JobView) (kept : List ℕ)
      → IsTurn Passes Tells Takes Gives turns call s d turn u e
      → GoesOn Passes Tells Takes Gives (Works Passes Tells Takes Gives turns left (suc call)) turn u e t kept
      → Works Passes Tells Takes Gives turns (suc left) call s d t kept
  unfolding Works
  one_turn turns left call s u t d e turn kept is goes = (turn, u, e, is, goes)

  no_turn : (turns call : ℕ) (s : S) (d : Draws) → Works Passes Tells Takes Gives turns zero call s d s []
  unfolding Works
  no_turn turns call s d = (refl, refl)

  -- one more take of those that are left
  next_turn : (turns all call : ℕ) (s u t : S) (d e : Draws) (turn : Turn JobView) (kept : List ℕ) → call < all
      → IsTurn Passes Tells Takes Gives turns (call + 1) s d turn u e
      → GoesOn Passes Tells Takes Gives (Works Passes Tells Takes Gives turns (all - (call + 1)) (call + 1 + 1)) turn u
      e t kept
      → Works Passes Tells Takes Gives turns (all - call) (call + 1) s d t kept
  next_turn turns all call s u t d e turn kept less is goes =
      let left : suc (all - (call + 1)) ≡ all - call = omega (arith, less) in
      let number : call + 1 + 1 ≡ suc (call + 1) = omega arith in
      let goes' = subst (λ (n : ℕ). GoesOn Passes Tells Takes Gives
      (Works Passes Tells Takes Gives turns (all - (call + 1)) n) turn u e t kept) number
      goes in
      subst (λ (n : ℕ). Works Passes Tells Takes Gives turns n (call + 1) s d t kept) left
      (one_turn turns (all - (call + 1)) (call + 1) s u t d e turn kept is goes')

  -- a take after which the worker goes on
  pub goes_on : (turns turns' all call : ℕ) (s0 s u : S) (d0 d e : Draws) (kept kept' : List ℕ) (turn : Turn JobView)
      (now : Option JobView)
      → Ends turns all s0 d0 call s d kept → call < all → turns' ≡ turns → turn ≡ W.On now
      → IsTurn Passes Tells Takes Gives turns' (call + 1) s d turn u e → kept' ≡ kept ++ place_kept now
      → Ends turns all s0 d0 (call + 1) u e kept'
  goes_on turns turns' all call s0 s u d0 d e kept kept' turn now ends less same on is more t later works =
      let is' = subst (λ (n : ℕ). IsTurn Passes Tells Takes Gives n (call + 1) s d (W.On now) u e) same
      (subst (λ (w : Turn JobView). IsTurn Passes Tells Takes Gives turns' (call + 1) s d w u e) on is) in
      let whole = ends t (place_kept now ++ later)
      (next_turn turns all call s u t d e (W.On now) (place_kept now ++ later) less is' (later, works, refl)) in
      subst (λ (ns : List ℕ). Works Passes Tells Takes Gives turns all 1 s0 d0 t ns)
      (sym (append_assoc' kept (place_kept now) later) ∙ ap (λ (ns : List ℕ). ns ++ later) (sym more)) whole

  -- a take at which it ends
  pub is_over : (turns turns' all call : ℕ) (s0 s u : S) (d0 d e : Draws) (kept : List ℕ) (turn : Turn JobView)
      → Ends turns all s0 d0 call s d kept → call < all → turns' ≡ turns → turn ≡ W.Over
      → IsTurn Passes Tells Takes Gives turns' (call + 1) s d turn u e
      → Works Passes Tells Takes Gives turns all 1 s0 d0 u kept
  is_over turns turns' all call s0 s u d0 d e kept turn ends less same over is =
      let is' = subst (λ (n : ℕ). IsTurn Passes Tells Takes Gives n (call + 1) s d W.Over u e) same
      (subst (λ (w : Turn JobView). IsTurn Passes Tells Takes Gives turns' (call + 1) s d w u e) over is) in
      subst (λ (ns : List ℕ). Works Passes Tells Takes Gives turns all 1 s0 d0 u ns) (append_nil kept)
      (ends u [] (next_turn turns all call s u u d e W.Over [] less is' (refl, refl)))

  -- the last take of all
  pub at_end : (turns all call : ℕ) (s0 s : S) (d0 d : Draws) (kept : List ℕ) → Ends turns all s0 d0 call s d kept
      → call ≡ all
      → Works Passes Tells Takes Gives turns all 1 s0 d0 s kept
  at_end turns all call s0 s d0 d kept ends last =
      let none : zero ≡ all - call = omega (arith, last) in
      subst (λ (ns : List ℕ). Works Passes Tells Takes Gives turns all 1 s0 d0 s ns) (append_nil kept)
      (ends s [] (subst (λ (n : ℕ). Works Passes Tells Takes Gives turns n (call + 1) s d s []) none
      (no_turn turns (call + 1) s d)))

module _ {S : Type 0} (Told : ℕ → Type 0) (Gives : S → JobView → ℕ → ℕ → Given JobView → S → Type 0) where
  -- one more task
  pub gives_one : (turns place : ℕ) (tasks : List Task) (s t u : S) (task : Task) (answer : Given JobView)
      (kept : List ℕ)
      → GivesAll Told Gives turns place tasks s t kept → Gives t (begun (place + length tasks) task) 0 turns answer u
      → TellsOfKept Told answer → GivesAll Told Gives turns place (tasks ++ task ∷ []) s u (kept ++ kept_after answer)
  gives_one turns place [] s t u task answer kept gives one told =
      let here : place + 0 ≡ place = omega arith in
      let one' = subst (λ (n : ℕ). Gives t (begun n task) 0 turns answer u) here one in (
        u,
        answer,
        [],
        subst (λ (x : S). Gives x (begun place task) 0 turns answer u) gives.0 one',
        told,
        (refl, refl),
        ap (λ (ns : List ℕ). ns ++ kept_after answer) gives.1 ∙ sym (append_nil (kept_after answer)),
      )
  gives_one turns place (first ∷ rest) s t u task answer kept gives one told =
      let here : place + suc (length rest) ≡ suc place + length rest = omega arith in
      let one' = subst (λ (n : ℕ). Gives t (begun n task) 0 turns answer u) here one in
      let goes = gives_one turns (suc place) rest gives.0 t u task answer gives.2 gives.5 one' told in (
        gives.0,
        gives.1,
        gives.2 ++ kept_after answer,
        gives.3,
        gives.4,
        goes,
        ap (λ (ns : List ℕ). ns ++ kept_after answer) gives.6
            ∙ append_assoc' (kept_after gives.1) gives.2 (kept_after answer),
      )

  pub gives_more : (turns turns' n : ℕ) (tasks : List Task) (s0 s u : S) (task : Task) (job : JobView)
      (answer : Given JobView) (kept kept' : List ℕ)
      → n < length tasks → GivesAll Told Gives turns 0 (take n tasks) s0 s kept → get_or tasks n task ≡ task
      → job ≡ begun n task
      → turns' ≡ turns
      → Gives s job 0 turns' answer u → TellsOfKept Told answer → kept' ≡ kept ++ kept_after answer
      → GivesAll Told Gives turns 0 (take (n + 1) tasks) s0 u kept'
  gives_more turns turns' n tasks s0 s u task job answer kept kept' less gives at job_is same one told more =
      let here : n ≡ 0 + length (take n tasks) = omega (arith, length-take n tasks, less) in
      let one' = subst (λ (m : ℕ). Gives s (begun m task) 0 turns answer u) here
      (subst (λ (m : ℕ). Gives s (begun n task) 0 m answer u) same (subst (λ (j : JobView). Gives s j 0 turns' answer u)
      job_is one)) in
      let all = gives_one turns 0 (take n tasks) s0 s u task answer kept gives one' told in
      let front = take_more tasks n task less ∙ ap (λ (x : Task). take n tasks ++ x ∷ []) at in
      subst (λ (ns : List ℕ). GivesAll Told Gives turns 0 (take (n + 1) tasks) s0 u ns) (sym more)
      (subst (λ (ts : List Task). GivesAll Told Gives turns 0 ts s0 u (kept ++ kept_after answer)) (sym front) all)

-- lists by their places
pub are_each : {A B : Type 0} (R : A → B → Type 0) (xs : List A) (ys : List B) → length ys ≡ length xs
    → ((i : ℕ) (a : A) (b : B) → i < length xs → R (get_or xs i a) (get_or ys i b)) → AreEach R xs ys
are_each R [] [] len each = tt
are_each R [] (y ∷ ys) len each = absurd (omega (arith, len))
are_each R (x ∷ xs) [] len each = absurd (omega (arith, len))
are_each R (x ∷ xs) (y ∷ ys) len each = (
  each 0 x y (omega arith),
  are_each R xs ys (omega (arith, len))
      (λ i a b less. each (suc i) a b (omega (arith, less))),
)

pub all_push : {A : Type 0} (P : A → Type 0) (xs : List A) (x : A) → AllByRecursion P xs → P x
    → AllByRecursion P (xs ++ x ∷ [])
all_push P [] x all last = (last, tt)
all_push P (y ∷ ys) x all last = (all.0, all_push P ys x all.1 last)

pub map_push : {A B : Type 0} (f : A → B) (xs : List A) (x : A) → map f (xs ++ x ∷ []) ≡ map f xs ++ (f x ∷ [])
map_push f [] x = refl
map_push f (y ∷ ys) x = ap (λ zs. f y ∷ zs) (map_push f ys x)

-- where all came back with what they kept, each has run to its end
abbrev pub ended : {B E A : Type 0} (last : B → PayPassView JobView) (kept : B → Result (Vec JobView A) E) → B → Ended
ended last kept back = record { last = last back; kept = places_of (kept back) }

pub each_ran : {B E A : Type 0} (firsts : List (PayPassView JobView)) (backs : List B) (last : B → PayPassView JobView)
    (kept : B → Result (Vec JobView A) E)
    (R : PayPassView JobView → PayPassView JobView → List ℕ → Type 0)
    → AreEach (λ first back. IfOk (kept back) (λ v. R first (last back) (map (λ done. done.place) v.items))) firsts
    backs
    → AllByRecursion (λ back. IsOk (kept back)) backs
    → AreEach (λ first end. R first end.last end.kept) firsts (map (ended last kept) backs)
each_ran [] [] last kept R run ok = tt
each_ran [] (b ∷ bs) last kept R run ok = run
each_ran (a ∷ rest) [] last kept R run ok = run
each_ran {B} {E} {A} (a ∷ rest) (b ∷ bs) last kept R run ok =
    (one (kept b) run.0 ok.0, each_ran rest bs last kept R run.1 ok.1) where
      one : (r : Result (Vec JobView A) E) → IfOk r (λ v. R a (last b) (map (λ done. done.place) v.items)) → IsOk r
          → R a (last b) (places_of r)
      one (Ok v) found there = found
      one (Err e) found there = absurd (let h = there in cc)

-- the last passes
pub lasts : {B E A : Type 0} (last : B → PayPassView JobView) (kept : B → Result (Vec JobView A) E) (backs : List B)
    → map last backs ≡ map (λ end. end.last) (map (ended last kept) backs)
lasts last kept [] = refl
lasts last kept (b ∷ bs) = ap (λ ps. last b ∷ ps) (lasts last kept bs)
