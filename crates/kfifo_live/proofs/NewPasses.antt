-- The passes of an opening.
use Rattle.std.proofs.Common.{◌≡◌, ℕ, zero, suc, ◌+◌, ◌-◌, ◌*◌, ◌<◌, [], ◌∷◌, ◌++◌, Option, Some, None, get_or}
use Rattle.std.proofs.Common.{replicate, length, refl, sym, ap, ◌∙◌, subst, arith, All}
use Rattle.std.proofs.lemmas.List.{length-replicate}
use Rattle.std.proofs.lemmas.List.Elements.{All-map}
use Rattle.atomic_table.specs.Table.{Me}
use Rattle.kfifo_live.proofs.Types.{Opening, Running, View}
use Rattle.kfifo_machine.specs.Machine.{World, opening, place_of, word_at}
use Rattle.kfifo_live.specs.Schedule.{IsSmall, part, view_of, fresh, first_hand, seen_of, gifts_of, hand_of, first_part}
use Rattle.kfifo_live.specs.Schedule.{other_parts}
use Rattle.kfifo_live.specs.Hands.{carrying}
use Rattle.kfifo_live.specs.Step.{IsAt}
use Rattle.kfifo_live.specs.Pass.{OpenQueue, new_passes, IsPassOf, IsPass, IsZeroed}
use Rattle.kfifo_live.specs.Payloads.{PayPassView, new_pay_passes}
use Rattle.kfifo_live.specs.Stamps.{Logged, logged_by, new_logs}

pub fresh_more : {T : Type 0} (tokens first count : ℕ) → first < count
    → fresh {T = T} tokens first (count - first)
    ≡ part first [] [] (first_hand tokens first) ∷ fresh tokens (first + 1) (count - (first + 1))
fresh_more tokens first count lt =
    let n : count - first ≡ suc (count - (first + 1)) = omega arith in
    let m : suc first ≡ first + 1 = omega arith in
    ap (fresh tokens first) n
    ∙ ap (λ (k : ℕ). part first [] [] (first_hand tokens first) ∷ fresh tokens k (count - (first + 1))) m

pub new_passes-snoc : (q : OpenQueue) (first n : ℕ)
    → new_passes q first (n + 1) ≡ new_passes q first n ++ record {
      table = q.table;
      opened = q.opened;
      thread = first + n;
      seen = [];
    } ∷ []
new_passes-snoc q first zero = ap (λ (k : ℕ). record { table = q.table; opened = q.opened; thread = k; seen = [] } ∷ [])
    (let e : first ≡ first + zero = omega arith in e)
new_passes-snoc q first (suc n) =
    ap (new_passes q first) (let e : suc n + 1 ≡ suc (n + 1) = omega arith in e)
    ∙ ap (λ ps. record {
      table = q.table;
      opened = q.opened;
      thread = first;
      seen = [];
    } ∷ ps) (new_passes-snoc q (suc first) n)
    ∙ ap (λ (k : ℕ). record { table = q.table; opened = q.opened; thread = first; seen = [] }
    ∷ (new_passes q (suc first) n ++ record { table = q.table; opened = q.opened; thread = k; seen = [] } ∷ []))
    (let e : suc first + n ≡ first + suc n = omega arith in e)

none_at : (n i : ℕ) → get_or (replicate {A = Option Running} n None) i None ≡ None
none_at zero i = refl
none_at (suc n) zero = refl
none_at (suc n) (suc i) = none_at n i

idle_at : (o : Opening) (thread : ℕ) → place_of (opening o.shape o.threads) thread ≡ None
unfolding opening place_of
idle_at o thread = none_at o.threads thread

inside : (o : Opening) (thread : ℕ) → thread < o.threads → thread < length (opening o.shape o.threads).places
unfolding opening
inside o thread lt = let idle : Option Running = None in let n = length-replicate o.threads idle in omega (arith, lt, n)

-- no slot is held where no token is out
pub no_slot : {T : Type 0} (tokens : ℕ) (payload : Option T) → carrying tokens 0 payload ≡ []
no_slot zero payload = refl
no_slot (suc tokens) payload = refl

pub new_pass : {T : Type 0} (o : Opening) (thread : ℕ) (me : Me (Option T) (View T)) → thread < o.threads → IsSmall o
    → me.0 ≡ view_of o (part thread [] [] (first_hand o.tokens thread) ∷ []) → me.1 ≡ [] → IsPass thread me
new_pass {T} o thread me lt few is held =
    let v = view_of o (part thread [] [] (first_hand o.tokens thread) ∷ []) in
    let idle : IsAt None (v, me.1) = record {
      here = opening o.shape o.threads;
      seated = refl;
      reached = refl;
      within = inside o thread lt;
      place_is = idle_at o thread;
      carries = (None, held ∙ sym (no_slot o.tokens None));
    } in
    record {
      alone = ap (λ v. v.parts) is
          ∙ (λ i. part thread (sym (ap seen_of is) i) (sym (ap gifts_of is) i) (sym (ap hand_of is) i)
          ∷ []);
      held = held;
      idle = subst (λ (x : View T). IsAt None (x, me.1)) (sym is) idle;
      few = subst (λ (v : View T). IsSmall v.opened) (sym is) few;
    }

-- the first part is cut off
pub cut_first : {T : Type 0} (o : Opening) (first count : ℕ) (v left right : View T) → first < count
    → v ≡ view_of o (fresh o.tokens first (count - first)) → left ≡ first_part v → right ≡ other_parts v
    → (left ≡ view_of o (part first [] [] (first_hand o.tokens first) ∷ []))
    × (right ≡ view_of o (fresh o.tokens (first + 1) (count - (first + 1)))) × (1 < length v.parts + 1)
cut_first {T} o first count v left right lt is l r =
    let v' = is ∙ ap (view_of o) (fresh_more o.tokens first count lt) in
    let n = ap (λ (x : View T). length x.parts) v' in
    (l ∙ ap first_part v', r ∙ ap other_parts v', omega (arith, n))

-- the words of an opening
pub zeroed : (o : Opening) → IsZeroed o
unfolding opening word_at
zeroed o world reached index = ap (λ (w : World). get_or w.words index 0) (sym (Some-injective _ _ reached))
    ∙ all_zero (2 + o.shape.n * o.shape.k) index
  where
    Some-injective : (v w : World) → Some v ≡ Some w → v ≡ w
    Some-injective v w e = cc

    all_zero : (n i : ℕ) → get_or {A = ℕ} (replicate n 0) i 0 ≡ 0
    all_zero zero i = refl
    all_zero (suc n) zero = refl
    all_zero (suc n) (suc i) = all_zero n i

-- the passes of an opening came from it
pub passes_of_new : (q : OpenQueue) (first count : ℕ) → All (IsPassOf q) (new_passes q first count)
passes_of_new q first zero k d less = absurd (omega (arith, less))
passes_of_new q first (suc count) zero d less = (refl, refl)
passes_of_new q first (suc count) (suc k) d less = passes_of_new q (suc first) count k d (omega (arith, less))

pub logs_of_new : (q : OpenQueue) (first count : ℕ) → All (λ p. IsPassOf q p.pass) (new_logs (new_passes q first count))
logs_of_new q first count = All-map (λ (p : Logged). IsPassOf q p.pass) (λ p. logged_by p []) (new_passes q first count)
    (passes_of_new q first count)

pub pay_passes_of_new : {T : Type 0} (q : OpenQueue) (first count : ℕ)
    → All (λ (p : PayPassView T). IsPassOf q p.pass) (new_pay_passes q first count)
pay_passes_of_new q first zero k d less = absurd (omega (arith, less))
pay_passes_of_new q first (suc count) zero d less = (refl, refl)
pay_passes_of_new q first (suc count) (suc k) d less = pay_passes_of_new q (suc first) count k d (omega (arith, less))
