-- The ranks of a legal order for k = 1: each is 0.
use Rattle.std.proofs.Common.{ℕ, ◌≡◌, ◌++◌, ◌+◌, List, [], ◌∷◌, Option, Some, None, ap, arith, cond, map, refl, ◌∙◌}
use Rattle.std.specs.Prelude.{max}
use Rattle.std.proofs.lemmas.Bool.{eq-eqb}
use Rattle.kfifo_model.specs.declared.calls.Call.{Call}
use Rattle.kfifo_model.specs.declared.effects.Effect.{Effect}
use Rattle.kfifo_model.specs.declared.effects.Effect.TheVariants.{Adds, Takes, FindsNone, Refused, Wrong}
use Rattle.kfifo_model.specs.Histories.{IsLegal, does}
use Rattle.kfifo_model.specs.Lists.{place}
use Rattle.kfifo_model.specs.Ranks.{rank, ranks_at, ranks_of}
use Rattle.kfifo_model.specs.Relaxed.{IsRun, Leaves, next}
use Rattle.kfifo_model.proofs.Greedy.{no_run, run_on}
use Rattle.kfifo_judge.specs.Numbers.{greatest}

same_item : (x y : ℕ) → Some y ≡ Some x → y ≡ x
same_item x y e = cc

-- the item that goes first stands first
stands_first : (items after : List ℕ) (x : ℕ) → Leaves 1 items (Takes x) after → place items x ≡ 0
stands_first [] after x went = absurd (cc)
stands_first (y ∷ items) after x went =
    let i = went.0 in
    let lt = went.1 in
    let zero : i ≡ 0 = omega (arith, lt) in
    let same : y ≡ x = same_item x y (rw zero at went.2) in
    ap (λ b. cond b 0 (place items x + 1)) (eq-eqb y x same)

none_greater : (items after : List ℕ) (e : Effect) (ranks : List ℕ) → Leaves 1 items e after → greatest ranks ≡ 0
    → greatest (rank items e ++ ranks) ≡ 0
none_greater items after (Takes x) ranks went rest =
    ap (λ n. max n (greatest ranks)) (stands_first items after x went) ∙ ap (max 0) rest
none_greater items after (Adds x) ranks went rest = rest
none_greater items after FindsNone ranks went rest = rest
none_greater items after Refused ranks went rest = rest
none_greater items after Wrong ranks went rest = rest

step : (items : List ℕ) (e : Effect) (es : List Effect) → IsRun 1 items (e ∷ es)
    → ((after : List ℕ) → IsRun 1 after es → greatest (ranks_at 1 (Some after) es) ≡ 0)
    → (left : Option (List ℕ)) → next 1 items e ≡ left → greatest (rank items e ++ ranks_at 1 left es) ≡ 0
step items e es run rest None gone = absurd (no_run 1 items e es gone run)
step items e es run rest (Some after) gone =
    none_greater items run.0 e (ranks_at 1 (Some after) es) run.1 (rest after (run_on 1 items after e es gone run))

along : (items : List ℕ) (es : List Effect) → IsRun 1 items es → greatest (ranks_at 1 (Some items) es) ≡ 0
along items [] run = refl
along items (e ∷ es) run = step items e es run (λ after rest. along after es rest) (next 1 items e) refl

pub none_passed : (h : List Call) (order : List ℕ) → IsLegal 1 h order → greatest (ranks_of 1 h order) ≡ 0
none_passed h order legal = along [] (map (does h) order) legal.is_run
