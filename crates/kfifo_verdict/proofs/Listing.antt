-- The calls of a side, listed one after the other, and sorted.
use Rattle.std.proofs.Common.{ℕ, ◌≡◌, ◌+◌, ◌&&◌, cond, count_by, false, List, [], ◌∷◌, ◌++◌, sym, ◌∙◌, ap, arith, Some}
use Rattle.std.proofs.Common.{None}
use Rattle.std.proofs.lemmas.Bool.{and_left, and_right, false_from_ne_true}
use Rattle.std.proofs.lemmas.List.Sorted.{sum_by-IsPermutation}
use Rattle.std.specs.List.Sorted.{IsPermutation}
use Rattle.kfifo_verdict.proofs.Types.{Call}
use Rattle.kfifo_model.specs.Histories.{call, does}
use Rattle.kfifo_model.specs.Index.{side_effect}
use Rattle.kfifo_model.specs.declared.effects.Side.{Side}
use Rattle.kfifo_verdict.specs.declared.steps.Key.{Key}
use Rattle.kfifo_verdict.specs.Finding.{has_item}
use Rattle.kfifo_verdict.specs.Steps.{counts, is_within, IsKey, has_key, is_keyed, AreKeyed}
use Rattle.kfifo_verdict.proofs.Counting.{count_push, below_more}
use Rattle.kfifo_verdict.proofs.Telling.{side_passes, side_is}

pub keyed_skip : (key : Key) (h : List Call) (side : Side) (n : ℕ) (steps : List (ℕ × ℕ × ℕ))
    → AreKeyed key h side n steps
    → ((x t : ℕ) → has_key key h side x t n ≡ false) → AreKeyed key h side (n + 1) steps
keyed_skip key h side n steps was none y t =
    let on = was y t in
    let next = below_more (has_key key h side y t) n in
    let zero_ : ◌≡◌ {A = ℕ} (cond (has_key key h side y t n) 1 0) 0 = ap (λ b. cond b 1 0) (none y t) in
    omega (arith, on, next, zero_)

pub of_no_item : (key : Key) (h : List Call) (side : Side) (n : ℕ) → ((x : ℕ) → does h n ≡ side_effect side x → ⊥)
    → (x t : ℕ)
    → has_key key h side x t n ≡ false
of_no_item key h side n none x t =
    and_left (has_item side h x n) (counts key side n (call h n) t)
    (false_from_ne_true (has_item side h x n) (λ q. none x (side_is side h x n q)))

pub with_no_key : (key : Key) (h : List Call) (side : Side) (n : ℕ) → IsKey key side n (call h n) None → (x t : ℕ)
    → has_key key h side x t n ≡ false
with_no_key key h side n never x t = and_right (has_item side h x n) (counts key side n (call h n) t) (never t)

pub keyed_more : (key : Key) (h : List Call) (side : Side) (n x s : ℕ) (steps more : List (ℕ × ℕ × ℕ))
    → AreKeyed key h side n steps
    → does h n ≡ side_effect side x → IsKey key side n (call h n) (Some s) → more ≡ steps ++ (x, s, n) ∷ []
    → AreKeyed key h side (n + 1) more
keyed_more key h side n x s steps more was is at grown y t =
    let on = was y t in
    let next = below_more (has_key key h side y t) n in
    let push = ap (count_by (is_keyed key side y t)) grown ∙ count_push (is_keyed key side y t) steps (x, s, n) in
    let same : is_keyed key side y t (x, s, n) ≡ has_key key h side y t n =
    ap (λ b. b && is_within key side s t) (sym (side_passes side h x n is y))
    ∙ ap (λ b. has_item side h y n && b) (sym (at t)) in
    let one : ◌≡◌ {A = ℕ} (cond (is_keyed key side y t (x, s, n)) 1 0) (cond (has_key key h side y t n) 1 0) =
    ap (λ b. cond b 1 0) same in
    omega (arith, on, next, push, one)

pub keyed_moved : (key : Key) (h : List Call) (side : Side) (n : ℕ) (steps sorted : List (ℕ × ℕ × ℕ))
    → IsPermutation steps sorted
    → AreKeyed key h side n steps → AreKeyed key h side n sorted
keyed_moved key h side n steps sorted moved was y t =
    sum_by-IsPermutation (λ e. cond (is_keyed key side y t e) 1 0) steps sorted moved ∙ was y t
