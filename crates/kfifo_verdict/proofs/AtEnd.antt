-- The items that are left, call by call.
use Rattle.std.proofs.Common.{ℕ, ◌≡◌, ◌≢◌, ◌+◌, ◌<◌, true, false, Bool, leb, List, Option, Some, None, length}
use Rattle.std.proofs.Common.{refl, sym, ◌∙◌, ap, inl, inr, arith}
use Rattle.std.proofs.lemmas.Bool.{cases_eq, eq-eqb, eqb-true, false_from_ne_true, false≢true, ne_eqb}
use Rattle.kfifo_model.specs.declared.calls.Call.{Call}
use Rattle.kfifo_model.specs.declared.calls.End.{End}
use Rattle.kfifo_model.specs.declared.effects.Effect.{Effect}
use Rattle.kfifo_model.specs.declared.effects.Effect.TheVariants.{Adds, Takes, FindsNone, Refused, Wrong}
use Rattle.kfifo_model.specs.Histories.{call, does}
use Rattle.kfifo_verdict.specs.declared.tallies.ByItem.{ByItem}
use Rattle.kfifo_verdict.specs.Evidence.{gets_of}
use Rattle.kfifo_verdict.specs.Finding.{AreGets, ArePuts, tally_in}
use Rattle.kfifo_verdict.specs.Remainder.{AreDonePuts, count_in, done_item, done_puts, is_item, is_left, item_done}
use Rattle.kfifo_verdict.specs.Remainder.{left_below}
use Rattle.kfifo_verdict.proofs.Skipping.{count_flat}
use Rattle.kfifo_verdict.proofs.Telling.{puts_pass}
use Rattle.kfifo_verdict.proofs.Younger.{count_no, count_yes}

-- ---- the puts that returned Done

pub puts_skip : (h : List Call) (n : ℕ) (m : ByItem) → AreDonePuts h n m → done_item (call h n) ≡ None
    → AreDonePuts h (n + 1) m
puts_skip h n m was none x =
    was x ∙ sym (count_no (λ c. is_item x (done_item (call h c))) n (ap (is_item x) none))

pub puts_more : (h : List Call) (n x : ℕ) (m more : ByItem) → AreDonePuts h n m → done_item (call h n) ≡ Some x
    → count_in more x ≡ count_in m x + 1 → ((q : ℕ) → q ≢ x → count_in more q ≡ count_in m q)
    → AreDonePuts h (n + 1) more
puts_more h n x m more was is here other q =
    let test : ℕ → Bool = λ c. is_item q (done_item (call h c)) in
    elim (cases_eq q x) [
      | inl e ↦ (
          let one = count_yes test n (ap (is_item q) is ∙ eq-eqb q x e) in
          let old = was q in
          let now : count_in more q ≡ count_in m q + 1 = rw e here in
          omega (arith, one, old, now)
          )
      | inr ne ↦ other q ne ∙ (was q ∙ sym (count_no test n (ap (is_item q) is ∙ ne_eqb q x ne)))
    ]

-- ---- the items that are left

pub left_skip : (h : List Call) (n left : ℕ) → left ≡ left_below h n → is_left h n (done_item (call h n)) ≡ false
    → left ≡ left_below h (n + 1)
left_skip h n left was fails = was ∙ sym (count_no (λ c. is_left h c (done_item (call h c))) n fails)

pub left_more : (h : List Call) (n left : ℕ) → left ≡ left_below h n → is_left h n (done_item (call h n)) ≡ true
    → left + 1 ≡ left_below h (n + 1)
left_more h n left was passes =
    let one = count_yes (λ c. is_left h c (done_item (call h c))) n passes in
    omega (arith, one, was)

-- ---- single items

-- of an item that is put once no earlier call that returned Done put it
done_adds : (end : Option End) (e : Effect) (x : ℕ) → is_item x (item_done end e) ≡ true → e ≡ Adds x
done_adds (Some end) (Adds y) x t = ap Adds (sym (eqb-true x y t))
done_adds (Some end) (Takes y) x t = absurd (false≢true t)
done_adds (Some end) FindsNone x t = absurd (false≢true t)
done_adds (Some end) Refused x t = absurd (false≢true t)
done_adds (Some end) Wrong x t = absurd (false≢true t)
done_adds None e x t = absurd (false≢true t)

some_adds : (end : Option End) (e : Effect) (x : ℕ) → item_done end e ≡ Some x → e ≡ Adds x
some_adds end e x is = done_adds end e x (ap (is_item x) is ∙ eq-eqb x x refl)

none_put : (h : List Call) (puts : ByItem) (n x : ℕ) → ArePuts h puts → n < length h → (tally_in puts x).count ≡ 1
    → done_item (call h n) ≡ Some x → done_puts h x n ≡ 0
none_put h puts n x are inside one is = count_flat (λ c. is_item x (done_item (call h c))) 0 n (omega arith)
    (λ c low lt. false_from_ne_true (is_item x (done_item (call h c))) (λ t.
    let here = (are x).only one n inside (puts_pass h x n (some_adds (call h n).end (does h n) x is)) in
    let there = (are x).only one c (omega (arith, lt, inside))
    (puts_pass h x c (done_adds (call h c).end (does h c) x t)) in
    absurd (omega (arith, here, there, lt))))

pub tells_single : (h : List Call) (puts gets : ByItem) (n x got : ℕ) → ArePuts h puts → AreGets h gets → n < length h
    → (tally_in puts x).count ≡ 1 → got ≡ (tally_in gets x).count → done_item (call h n) ≡ Some x
    → is_left h n (done_item (call h n)) ≡ leb got 0
tells_single h puts gets n x got are taken inside one told is =
    let same : gets_of h x ≡ got = sym (told ∙ (taken x).count) in
    ap (is_left h n) is
    ∙ (ap (λ g. leb g (done_puts h x n)) same ∙ ap (leb got) (none_put h puts n x are inside one is))
