-- Two histories of the same calls, each with numbers of its own. A call may seem to take longer in the first of them,
-- as to someone who watches from outside, so fewer calls seem to precede others there.
use Rattle.std.specs.Prelude.{ℕ, ◌≡◌, ◌<◌, length, List, Some}
use Rattle.kfifo_model.specs.declared.calls.End.{End}
use Rattle.kfifo_model.specs.declared.calls.Call.{Call}
use Rattle.kfifo_model.specs.Histories.{call, Precedes}

-- The numbers below a and those below b, one to one. What to and from give past these is not said.
pub record Bijects (a b : ℕ) : Type 0 where
  pub to : ℕ → ℕ
  pub from : ℕ → ℕ
  pub to_within : (n : ℕ) → n < a → to n < b
  pub from_within : (n : ℕ) → n < b → from n < a
  pub forth : (n : ℕ) → n < a → from (to n) ≡ n
  pub back : (n : ℕ) → n < b → to (from n) ≡ n

-- The calls of g are the calls of h under other numbers, all of them finished, and what precedes in g precedes in h.
pub record Matches (g h : List Call) : Type 0 where
  -- a call's number in h by the one in g, and back
  pub numbers : Bijects (length g) (length h)
  pub same_op : (n : ℕ) → n < length g → (call g n).op ≡ (call h (numbers.to n)).op
  -- both are finished, with one answer
  pub answers : (n : ℕ) → n < length g
      → (e : End) × (f : End) × ((call g n).end ≡ Some e) × ((call h (numbers.to n)).end ≡ Some f)
      × (e.answer ≡ f.answer)
  pub keeps : (c d : ℕ) → c < length g → d < length g → Precedes g c d → Precedes h (numbers.to c) (numbers.to d)
