-- Evidence that a history has no legal order: a few of its calls that make each order fail. The kinds 1 to 4 are
-- those by which Henzinger, Sezgin and Vafeiadis part the ways in which a queue can fail ("Aspect-oriented
-- linearizability proofs", CONCUR 2013), with k older items in place of one. The kinds 5 to 7 are for items that
-- repeat.
use Rattle.std.specs.Prelude.{ℕ, zero, suc, ◌≡◌, ◌+◌, ◌<◌, ◌≤◌, ◌&&◌, leb, Bool, cond, List, Option, Some, None, length}
use Rattle.kfifo_model.specs.declared.calls.Call.{Call}
use Rattle.kfifo_model.specs.declared.calls.End.{End}
use Rattle.std.specs.List.{AllByRecursion}
use Rattle.kfifo_model.specs.Lists.{EachPair, IsIn}
use Rattle.kfifo_model.specs.declared.effects.Effect.TheVariants.{Adds, Takes, FindsNone}
use Rattle.kfifo_model.specs.Overtaking.{adds, takes, ends_below}
use Rattle.kfifo_model.specs.Histories.{call, does, EndsBelow, Precedes, HasNoRepeats}
use Rattle.kfifo_model.specs.Validity.{EndsFrom}

-- an enqueue of x, Done or unfinished
abbrev pub Puts : List Call → ℕ → ℕ → Type 0
Puts h x c = does h c ≡ Adds x

-- a dequeue that returned Got(x)
abbrev pub Gets : List Call → ℕ → ℕ → Type 0
Gets h x c = does h c ≡ Takes x

-- how many numbers below n pass the test
abbrev pub count_below : (ℕ → Bool) → ℕ → ℕ
count_below test zero = 0
count_below test (suc n) = count_below test n + cond (test n) 1 0

abbrev pub puts_of : List Call → ℕ → ℕ
puts_of h x = count_below (λ c. adds x (does h c)) (length h)

abbrev pub gets_of : List Call → ℕ → ℕ
gets_of h x = count_below (λ c. takes x (does h c)) (length h)

-- The item x is single: call p alone puts it, and at most one call gets it.
pub record IsSingle (h : List Call) (x p : ℕ) : Type 0 where
  pub puts : Puts h x p
  pub alone : (c : ℕ) → Puts h x c → c ≡ p
  pub once : (c d : ℕ) → Gets h x c → Gets h x d → c ≡ d

-- The certain presence of the single item that call p puts: after the call's end, and before the call that gets it
-- begins.
pub record IsCertainlyThere (h : List Call) (p moment : ℕ) : Type 0 where
  pub item : ℕ
  pub single : IsSingle h item p
  pub put : EndsBelow (call h p).end moment
  pub kept : (g : ℕ) → Gets h item g → moment < (call h g).first

-- a moment of a call, from its first step to its last
abbrev pub IsMomentOf : List Call → ℕ → ℕ → Type 0
IsMomentOf h c moment = ((call h c).first ≤ moment) × EndsFrom moment (call h c).end

-- 1: a call gets x, and precedes each call that puts x, if any does
abbrev pub IsNeverPut : List Call → ℕ → Type 0
IsNeverPut h get = (x : ℕ) × Gets h x get × ((p : ℕ) → Puts h x p → Precedes h get p)

-- 2: more calls get x than put x, and this is the last of those that get it
abbrev pub IsTakenTwice : List Call → ℕ → Type 0
IsTakenTwice h get = (x : ℕ) × Gets h x get × ((g : ℕ) → Gets h x g → g ≤ get) × (puts_of h x < gets_of h x)

-- 3: A call returned Empty, and at each of its moments the item of one of these puts was certainly there. The item of
-- each of these puts was there at some moment of the call; a moment may have several.
pub record IsNotEmpty (h : List Call) (c : ℕ) (puts : List ℕ) : Type 0 where
  pub empty : does h c ≡ FindsNone
  pub covered : (moment : ℕ) → IsMomentOf h c moment → (p : ℕ) × IsIn p puts × IsCertainlyThere h p moment
  pub met : AllByRecursion (λ p. (moment : ℕ) × IsMomentOf h c moment × IsCertainlyThere h p moment) puts
  pub distinct : HasNoRepeats puts

-- The single item that p puts is certainly older than what `put` puts, and there at the call `get`: p precedes `put`,
-- and no call gets the item but one that `get` precedes.
pub record IsOlder (h : List Call) (get put p : ℕ) : Type 0 where
  pub item : ℕ
  pub single : IsSingle h item p
  pub before : Precedes h p put
  pub kept : (g : ℕ) → Gets h item g → Precedes h get g

-- calls in ascending order
abbrev pub Rise : List ℕ → Type 0
Rise calls = EachPair (λ c d. c < d) calls

-- 4: A call gets a single item while the items of these k puts, in ascending order, are certainly older and there.
pub record IsTooYoung (k : ℕ) (h : List Call) (get : ℕ) (puts : List ℕ) : Type 0 where
  pub item : ℕ
  pub put : ℕ
  pub gets : Gets h item get
  pub single : IsSingle h item put
  pub older : AllByRecursion (IsOlder h get put) puts
  pub rising : Rise puts
  pub count : length puts ≡ k

-- a call's last step, or 0 where it has not ended
abbrev pub last_step : Option End → ℕ
last_step (Some end) = end.last
last_step None = 0

-- how many puts of x have begun by a step
abbrev pub puts_begun : List Call → ℕ → ℕ → ℕ
puts_begun h x step = count_below (λ c. adds x (does h c) && leb (call h c).first step) (length h)

-- how many gets of x have ended by a step
abbrev pub gets_ended : List Call → ℕ → ℕ → ℕ
gets_ended h x step = count_below (λ c. takes x (does h c) && leb (last_step (call h c).end) step) (length h)

-- by a step, more gets of x have ended than puts of x have begun
abbrev pub IsOverdrawn : List Call → ℕ → ℕ → Type 0
IsOverdrawn h x step = puts_begun h x step < gets_ended h x step

-- 5: a call gets x, and by its end more gets of x have ended than puts of x have begun
abbrev pub IsTakenTooSoon : List Call → ℕ → Type 0
IsTakenTooSoon h get = (x : ℕ) × Gets h x get × IsOverdrawn h x (last_step (call h get).end)

-- how many puts of x have ended before a step
abbrev pub puts_ended : List Call → ℕ → ℕ → ℕ
puts_ended h x step = count_below (λ c. adds x (does h c) && ends_below (call h c).end step) (length h)

-- how many gets of x have begun by a step
abbrev pub gets_begun : List Call → ℕ → ℕ → ℕ
gets_begun h x step = count_below (λ c. takes x (does h c) && leb (call h c).first step) (length h)

-- an x is certainly left at a step: more puts of x have ended before it than gets of x have begun by it
abbrev pub IsLeft : List Call → ℕ → ℕ → Type 0
IsLeft h x step = gets_begun h x step < puts_ended h x step

-- 6: A call returned Empty, and as it began, and as each call began meanwhile, some item was certainly left.
pub record HasItemsLeft (h : List Call) (c : ℕ) : Type 0 where
  pub empty : does h c ≡ FindsNone
  pub left : (b : ℕ) → b < length h → IsMomentOf h c (call h b).first → (x : ℕ) × IsLeft h x (call h b).first

-- how many gets of x precede a call
abbrev pub gets_before : List Call → ℕ → ℕ → ℕ
gets_before h x d = count_below (λ c. takes x (does h c) && ends_below (call h c).end (call h d).first) (length h)

-- What p puts is certainly older than what `put` puts, and left at the call `get`: p precedes `put`, and no more gets
-- of the item have begun by the end of `get` than puts of it ended before p did.
pub record IsOlderCopy (h : List Call) (get put p : ℕ) : Type 0 where
  pub item : ℕ
  pub puts : Puts h item p
  pub before : Precedes h p put
  pub kept : gets_begun h item (last_step (call h get).end) ≤ puts_ended h item (last_step (call h p).end)

-- 7: A call gets x, and some call puts x, before which as many puts of x begin as gets of x precede the call. What
-- these k calls put, in ascending order, is certainly older than what that one puts, and left.
pub record IsOlderLeft (k : ℕ) (h : List Call) (get : ℕ) (puts : List ℕ) : Type 0 where
  pub item : ℕ
  pub put : ℕ
  pub gets : Gets h item get
  pub adds_it : Puts h item put
  pub few : count_below (λ c. adds item (does h c)) put ≡ gets_before h item get
  pub older : AllByRecursion (IsOlderCopy h get put) puts
  pub rising : Rise puts
  pub count : length puts ≡ k
