-- From each call of a loop to what all its calls did.
use Rattle.std.proofs.Common.{◌≡◌, ◌≢◌, ◌<◌, ◌+◌, ◌-◌, ℕ, suc, arith, sym, ap, subst, ◌∙◌, refl, inl, inr, add-one}
use Rattle.std.proofs.Common.{Option, Some, None, List, [], ◌∷◌, ◌++◌, length, get_or, drop, drop-cons, length-append}
use Rattle.std.proofs.lemmas.List.{append_assoc, append-nil}
use Rattle.std.proofs.Math.ListN.{set}
use Rattle.std.proofs.Math.Seq.{drop-length, set-append_seam}
use Rattle.kfifo_c.specs.Many.{GivesEach, TakesEach}

module _ {A S : Type 0} (gives : ℕ → A → S → S → Type 0) (done : A) where
  -- whatever the calls of the values from i on do, all calls do that and what those before i did
  abbrev pub GivesOn : List ℕ → ℕ → S → S → Type 0
  GivesOn values i first now = (count : ℕ) (last : Option A) (new : S)
      → GivesEach gives done (drop i values) count last now new
      → GivesEach gives done values (i + count) last first new

  pub gives-start : (values : List ℕ) (s : S) → GivesOn values 0 s s
  gives-start values s count last new each =
      let e : count ≡ 0 + count = omega arith in subst (λ n. GivesEach gives done values n last s new) e each

  -- the call of value i was done
  pub gives-more : (values : List ℕ) (i : ℕ) (first old mid : S) (answer : A) → i < length values
      → gives (get_or values i 0) answer old mid → answer ≡ done → GivesOn values i first old
      → GivesOn values (i + 1) first mid
  gives-more values i first old mid answer below made is before count last new each =
      let rest : GivesEach gives done (drop (suc i) values) count last mid new =
      subst (λ n. GivesEach gives done (drop n values) count last mid new) (add-one i) each in
      let all : GivesEach gives done (get_or values i 0 ∷ drop (suc i) values) (suc count) last old new =
      (answer, mid, made, inl (is, count, refl, rest)) in
      let here : GivesEach gives done (drop i values) (suc count) last old new =
      subst (λ xs. GivesEach gives done xs (suc count) last old new) (sym (drop-cons values i 0 below)) all in
      let e : i + suc count ≡ (i + 1) + count = omega arith in
      subst (λ n. GivesEach gives done values n last first new) e (before (suc count) last new here)

  -- it was not
  pub gives-stop : (values : List ℕ) (i : ℕ) (first old new : S) (answer : A) → i < length values
      → gives (get_or values i 0) answer old new → answer ≢ done → GivesOn values i first old
      → GivesEach gives done values i (Some answer) first new
  gives-stop values i first old new answer below made other before =
      let all : GivesEach gives done (get_or values i 0 ∷ drop (suc i) values) 0 (Some answer) old new =
      (answer, new, made, inr (other, refl, refl, refl)) in
      let here : GivesEach gives done (drop i values) 0 (Some answer) old new =
      subst (λ xs. GivesEach gives done xs 0 (Some answer) old new) (sym (drop-cons values i 0 below)) all in
      let e : i + 0 ≡ i = omega arith in
      subst (λ n. GivesEach gives done values n (Some answer) first new) e (before 0 (Some answer) new here)

  -- all were done
  pub gives-all : (values : List ℕ) (i : ℕ) (first new : S) → i ≡ length values → GivesOn values i first new
      → GivesEach gives done values (length values) None first new
  gives-all values i first new end before =
      let none : drop i values ≡ [] = ap (λ n. drop n values) end ∙ drop-length values in
      let here : GivesEach gives done (drop i values) 0 None new new =
      subst (λ xs. GivesEach gives done xs 0 None new new) (sym none) (refl, refl, refl) in
      let e : i + 0 ≡ length values = omega arith in
      subst (λ n. GivesEach gives done values n None first new) e (before 0 None new here)

module _ {A S : Type 0} (takes : A → S → S → Type 0) (got : ℕ → A) where
  -- whatever the calls from number i on do, all calls do that and what those before did, from which these values came
  abbrev pub TakesOn : ℕ → ℕ → List ℕ → S → S → Type 0
  TakesOn most i out first now = (left : ℕ) (others : List ℕ) (last : Option A) (new : S) → i + left ≡ most
      → TakesEach takes got left others last now new → TakesEach takes got most (out ++ others) last first new

  -- those values are written over the first ones, and the places behind them are as they were
  pub record Takes (i : ℕ) (old now : List ℕ) (first s : S) : Type 0 where
    pub out : List ℕ
    pub count : length out ≡ i
    pub written : now ≡ out ++ drop i old
    pub on : TakesOn (length old) i out first s

  pub takes-start : (old : List ℕ) (s : S) → Takes 0 old old s s
  takes-start old s = record {
    out = [];
    count = refl;
    written = refl;
    on = λ left others last new sum each.
        let e : left ≡ length old = omega arith in subst (λ n. TakesEach takes got n others last s new) e each;
  }

  -- call i came to this value, and it is written
  pub takes-more : (i : ℕ) (old now : List ℕ) (first s mid : S) (answer : A) (value : ℕ) → i < length old
      → takes answer s mid → answer ≡ got value → Takes i old now first s
      → Takes (i + 1) old (set now i value) first mid
  takes-more i old now first s mid answer value below made is before =
      let e : drop i old ≡ get_or old i 0 ∷ drop (suc i) old = drop-cons old i 0 below in
      let rest : List ℕ = drop (suc i) old in
      record {
        out = before.out ++ value ∷ [];
        count = length-append before.out (value ∷ []) ∙ ap (λ n. n + 1) before.count;
        written = ap (λ l. set l i value) (before.written ∙ ap (λ l. before.out ++ l) e)
            ∙ ap (λ n. set (before.out ++ get_or old i 0 ∷ rest) n value) (sym before.count)
            ∙ set-append_seam before.out (get_or old i 0) rest value ∙ sym (append_assoc before.out (value ∷ []) rest)
            ∙ ap (λ n. (before.out ++ value ∷ []) ++ drop n old) (sym (add-one i));
        on = λ left others last new sum each.
            let count : i + suc left ≡ length old = omega arith in
            let all : TakesEach takes got (suc left) (value ∷ others) last s new =
            (answer, mid, made, inl (value, others, is, refl, each)) in
            subst (λ l. TakesEach takes got (length old) l last first new)
            (sym (append_assoc before.out (value ∷ []) others))
            (before.on (suc left) (value ∷ others) last new count all);
      }

  -- what is written, and what all calls did
  pub record Took (count : ℕ) (old now : List ℕ) (last : Option A) (first new : S) : Type 0 where
    pub out : List ℕ
    pub written : now ≡ out ++ drop (length out) old
    pub is : count ≡ length out
    pub each : TakesEach takes got (length old) out last first new

  -- it came to none
  pub takes-stop : (i : ℕ) (old now : List ℕ) (first s new : S) (answer : A) → i < length old → takes answer s new
      → ((value : ℕ) → answer ≢ got value) → Takes i old now first s → Took i old now (Some answer) first new
  takes-stop i old now first s new answer below made none before =
      let left : ℕ = length old - suc i in
      let count : i + suc left ≡ length old = omega arith in
      record {
        out = before.out;
        written = before.written ∙ ap (λ n. before.out ++ drop n old) (sym before.count);
        is = sym before.count;
        each = subst (λ l. TakesEach takes got (length old) l (Some answer) first new) (append-nil before.out)
            (before.on (suc left) [] (Some answer) new count (answer, new, made, inr (none, refl, refl, refl)));
      }

  -- each came to a value
  pub takes-all : (i : ℕ) (old now : List ℕ) (first new : S) → i ≡ length old → Takes i old now first new
      → Took (length old) old now None first new
  takes-all i old now first new end before =
      let count : i + 0 ≡ length old = omega arith in
      record {
        out = before.out;
        written = before.written ∙ ap (λ n. before.out ++ drop n old) (sym before.count);
        is = sym (before.count ∙ end);
        each = subst (λ l. TakesEach takes got (length old) l None first new) (append-nil before.out)
            (before.on 0 [] None new count (refl, refl, refl));
      }
