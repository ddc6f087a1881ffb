-- The tokens of an opening, cut off from the thread that has them at first.
use Rattle.std.proofs.Common.{◌≡◌, ◌≢◌, ℕ, zero, suc, ◌+◌, ◌-◌, ◌*◌, ◌<◌, List, [], ◌∷◌, ◌++◌, drop, Option, None, All}
use Rattle.std.proofs.Common.{refl, sym, ap, ◌∙◌, arith, suc-mul}
use Rattle.atomic_table.specs.Table.{Me}
use Rattle.kfifo_live.proofs.Types.{View}
use Rattle.kfifo_live.specs.Schedule.{IsSeated, count_up, hand_of, with_home, less_next}
use Rattle.kfifo_live.specs.Step.{IsAt}
use Rattle.kfifo_live.specs.Pass.{OpenQueue, IsPassOf}
use Rattle.kfifo_live.specs.Payloads.{PayPassView}
use Rattle.kfifo_live.specs.Tokens.{new_token_passes, tokens_from}
use Rattle.kfifo_live.proofs.TokenMoves.{idle_with}

-- the first of some tokens, and those behind it
pub count_first : (token count : ℕ) → count ≢ 0 → count_up token count ≡ token ∷ count_up (token + 1) (count - 1)
count_first token zero some = absurd (some refl)
count_first token (suc count) some = (λ i. token
    ∷ count_up ((let e : suc token ≡ token + 1 = omega arith in e) i)
    ((let e : count ≡ suc count - 1 = omega arith in e) i))

module _ {T : Type 0} where
  -- a thread's tokens at home, and an idle thread that has others
  pub seated_home : {me : Me (Option T) (View T)} {tokens : List ℕ} → IsSeated me.0 → (hand_of me.0).at_home ≡ tokens
      → me ≡ (with_home me.0 tokens, me.1)
  seated_home {me} seated home = λ i. ((seated ∙ ap (with_home me.0) home) i, me.1)

  pub idle_home : {old new : Me (Option T) (View T)} (tokens : List ℕ) → IsAt None old
      → new ≡ (with_home old.0 tokens, old.1)
      → IsAt None new
  idle_home {old} {new} tokens stood is =
      idle_with old new (record {
        at_home = tokens;
        out = (hand_of old.0).out;
        payload = (hand_of old.0).payload;
      }) stood.carries.0 stood
      (ap (λ m. m.0) is) (ap (λ m. m.1) is ∙ stood.carries.1)

  -- the first of so many tokens is cut off
  pub cut_on : (old : Me (Option T) (View T)) {mid new : Me (Option T) (View T)} (first count index : ℕ) → index < count
      → mid ≡ (with_home old.0 (count_up (first + index) (count - index)), old.1) → new ≡ (less_next mid.0, mid.1)
      → new ≡ (with_home old.0 (count_up (first + (index + 1)) (count - (index + 1))), old.1)
  cut_on old first count index less was is =
      is
      ∙ ap (λ m. (less_next m.0, m.1)) was
      ∙ ap (λ (xs : List ℕ). (with_home old.0 (drop 1 xs), old.1))
      (count_first (first + index) (count - index) (λ none. omega (arith, less)))
      ∙ (λ i. (
        with_home old.0 (count_up ((let e : first + index + 1 ≡ first + (index + 1) = omega arith in e) i)
            ((let e : count - index - 1 ≡ count - (index + 1) = omega arith in e) i)),
        old.1,
      ))

  -- a pass more
  pub new_token_passes-snoc : (q : OpenQueue) (first n : ℕ) → new_token_passes {T = T} q first (n + 1)
      ≡ new_token_passes q first n ++ record {
        pass = record { table = q.table; opened = q.opened; thread = first + n; seen = [] };
        tokens = [];
        gifts = [];
      } ∷ []
  new_token_passes-snoc q first zero =
      (λ i. record {
        pass = record {
          table = q.table;
          opened = q.opened;
          thread = (let e : first ≡ first + zero = omega arith in e) i;
          seen = [];
        };
        tokens = [];
        gifts = [];
      } ∷ [])
  new_token_passes-snoc q first (suc n) =
      ap (new_token_passes q first) (let e : suc n + 1 ≡ suc (n + 1) = omega arith in e)
      ∙ ap (λ ps. record {
        pass = record { table = q.table; opened = q.opened; thread = first; seen = [] };
        tokens = [];
        gifts = [];
      } ∷ ps) (new_token_passes-snoc q (suc first) n)
      ∙ (λ i. record {
        pass = record { table = q.table; opened = q.opened; thread = first; seen = [] };
        tokens = [];
        gifts = [];
      } ∷ (new_token_passes q (suc first) n ++ record {
        pass = record {
          table = q.table;
          opened = q.opened;
          thread = (let e : suc first + n ≡ first + suc n = omega arith in e) i;
          seen = [];
        };
        tokens = [];
        gifts = [];
      } ∷ []))

  -- the passes of an opening came from it
  pub token_passes_of_new : (q : OpenQueue) (first count : ℕ)
      → All (λ (p : PayPassView T). IsPassOf q p.pass) (new_token_passes q first count)
  token_passes_of_new q first zero k d less = absurd (omega (arith, less))
  token_passes_of_new q first (suc count) zero d less = (refl, refl)
  token_passes_of_new q first (suc count) (suc k) d less =
      token_passes_of_new q (suc first) count k d (omega (arith, less))

-- tokens behind tokens
pub tokens_from-append : (q : OpenQueue) (first m n : ℕ) → tokens_from q first m ++ tokens_from q (first + m) n
    ≡ tokens_from q first (m + n)
tokens_from-append q first zero n =
    (λ i. tokens_from q ((let e : first + 0 ≡ first = omega arith in e) i) ((let e : n ≡ 0 + n = omega arith in e) i))
tokens_from-append q first (suc m) n =
    ap (λ ts. record { queue = q; number = first } ∷ ts)
    (ap (λ k. tokens_from q (suc first) m ++ tokens_from q k n) (let e : first + suc m ≡ suc first + m =
    omega arith in e)
    ∙ tokens_from-append q (suc first) m n)
    ∙ ap (tokens_from q first) (let e : suc (m + n) ≡ suc m + n = omega arith in e)

pub tokens_from-snoc : (q : OpenQueue) (first n : ℕ)
    → tokens_from q first (n + 1) ≡ tokens_from q first n ++ record { queue = q; number = first + n } ∷ []
tokens_from-snoc q first n = sym (tokens_from-append q first n 1)

-- the tokens of one thread more
pub tokens_go_on : (q : OpenQueue) (thread tokens : ℕ)
    → tokens_from q 1 (thread * tokens) ++ tokens_from q (thread * tokens + 1) tokens
    ≡ tokens_from q 1 ((thread + 1) * tokens)
tokens_go_on q thread tokens =
    ap (λ k. tokens_from q 1 (thread * tokens) ++ tokens_from q k tokens)
    (let e : thread * tokens + 1 ≡ 1 + thread * tokens = omega arith in e)
    ∙ tokens_from-append q 1 (thread * tokens) tokens
    ∙ ap (tokens_from q 1) (let s = suc-mul thread tokens in
    let e = ap (λ (n : ℕ). n * tokens) (let e : suc thread ≡ thread + 1 = omega arith in e) in
    let sum : thread * tokens + tokens ≡ (thread + 1) * tokens = omega (arith, s, e) in sum)
