-- What a list has before and after a token is taken out of it or put into it.
use Rattle.std.proofs.Common.{◌≡◌, ℕ, zero, suc, List, [], ◌∷◌, ◌++◌, All, Option, None, Some, IfSome, map, refl}
use Rattle.std.proofs.Common.{reverse, sym, ap, subst, inl, inr, ◌∙◌, append_assoc}
use Rattle.std.specs.Option.{MatchOption, option_to_list}
use Rattle.std.proofs.lemmas.List.{append-nil, reverse-append}
use Rattle.std.proofs.lemmas.Option.{none-some}
use Rattle.std.proofs.lemmas.List.Elements.{All-append, All-cons, All-head, All-nil, All-pop, All-push, All-tail}
use Rattle.kfifo_live.specs.Pass.{OpenQueue, PassView}
use Rattle.kfifo_live.specs.Payloads.{PayPassView, TokenView}
use Rattle.kfifo_live.specs.Tokens.{tokens_from}
use Rattle.kfifo_pool.specs.Pooled.{Adds, AreOf, Free, KeepsOne, TakesRecent, all_free}

-- the last of the recent ones is taken
pub takes_recent : (others old new : List TokenView) (answer : Option TokenView) → old ≡ new ++ option_to_list answer
    → (answer ≡ None → old ≡ [])
    → TakesRecent answer (record { recent = old; others = others }) (record { recent = new; others = others })
takes_recent others old new None list none =
    (none refl, ap (λ recent. record { recent = recent; others = others }) (sym (append-nil new) ∙ sym list))
takes_recent others old new (Some token) list none =
    ap (λ l. others ++ l) list ∙ sym (append_assoc others new (token ∷ []))

pub when_none : {A : Type 0} (P : Type 0) (Q : A → Type 0) (answer : Option A) → MatchOption answer P Q → answer ≡ None
    → P
when_none P Q None cases none = cases
when_none P Q (Some a) cases none = absurd (none-some a (sym none))

-- and the tokens are of the queue as before
pub taken_of : (queue : OpenQueue) (old new : List TokenView) (answer : Option TokenView)
    → old ≡ new ++ option_to_list answer → AreOf queue old
    → AreOf queue new × IfSome answer (λ (token : TokenView). token.queue ≡ queue)
taken_of queue old new answer list of = All-pop (λ (t : TokenView). t.queue ≡ queue) old new answer list of

pub recent_of : (queue : OpenQueue) (old new : Free) (answer : Option TokenView) → TakesRecent answer old new
    → AreOf queue (all_free old)
    → AreOf queue (all_free new) × IfSome answer (λ (token : TokenView). token.queue ≡ queue)
recent_of queue old new None takes of =
    taken_of queue (all_free old) (all_free new) None
    (ap all_free (sym takes.1) ∙ sym (append-nil (all_free new))) of
recent_of queue old new (Some token) takes of = taken_of queue (all_free old) (all_free new) (Some token) takes of

-- those that are left behind others
pub last_of : (queue : OpenQueue) (first last : List TokenView) → AreOf queue (first ++ last) → AreOf queue last
last_of queue [] last of = of
last_of queue (token ∷ first) last of =
    last_of queue first last (All-tail (λ (t : TokenView). t.queue ≡ queue) token (first ++ last) of)

pub both_of : (queue : OpenQueue) (first last : List TokenView) → AreOf queue first → AreOf queue last
    → AreOf queue (first ++ last)
both_of queue first last of also = All-append (λ (t : TokenView). t.queue ≡ queue) first last of also

pub none_of : (queue : OpenQueue) (tokens : List TokenView) → tokens ≡ [] → AreOf queue tokens
none_of queue tokens none = subst (AreOf queue) (sym none) (All-nil (λ (t : TokenView). t.queue ≡ queue))

-- and with one more
pub adds_of : (queue : OpenQueue) (token : TokenView) (old new : List TokenView) → token.queue ≡ queue
    → Adds token old new → AreOf queue old → AreOf queue new
adds_of queue token old new is (inl more) of =
    subst (AreOf queue) (sym more) (All-push (λ (t : TokenView). t.queue ≡ queue) old token of is)
adds_of queue token old new is (inr same) of = subst (AreOf queue) (sym same) of

-- a token is put behind the recent ones, and none is laid down
pub keeps_one : (token : TokenView) (old new : List TokenView) → new ≡ old ++ token ∷ [] → KeepsOne token old new
keeps_one token old new more = record {
  kept = old;
  lays = record { laid = []; kept = old; found = []; old_are = refl; new_are = refl; few = λ _. refl };
  adds = inl more;
  few = λ _. more;
}

-- the first ones
pub first_of : (queue : OpenQueue) (first last : List TokenView) → AreOf queue (first ++ last) → AreOf queue first
first_of queue [] last of = All-nil (λ (t : TokenView). t.queue ≡ queue)
first_of queue (token ∷ first) last of = All-cons (λ (t : TokenView). t.queue ≡ queue) token first
    (All-head (λ (t : TokenView). t.queue ≡ queue) token (first ++ last) of)
    (first_of queue first last (All-tail (λ (t : TokenView). t.queue ≡ queue) token (first ++ last) of))

pub reverse_of : (queue : OpenQueue) (tokens : List TokenView) → AreOf queue tokens → AreOf queue (reverse tokens)
reverse_of queue [] of = of
reverse_of queue (token ∷ tokens) of =
    subst (AreOf queue) (sym (reverse-append (token ∷ []) tokens))
    (both_of queue (reverse tokens) (token ∷ [])
    (reverse_of queue tokens (All-tail (λ (t : TokenView). t.queue ≡ queue) token tokens of))
    (first_of queue (token ∷ []) tokens of))

-- a list is filled from the end of others
pub fills_of : (queue : OpenQueue) (old new tokens left moved : List TokenView) → tokens ≡ left ++ moved
    → new ≡ old ++ reverse moved → AreOf queue tokens → AreOf queue old → AreOf queue left × AreOf queue new
fills_of queue old new tokens left moved list filled of before =
    let all = subst (AreOf queue) list of in (
      first_of queue left moved all,
      subst (AreOf queue) (sym filled)
          (both_of queue old (reverse moved) before (reverse_of queue moved (last_of queue left moved all))),
    )

-- all tokens of a queue
pub all_tokens : (queue : OpenQueue) (first count : ℕ) → AreOf queue (tokens_from queue first count)
all_tokens queue first zero = All-nil (λ (t : TokenView). t.queue ≡ queue)
all_tokens queue first (suc count) = All-cons (λ (t : TokenView). t.queue ≡ queue)
    (record { queue = queue; number = first }) (tokens_from queue (suc first) count) refl
    (all_tokens queue (suc first) count)

-- what holds of each element of a list holds of those behind the first one
pub rest_holds : {A : Type 0} (P : A → Type 0) (x : A) (rest all : List A) → all ≡ x ∷ rest → All P all → All P rest
rest_holds P x rest all list holds = All-tail P x rest (subst (All P) list holds)

-- what holds of each pass without payloads holds of each pass
pub each_pass : {T : Type 0} (P : PassView → Type 0) (passes : List (PayPassView T)) → All P (map (λ p. p.pass) passes)
    → All (λ (p : PayPassView T). P p.pass) passes
each_pass P [] all = All-nil (λ (p : PayPassView _). P p.pass)
each_pass P (p ∷ passes) all = All-cons (λ (p : PayPassView _). P p.pass) p passes
    (All-head P p.pass (map (λ p. p.pass) passes) all)
    (each_pass P passes (All-tail P p.pass (map (λ p. p.pass) passes) all))
