-- A call of a pass that has no token between two calls: what it leaves of the pass, and what it did.
use Rattle.std.proofs.Common.{◌≡◌, ℕ, ◌*◌, ◌≤◌, List, [], Option, refl, sym, ap, ◌∙◌, subst}
use Rattle.atomic_table.specs.Table.{Me}
use Rattle.atomic_table.specs.declared.shared.Seat.{Seat}
use Rattle.kfifo_live.proofs.Types.{Answer, Opening, View}
use Rattle.kfifo_model.specs.declared.calls.Answer.TheVariants as A
use Rattle.kfifo_live.specs.Hands.{beside}
use Rattle.kfifo_live.specs.InHand.{GetsToken, HasInHand, PutsToken, pass_in}
use Rattle.kfifo_live.specs.Pass.{queue_of}
use Rattle.kfifo_live.specs.Payloads.{EnqueuesWith, PayPassView, TokenView, TookWhatWasPut}
use Rattle.kfifo_live.specs.Schedule.{gifts_of, seen_of}
use Rattle.kfifo_live.specs.Tokens.{Dequeues, Enqueues, GetsWith, IsTokenPass}
use Rattle.kfifo_live.proofs.TokenMoves.{dequeues_as, enqueues_as, none_in, took_as}

module _ {T : Type 0} where
  pub token_pass : {thread : ℕ} {payload : Option T} {old new : Me (Option T) (View T)} → IsTokenPass thread old
      → HasInHand thread [] 0 payload new → new.0.opened ≡ old.0.opened → IsTokenPass thread new
  token_pass p h same = (none_in h, subst (λ n. n ≤ 65536) (sym (ap (λ (o : Opening). o.threads * o.tokens) same)) p.1)

  -- two moments of a seat at which it has the same pass
  abbrev pub Same : ℕ → PayPassView T → PayPassView T → Type 0
  Same thread old new = (new.pass ≡ old.pass) × (new.gifts ≡ old.gifts)

  pub same_seat : (thread : ℕ) (old new : Seat (Option T) (View T)) → new.table_id ≡ old.table_id
      → new.me.0.opened ≡ old.me.0.opened
      → seen_of new.me.0 ≡ seen_of old.me.0 → gifts_of new.me.0 ≡ gifts_of old.me.0
      → Same thread (pass_in thread old) (pass_in thread new)
  same_seat thread old new table opened seen gifts =
      ((λ i. record { table = table i; opened = opened i; thread = thread; seen = seen i }), gifts)

  -- an enqueue, between two moves of the token alone
  pub enqueues : {thread number s t : ℕ} {home : List ℕ} {payload : Option T} {answer : Answer}
      (at : Seat (Option T) (View T)) {out put : Seat (Option T) (View T)} {was now : PayPassView T} {token : ℕ}
      → PutsToken thread home number payload s t answer out put → number ≡ token
      → pass_in thread at ≡ was → Same thread (pass_in thread at) (pass_in thread out)
      → Same thread (pass_in thread put) now
      → now.tokens ≡ (pass_in thread at).tokens → Enqueues token payload s t answer was now
  enqueues {thread} {number} {s} {t} {home} {payload} {answer} at {out} {put} {was} {now} {token} did is was_is before
      after tokens =
      subst (λ k. Enqueues token payload s t answer k now) was_is (
        subst (λ n. EnqueuesWith n s t answer payload (pass_in thread at) now) is
            (enqueues_as (sym before.0, after.0) (sym before.1, after.1) did.enqueue),
        tokens,
      )

  -- a dequeue, and a move of the token alone
  pub dequeues : {thread s t : ℕ} {home : List ℕ} {answer : Answer} {at got : Seat (Option T) (View T)}
      {was now : PayPassView T}
      → GetsToken thread home s t answer at got → pass_in thread at ≡ was → Same thread (pass_in thread got) now
      → now.tokens ≡ (pass_in thread at).tokens → Dequeues s t answer was now
  dequeues {thread} {s} {t} {home} {answer} {at} {got} {was} {now} did was_is after tokens =
      subst (λ k. Dequeues s t answer k now) was_is (dequeues_as (refl, after.0) (refl, after.1) did.dequeue, tokens)

  -- a token that was taken, and what was put beside it
  pub gets_with : {thread number s t : ℕ} {home : List ℕ} {at got : Seat (Option T) (View T)} {was now : PayPassView T}
      (token : TokenView)
      (payload : Option T) (did : GetsToken thread home s t (A.Got number) at got) → did.payload ≡ payload
      → token ≡ record { queue = queue_of was.pass.table was.pass.opened; number = number }
      → pass_in thread at ≡ was → Same thread (pass_in thread got) now → now.tokens ≡ (pass_in thread at).tokens
      → GetsWith s t token payload was now
  gets_with {thread} {number} {s} {t} {home} {at} {got} {was} {now} token payload did payload_is token_is was_is after
      tokens =
      let taken = did.taken number refl in
      subst (λ x. GetsWith s t x payload was now) (sym token_is) (
        refl,
        ap (beside number) after.1 ∙ taken.2 ∙ payload_is,
        took_as after.0 after.1 (subst (λ x. TookWhatWasPut number x (pass_in thread got)) payload_is taken.3),
        dequeues did was_is after tokens,
      )
