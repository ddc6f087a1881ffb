-- A pass of payloads or tokens that has looked at the ends, or has tried to seal them.
use Rattle.std.proofs.Common.{◌≡◌, ℕ, ◌<◌, List, [], ◌∷◌, ◌++◌, Option, None, Some, sym, ap, ◌∙◌, subst, append_assoc}
use Rattle.atomic_table.specs.Table.{Me}
use Rattle.atomic_table.specs.Seated.{TableId}
use Rattle.kfifo_live.proofs.Types.{Answer, Begin, Opening, Part, View}
use Rattle.kfifo_machine.specs.declared.event.Begin.TheVariants as B
use Rattle.kfifo_machine.specs.Runs.{CompleteExecution}
use Rattle.kfifo_model.specs.declared.calls.Answer.TheVariants as A
use Rattle.kfifo_linear.specs.Seals.{SealedEmpty}
use Rattle.kfifo_live.specs.declared.payload.Taken.{Taken}
use Rattle.kfifo_live.specs.declared.payload.Taken.TheVariants as K
use Rattle.kfifo_live.specs.Hands.{Gifts}
use Rattle.kfifo_live.specs.InHand.{HasInHand}
use Rattle.kfifo_live.specs.Schedule.{AllGiven, GiftsFit, gifts_of, hand_of, seen_of, with_seen, world_after}
use Rattle.kfifo_live.specs.Step.{IsAt, Looks}
use Rattle.kfifo_live.specs.Pass.{Finds, IsSamePass, IsSealedEmpty, PassView, queue_of}
use Rattle.kfifo_live.specs.Payloads.{DequeuesWith, PayPassView, TakesOut, TokenView, pay_pass_view}
use Rattle.kfifo_live.specs.Seals.{FailsToSeal, KeepsTokens, SealsFrom, StaysOpen, WasSeen}
use Rattle.kfifo_live.specs.Tokens.{Dequeues, GetsWith}
use Rattle.kfifo_live.proofs.Made.{makes_call}
use Rattle.kfifo_live.proofs.Passes.{looked}
use Rattle.kfifo_live.proofs.TokenMoves.{hand_of_pass, in_turn_as, pass_of_hand}
use Rattle.kfifo_live.proofs.Sealed.{pass_on, sealed_empty, seen_before, whole_from}

module _ {T : Type 0} {thread : ℕ} {home : List ℕ} {old new : Me (Option T) (View T)}
    (h : HasInHand thread home 0 None old) (slots : new.1 ≡ old.1) where
  -- after a look
  module _ {index word : ℕ} (l : Looks index word old.0 new.0) where
    looked_opened : new.0.opened ≡ old.0.opened
    looked_opened = ap (λ (v : View T). v.opened) l.afterwards

    looked_fit : GiftsFit new.0.opened (seen_of new.0) (gifts_of new.0)
    looked_fit = in_turn_as l.afterwards l.in_turn

    looked_some : 0 < new.0.opened.tokens
    looked_some = subst (λ (o : Opening). 0 < o.tokens) (sym looked_opened) h.some_tokens

    looked_home : (hand_of new.0).at_home ≡ (hand_of old.0).at_home
    looked_home = ap (λ (v : View T). (hand_of v).at_home) l.afterwards

    pub looked_hand : HasInHand thread home 0 None new
    looked_hand = hand_of_pass (looked thread index word old new (pass_of_hand h) slots l) looked_some looked_fit
        (looked_home ∙ h.at_home)

    pub looked_keeps : (table table_now : TableId)
        → KeepsTokens (pay_pass_view table thread old.0) (pay_pass_view table_now thread new.0)
    looked_keeps table table_now =
        let first = (subst (λ (ps : List (Part T)). AllGiven ps l.gifts) h.alone l.given).0 in (
          looked_home,
          record {
            in_turn = looked_fit.in_turn;
            holder_law = looked_fit.holder_law looked_some;
            later = first.0;
            goes_on = ap gifts_of l.afterwards ∙ first.1;
          },
        )

  -- after a seal that was tried
  module _ (given : Gifts T) (idle : IsAt None new)
      (is : new.0 ≡ with_seen old.0 (seen_of new.0) (gifts_of old.0 ++ given) (hand_of old.0))
      (fits : GiftsFit old.0.opened (seen_of new.0) (gifts_of new.0)) where
    pub sealed_opened : new.0.opened ≡ old.0.opened
    sealed_opened = ap (λ (v : View T). v.opened) is

    sealed_fit : GiftsFit new.0.opened (seen_of new.0) (gifts_of new.0)
    sealed_fit = subst (λ (o : Opening). GiftsFit o (seen_of new.0) (gifts_of new.0)) (sym sealed_opened) fits

    sealed_some : 0 < new.0.opened.tokens
    sealed_some = subst (λ (o : Opening). 0 < o.tokens) (sym sealed_opened) h.some_tokens

    sealed_home : (hand_of new.0).at_home ≡ (hand_of old.0).at_home
    sealed_home = ap (λ (v : View T). (hand_of v).at_home) is

    pub sealed_hand : HasInHand thread home 0 None new
    sealed_hand = hand_of_pass (pass_on given thread old new (pass_of_hand h) slots idle is) sealed_some sealed_fit
        (sealed_home ∙ h.at_home)

    pub sealed_keeps : (table table_now : TableId)
        → KeepsTokens (pay_pass_view table thread old.0) (pay_pass_view table_now thread new.0)
    sealed_keeps table table_now = (
      sealed_home,
      record {
        in_turn = sealed_fit.in_turn;
        holder_law = sealed_fit.holder_law sealed_some;
        later = given;
        goes_on = ap gifts_of is;
      },
    )

pub same_since : (old looked made : PassView) → IsSamePass old looked → IsSamePass looked made → IsSamePass old made
same_since old looked made first then = (then.0 ∙ first.0, then.1 ∙ first.1, then.2 ∙ first.2)

-- a take after a look that found these ends is one from before the look, and what follows it
module _ {T : Type 0} (old looked taken : PayPassView T) (start turns : ℕ) {ends : ℕ}
    (same : IsSamePass old.pass looked.pass)
    (finds : Finds old.pass looked.pass 0 ends) (keeps : KeepsTokens old looked) where
  whole_since : {call : Begin} {answer : Answer}
      → CompleteExecution looked.pass.opened.shape looked.pass.opened.threads looked.pass.thread call answer
      looked.pass.seen taken.pass.seen
      → CompleteExecution old.pass.opened.shape old.pass.opened.threads old.pass.thread call answer old.pass.seen
      taken.pass.seen
  whole_since {call} {answer} run =
      whole_from finds.others
      (subst (λ (x : Opening × ℕ). CompleteExecution x.0.shape x.0.threads x.1 call answer looked.pass.seen
      taken.pass.seen)
      (λ i. (same.1 i, same.2 i)) run)

  pub dequeues_since : {answer : Answer} → DequeuesWith start turns answer looked taken
      → DequeuesWith start turns answer old taken
  dequeues_since {answer} d = record {
    call = makes_call (B.Dequeue start turns) answer old.pass taken.pass (whole_since d.call.run);
    gifts = record {
      in_turn = d.gifts.in_turn;
      holder_law = d.gifts.holder_law;
      later = keeps.1.later ++ d.gifts.later;
      goes_on =
          d.gifts.goes_on
          ∙ ap (λ gifts. gifts ++ d.gifts.later) keeps.1.goes_on
          ∙ append_assoc old.gifts keeps.1.later d.gifts.later;
    };
  }

  pub takes_since : (answer : Taken T) → TakesOut start turns answer looked taken
      → TakesOut start turns answer old taken
  takes_since (K.Got payload) t = (t.0, t.1 ∙ ap (λ xs. t.0 ∷ xs) keeps.0, t.2, t.3, dequeues_since t.4)
  takes_since K.Empty t = (t.0 ∙ keeps.0, dequeues_since t.1)
  takes_since K.Busy t = (t.0 ∙ keeps.0, dequeues_since t.1)
  takes_since K.Worn t = (t.0 ∙ keeps.0, dequeues_since t.1)

  -- and of a pass of tokens
  pub token_since : (answer : Answer) → Dequeues start turns answer looked taken → Dequeues start turns answer old taken
  token_since answer d = (dequeues_since d.0, d.1 ∙ keeps.0)

  pub gets_since : (token : TokenView) (payload : Option T) → GetsWith start turns token payload looked taken
      → GetsWith start turns token payload old taken
  gets_since token payload (queue, beside_is, took, (dequeue, tokens)) = (
    queue ∙ (λ i. queue_of (same.0 i) (same.1 i)),
    beside_is,
    took,
    (dequeues_since dequeue, tokens ∙ keeps.0),
  )

  looked_at : world_after looked.pass.opened looked.pass.seen ≡ Some finds.world
  looked_at = ap (λ (o : Opening). world_after o looked.pass.seen) same.1 ∙ finds.reached

  pub was_seen : {answer : Answer} → DequeuesWith start turns answer looked taken → IsSamePass looked.pass taken.pass
      → WasSeen taken.pass.opened ends taken.pass.seen
  was_seen d then = subst (λ (o : Opening). WasSeen o ends taken.pass.seen) (sym then.1)
      (seen_before looked.pass.opened looked_at finds.word_is d.call.run)

  -- a seal from these ends leaves the queue sealed empty
  pub sealed_since : (new : PayPassView T) → DequeuesWith start turns A.Empty looked taken
      → IsSamePass looked.pass taken.pass
      → IsSamePass taken.pass new.pass
      → SealsFrom taken.pass.opened taken.pass.thread ends taken.pass.seen new.pass.seen
      → IsSealedEmpty new.pass
  sealed_since new d then later seal =
      let all = new.pass.seen in
      let from : SealsFrom looked.pass.opened taken.pass.thread ends taken.pass.seen all =
      subst (λ (o : Opening). SealsFrom o taken.pass.thread ends taken.pass.seen all) then.1 seal in
      subst (λ (o : Opening). SealedEmpty o.shape o.threads all) (sym (later.1 ∙ then.1))
      (sealed_empty looked.pass.opened looked.pass.thread (B.Dequeue start turns) looked.pass.seen taken.pass.seen all
      ends finds.world
      looked_at finds.word_is d.call.run from)

  -- a try that failed leaves it open
  pub open_since : (new : PayPassView T) → {answer : Answer} → DequeuesWith start turns answer looked taken
      → FailsToSeal taken.pass.opened taken.pass.thread ends taken.pass.seen new.pass.seen → KeepsTokens taken new
      → StaysOpen old taken new
  open_since new d fails kept =
      let run = d.call.run in
      record {
        ends = ends;
        looked = looked.pass;
        looks = finds;
        before = (run.between ++ run.last ∷ [], run.new_is ∙ append_assoc looked.pass.seen run.between (run.last ∷ []));
        fails = fails;
        keeps = kept;
      }
