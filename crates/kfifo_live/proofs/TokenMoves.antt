-- What the moves of a call with a token leave of its thread's hand, and what the call did.
use Rattle.std.proofs.Common.{◌≡◌, ℕ, zero, suc, ◌+◌, ◌-◌, ◌*◌, ◌<◌, ◌≤◌, List, [], ◌∷◌, ◌++◌, reverse, Option, Some}
use Rattle.std.proofs.Common.{None, Err, true, false, refl, sym, ap, ◌∙◌, subst, arith, mul-le-mul_right}
use Rattle.std.proofs.lemmas.List.{append_assoc, reverse-append}
use Rattle.atomic_table.specs.Table.{Me}
use Rattle.atomic_table.specs.Seated.{TableId}
use Rattle.atomic_table.specs.declared.shared.Seat.{Seat}
use Rattle.kfifo_live.proofs.Types.{Answer, Begin, Hand, Opening, Part, View}
use Rattle.kfifo_model.specs.declared.calls.Answer.TheVariants as A
use Rattle.kfifo_machine.specs.declared.event.Begin.TheVariants as B
use Rattle.kfifo_machine.specs.declared.place.Next.TheVariants.{Answers}
use Rattle.kfifo_machine.specs.Runs.{CompleteExecution, event, own}
use Rattle.kfifo_live.specs.Hands.{FitsOwn, Gifts, IsGift, Leaves, beside, carried, carrying, gift, out_next}
use Rattle.kfifo_live.specs.Schedule.{AllGiven, GiftsFit, IsSmall, count_up, part, thread_in, more_in, hand_in}
use Rattle.kfifo_live.specs.Schedule.{both_parts, first_part, thread_of, seen_of, gifts_of, hand_of, with_seen}
use Rattle.kfifo_live.specs.Schedule.{with_home}
use Rattle.kfifo_live.specs.Step.{IsAt, DrawsToken, Leads, Looks}
use Rattle.kfifo_live.specs.Pass.{PassView, OpenQueue, IsPass, pass_view}
use Rattle.kfifo_live.specs.Calls.{MakesCall}
use Rattle.kfifo_live.specs.declared.in_hand.Refusal.{Refusal}
use Rattle.kfifo_live.specs.declared.in_hand.Refusal.TheVariants as R
use Rattle.kfifo_live.specs.InHand.{GetsToken, HasInHand, PutsToken, pass_in, put_by}
use Rattle.kfifo_live.specs.Payloads.{new_pay_passes, pay_pass_view, GivesOn, EnqueuesWith, DequeuesWith, IsPayPass}
use Rattle.kfifo_live.specs.Payloads.{PayPassView, TookWhatWasPut}
use Rattle.kfifo_live.proofs.TakenGifts.{took_what_was_put}
use Rattle.kfifo_live.proofs.Made.{makes_call}
use Rattle.kfifo_live.proofs.NewPasses.{no_slot}
use Rattle.kfifo_live.proofs.Passes.{met}
use Rattle.kfifo_live.proofs.GiftsInTurn.{in_turn_before}
use Rattle.kfifo_live.proofs.CompleteExecutions.{at_next, whole}

Some-injective : {A : Type 0} (x y : A) → Some x ≡ Some y → x ≡ y
Some-injective x y e = cc

drawn_same : (x y : ℕ) (xs ys : List ℕ) → x ∷ xs ≡ y ∷ ys → (x ≡ y) × (xs ≡ ys)
drawn_same x y xs ys e = (cc, cc)

module _ {T : Type 0} where
  -- a view with the part of this thread alone
  abbrev pub IsAlone : ℕ → View T → Type 0
  IsAlone thread v = v.parts ≡ part thread (seen_of v) (gifts_of v) (hand_of v) ∷ []

  pub alone_on : (thread : ℕ) (v w : View T) {seen : _} {gifts : Gifts T} {hand : Hand T} → IsAlone thread v
      → w ≡ with_seen v seen gifts hand → IsAlone thread w
  alone_on thread v w {seen} {gifts} {hand} alone is =
      ap (λ (x : View T). x.parts) is
      ∙ (λ i. part (thread_in (alone i)) seen gifts hand ∷ more_in (alone i))
      ∙ (λ i. part thread (sym (ap seen_of is) i) (sym (ap gifts_of is) i) (sym (ap hand_of is) i) ∷ [])

  -- an idle thread has another hand
  pub idle_with : (old new : Me (Option T) (View T)) (hand : Hand T) (payload : Option T) → IsAt None old
      → new.0 ≡ with_seen old.0 (seen_of old.0) (gifts_of old.0) hand
      → new.1 ≡ carrying old.0.opened.tokens hand.out payload
      → IsAt None new
  idle_with old new hand payload stood is held =
      let at : IsAt None (with_seen old.0 (seen_of old.0) (gifts_of old.0) hand, new.1) =
      record {
        here = stood.here;
        seated = refl;
        reached = stood.reached;
        within = stood.within;
        place_is = stood.place_is;
        carries = (payload, held);
      } in
      subst (λ (x : View T). IsAt None (x, new.1)) (sym is) at

  -- the slot of a token that is out
  one_slot : (tokens x : ℕ) (payload : Option T) → 0 < tokens → 0 < x
      → carrying tokens x payload ≡ (x - 1, payload) ∷ []
  one_slot zero x payload some positive = absurd (omega arith)
  one_slot (suc tokens) zero payload some positive = absurd (omega arith)
  one_slot (suc tokens) (suc x) payload some positive =
      ap (λ n. (n, payload) ∷ []) (let e : x ≡ suc x - 1 = omega arith in e)

  none_out : (tokens x : ℕ) (payload : Option T) → 0 < tokens → [] ≡ carrying tokens x payload → x ≡ 0
  none_out zero x payload some e = absurd (omega arith)
  none_out (suc tokens) zero payload some e = refl
  none_out (suc tokens) (suc x) payload some e = absurd (cc)

  pub one_payload : (k : ℕ) (x y : T) {held : List (ℕ × Option T)} → held ≡ (k, Some x) ∷ [] → held ≡ (k, Some y) ∷ []
      → x ≡ y
  one_payload k x y e f = Some-injective x y (sym (ap carried e) ∙ ap carried f)

  -- gifts of a view that has seen this schedule
  abbrev pub Fit : View T → Type 0
  Fit v = GiftsFit v.opened (seen_of v) (gifts_of v)

  pub in_turn_as : {v w : View T} → v ≡ w → Fit w → Fit v
  in_turn_as is turns = subst Fit (sym is) turns

  -- a pass between two calls has no token out
  pub hand_of_pass : {thread : ℕ} {home : List ℕ} {me : Me (Option T) (View T)} → IsPass thread me
      → 0 < me.0.opened.tokens → Fit me.0
      → (hand_of me.0).at_home ≡ home → HasInHand thread home 0 None me
  hand_of_pass {thread} {home} {me} p some fits are = record {
    alone = p.alone;
    idle = p.idle;
    few = p.few;
    some_tokens = some;
    at_home = are;
    out = none_out me.0.opened.tokens (hand_of me.0).out p.idle.carries.0 some (sym p.held ∙ p.idle.carries.1);
    held = p.held ∙ sym (no_slot me.0.opened.tokens None);
    in_turn = fits;
  }

  -- and a thread with none out is a pass
  pub pass_of_hand : {thread : ℕ} {home : List ℕ} {payload : Option T} {me : Me (Option T) (View T)}
      → HasInHand thread home 0 payload me
      → IsPass thread me
  pass_of_hand {thread} {home} {payload} {me} h =
      record { alone = h.alone; held = h.held ∙ no_slot me.0.opened.tokens payload; idle = h.idle; few = h.few }

  -- what lies in a slot that is not out is nothing
  pub none_in : {thread : ℕ} {home : List ℕ} {payload : Option T} {me : Me (Option T) (View T)}
      → HasInHand thread home 0 payload me
      → HasInHand thread home 0 None me
  none_in h = let p = pass_of_hand h in hand_of_pass p h.some_tokens h.in_turn h.at_home

  pub pay_hand : {thread room : ℕ} {me : Me (Option T) (View T)} {items : List ℕ} → IsPayPass thread me items room
      → HasInHand thread (reverse items) 0 None me
  pay_hand p = hand_of_pass p.pass p.some_tokens p.in_turn p.stacked

  -- the pass after moves of its own
  pub pay_pass : {thread room room_now : ℕ} {home : List ℕ} {payload : Option T} {old new : Me (Option T) (View T)}
      {items now : List ℕ}
      → IsPayPass thread old items room → HasInHand thread home 0 payload new → new.0.opened ≡ old.0.opened
      → home ≡ reverse now
      → room_now ≡ room → IsPayPass thread new now room_now
  pay_pass p h same are roomy = record {
    pass = pass_of_hand h;
    stacked = h.at_home ∙ are;
    some_tokens = h.some_tokens;
    few_tokens = subst (λ n. n ≤ 65536) (sym (ap (λ (o : Opening). o.threads * o.tokens) same)) p.few_tokens;
    has_room = subst (λ (x : ℕ × ℕ). x.0 ≤ x.1)
        (λ i. (sym (ap (λ (o : Opening). o.threads * o.tokens) same) i, sym roomy i)) p.has_room;
    with_payloads = ap (λ (o : Opening). o.bare) same ∙ p.with_payloads;
    in_turn = h.in_turn;
  }

  -- a thread with another hand
  handed : {thread token : ℕ} {home : List ℕ} {payload : Option T} {old new : Me (Option T) (View T)}
      (home_now : List ℕ) (out_now : ℕ) (hidden payload_now : Option T) → HasInHand thread home token payload old
      → new.0 ≡ with_seen old.0 (seen_of old.0) (gifts_of old.0) (record {
        at_home = home_now;
        out = out_now;
        payload = hidden;
      })
      → new.1 ≡ carrying old.0.opened.tokens out_now payload_now → HasInHand thread home_now out_now payload_now new
  handed {thread} {token} {home} {payload} {old} {new} home_now out_now hidden payload_now h view slots =
      let opened : new.0.opened ≡ old.0.opened = ap (λ (v : View T). v.opened) view in
      record {
        alone = alone_on thread old.0 new.0 h.alone view;
        idle = idle_with old new (record {
          at_home = home_now;
          out = out_now;
          payload = hidden;
        }) payload_now h.idle view slots;
        few = subst IsSmall (sym opened) h.few;
        some_tokens = subst (λ (o : Opening). 0 < o.tokens) (sym opened) h.some_tokens;
        at_home = ap (λ (v : View T). (hand_of v).at_home) view;
        out = ap (λ (v : View T). (hand_of v).out) view;
        held = slots ∙ ap (λ (o : Opening). carrying o.tokens out_now payload_now) (sym opened);
        in_turn = in_turn_as view h.in_turn;
      }

  -- the thread with other tokens at home
  pub rehomed : {thread token : ℕ} {home : List ℕ} {payload : Option T} {old new : Me (Option T) (View T)}
      (now : List ℕ)
      → HasInHand thread home token payload old → new.0 ≡ with_home old.0 now → new.1 ≡ old.1
      → HasInHand thread now token payload new
  rehomed {thread} {token} {home} {payload} {old} {new} now h view slots =
      handed now token (hand_of old.0).payload payload h
      (view ∙ (λ i. with_seen old.0 (seen_of old.0) (gifts_of old.0)
      (record { at_home = now; out = h.out i; payload = (hand_of old.0).payload }))) (slots ∙ h.held)

  -- its first token is out
  pub drawn : {thread token slots : ℕ} {home : List ℕ} {held : Option T} {old new : Me (Option T) (View T)}
      → HasInHand thread (token ∷ home) 0 None old → DrawsToken slots held old new
      → HasInHand thread home token held new
  drawn {thread} {token} {slots} {home} {held} {old} {new} h d =
      let same = drawn_same _ _ _ _ (sym d.was ∙ h.at_home) in
      let some = subst (λ x. 0 < x) same.0 d.some in
      handed home token None held h
      (d.afterwards ∙ (λ i. with_seen old.0 (seen_of old.0) (gifts_of old.0) (record {
        at_home = same.1 i;
        out = same.0 i;
        payload = None;
      })))
      (d.holds ∙ ap (λ x. (x - 1, held) ∷ []) same.0 ∙ sym (one_slot old.0.opened.tokens token held h.some_tokens some))

  pub draws_named : {thread token slots : ℕ} {home : List ℕ} {held : Option T} {old new : Me (Option T) (View T)}
      → HasInHand thread (token ∷ home) 0 None old → DrawsToken slots held old new → (0 < token) × (token ≤ slots)
  draws_named {thread} {token} {slots} h d =
      let same = drawn_same _ _ _ _ (sym d.was ∙ h.at_home) in
      (subst (λ x. 0 < x) same.0 d.some, subst (λ x. x ≤ slots) same.0 d.within)

  -- the slot of the token that is out
  pub slot_held : {thread token : ℕ} {home : List ℕ} {payload : Option T} {me : Me (Option T) (View T)} → 0 < token
      → HasInHand thread home token payload me → me.1 ≡ (token - 1, payload) ∷ []
  slot_held {thread} {token} {home} {payload} {me} some h = h.held
      ∙ one_slot me.0.opened.tokens token payload h.some_tokens some

  -- something else lies in it
  pub with_slot : {thread token : ℕ} {home : List ℕ} {payload : Option T} {old new : Me (Option T) (View T)}
      (now : Option T) → 0 < token
      → HasInHand thread home token payload old → new.0 ≡ old.0 → new.1 ≡ (token - 1, now) ∷ []
      → HasInHand thread home token now new
  with_slot {thread} {token} {home} {payload} {old} {new} now some h same slots =
      handed home token (hand_of old.0).payload now h
      (same ∙ h.idle.seated ∙ (λ i. with_seen old.0 (seen_of old.0) (gifts_of old.0)
      (record { at_home = h.at_home i; out = h.out i; payload = (hand_of old.0).payload })))
      (slots ∙ sym (one_slot old.0.opened.tokens token now h.some_tokens some))

  -- it is laid back
  pub laid : {thread token : ℕ} {home : List ℕ} {payload : Option T} {old new : Me (Option T) (View T)} (now : List ℕ)
      → HasInHand thread home token payload old
      → new.0 ≡ with_seen old.0 (seen_of old.0) (gifts_of old.0) (record { at_home = now; out = 0; payload = None })
      → new.1 ≡ []
      → HasInHand thread now 0 None new
  laid {thread} {token} {home} {payload} {old} {new} now h view slots =
      handed now 0 None None h view (slots ∙ sym (no_slot old.0.opened.tokens None))

  -- after a look with another's parts beside its own, a pass has its tokens
  module _ {thread room word found : ℕ} {items : List ℕ} {old new : Me (Option T) (View T)} (other : View T)
      {both seen : View T} (p : IsPayPass thread old items room) (slots : new.1 ≡ old.1)
      (is : both ≡ both_parts old.0 other) (l : Looks word found both seen) (kept : new.0 ≡ first_part seen) where
    pub met_hand : hand_of new.0 ≡ hand_of old.0
    met_hand =
        ap hand_of (kept ∙ ap first_part l.afterwards)
        ∙ ap (λ (v : View T). hand_of v) is
        ∙ ap (λ (ps : List (Part T)). hand_in (ps ++ other.parts)) p.pass.alone

    met_view : new.0 ≡ first_part (with_seen both l.all l.gifts (hand_of both))
    met_view = kept ∙ ap first_part l.afterwards

    pub met_opened : new.0.opened ≡ old.0.opened
    met_opened = ap (λ (v : View T). v.opened) (kept ∙ ap first_part l.afterwards) ∙ ap (λ (v : View T). v.opened) is

    met_fit : Fit new.0
    met_fit = in_turn_as met_view l.in_turn

    met_some : 0 < new.0.opened.tokens
    met_some = subst (λ o. 0 < o) (sym (ap (λ o. o.tokens) met_opened)) p.some_tokens

    pub met_pass : IsPayPass thread new items room
    met_pass =
        let pass = met thread word found old new other both seen p.pass slots is l kept in
        pay_pass p (hand_of_pass pass met_some met_fit refl) met_opened (ap (λ (h : Hand T). h.at_home) met_hand
        ∙ p.stacked) refl

    pub met_gives_from : (giver : ℕ) (from : Me (Option T) (View T)) → IsAlone giver from.0 → other ≡ from.0
        → (table table_now : TableId)
        → GivesOn (pay_pass_view table giver from.0) (pay_pass_view table_now thread new.0)
    met_gives_from giver from alone lent table table_now =
        let parts = ap (λ (v : View T). v.parts) is
        ∙ (λ i. p.pass.alone i ++ (ap (λ (v : View T). v.parts) lent ∙ alone) i) in
        let first = (subst (λ (ps : List (Part T)). AllGiven ps l.gifts) parts l.given).1.0 in
        record {
          in_turn = met_fit.in_turn;
          holder_law = met_fit.holder_law met_some;
          later = first.0;
          goes_on = ap gifts_of met_view ∙ first.1;
        }

    pub met_gives : (table table_now : TableId)
        → GivesOn (pay_pass_view table thread old.0) (pay_pass_view table_now thread new.0)
    met_gives table table_now =
        let first = (subst (λ (ps : List (Part T)). AllGiven ps l.gifts)
        (ap (λ (v : View T). v.parts) is ∙ ap (λ ps. ps ++ other.parts) p.pass.alone) l.given).0 in
        record {
          in_turn = met_fit.in_turn;
          holder_law = met_fit.holder_law met_some;
          later = first.0;
          goes_on = ap gifts_of met_view ∙ first.1;
        }

  -- a complete execution of a call, with all laws
  pub is_call : (begin : Begin) (answer : Answer) (thread : ℕ) (table table_now : TableId)
      (old new : Me (Option T) (View T))
      → IsAlone thread old.0 → Leads (Some begin) old (Answers answer) new
      → MakesCall begin answer (pass_view table thread old.0) (pass_view table_now thread new.0)
  is_call begin answer thread table table_now old new alone leads =
      let o = old.0.opened in
      makes_call begin answer (pass_view table thread old.0) (pass_view table_now thread new.0)
      (subst (λ (t : ℕ). CompleteExecution o.shape o.threads t begin answer (seen_of old.0) (seen_of new.0))
      (ap thread_in alone)
      (whole begin old new answer leads))

  -- a seat of which the thread's hand alone has changed is that of the same pass
  pub same_pass : (thread : ℕ) (old new : Seat (Option T) (View T)) {hand : Hand T} → new.table_id ≡ old.table_id
      → new.me.0 ≡ with_seen old.me.0 (seen_of old.me.0) (gifts_of old.me.0) hand
      → ((pass_in thread new).pass ≡ (pass_in thread old).pass)
      × ((pass_in thread new).gifts ≡ (pass_in thread old).gifts)
  same_pass thread old new table view = ((λ i. pass_view (table i) thread (view i)), ap gifts_of view)

  -- a pass takes the token out that its list gave, and a payload lies in its slot
  module _ {thread token slots room : ℕ} {items : List ℕ} (others : List ℕ) {payload : T}
      (at start out : Seat (Option T) (View T))
      (p : IsPayPass thread at.me items room) (popped : items ≡ others ++ token ∷ [])
      (d : DrawsToken slots None at.me start.me)
      (filled : (out.table_id ≡ start.table_id) × (out.me.0 ≡ start.me.0)) (slot : out.me.1 ≡ (token - 1, Some payload)
      ∷ []) where
    first_home : reverse items ≡ token ∷ reverse others
    first_home = ap reverse popped ∙ reverse-append others (token ∷ [])

    pub gives_first : (hand_of at.me.0).at_home ≡ token ∷ reverse others
    gives_first = p.stacked ∙ first_home

    gives_start : HasInHand thread (token ∷ reverse others) 0 None at.me
    gives_start = subst (λ xs. HasInHand thread xs 0 None at.me) first_home (pay_hand p)

    pub gives_named : (0 < token) × (token ≤ slots)
    gives_named = draws_named gives_start d

    pub gives_out : HasInHand thread (reverse others) token (Some payload) out.me
    gives_out = with_slot (Some payload) gives_named.0 (drawn gives_start d) filled.1 slot

  -- an enqueue of the token that is out
  module _ {thread token s t : ℕ} {home : List ℕ} {payload : Option T} {answer : Answer}
      (old new : Seat (Option T) (View T)) (some : 0 < token)
      (h : HasInHand thread home token payload old.me) (l : Leads (Some (B.Enqueue token s t)) old.me (Answers answer)
      new.me) where
    left : Leaves old.me.0.opened.bare token payload (gifts_of old.me.0 ++ l.given) l.hand (Answers answer)
    left = l.leaves h.some_tokens token payload (refl, sym (ap carried (slot_held some h)))

    pub fits_put : FitsOwn token (Answers answer)
    fits_put = left.fits

    put_opened : new.me.0.opened ≡ old.me.0.opened
    put_opened = ap (λ (v : View T). v.opened) l.now

    put_hand : HasInHand thread home (out_next token (Answers answer)) payload new.me
    put_hand = record {
      alone = alone_on thread old.me.0 new.me.0 h.alone l.now;
      idle = at_next (Some (B.Enqueue token s t)) old.me new.me (Answers answer) l;
      few = subst IsSmall (sym put_opened) h.few;
      some_tokens = subst (λ (o : Opening). 0 < o.tokens) (sym put_opened) h.some_tokens;
      at_home = ap (λ (v : View T). (hand_of v).at_home) l.now ∙ l.at_home ∙ h.at_home;
      out = ap (λ (v : View T). (hand_of v).out) l.now ∙ left.out;
      held = l.carries
          ∙ (λ i. carrying (sym (ap (λ (o : Opening). o.tokens) put_opened) i) (left.out i) (left.kept some i));
      in_turn = in_turn_as l.now l.in_turn;
    }

    pub puts_token : PutsToken thread home token payload s t answer old new
    puts_token =
        let g = l.first in
        let made : Begin = B.Enqueue token s t in
        let of_thread : thread_of old.me.0 ≡ thread = ap thread_in h.alone in
        let seen = seen_of old.me.0 in
        let gifts = gifts_of old.me.0 in
        let beside_it : gift (Some made) old.me.1 ≡ (token, payload) ∷ [] =
        ap (λ (x : List (ℕ × Option T)). (token, carried x) ∷ [])
        (slot_held some h) in
        record {
          enqueue = record {
            call = is_call made answer thread old.table_id new.table_id old.me new.me h.alone l;
            in_turn = put_hand.in_turn.in_turn;
            holder_law = put_hand.in_turn.holder_law put_hand.some_tokens;
            before = g.before;
            after = g.after;
            seen =
                ap seen_of l.now
                ∙ append_assoc seen l.between (l.last ∷ [])
                ∙ ap (λ es. seen ++ es) g.events_are
                ∙ sym (append_assoc seen g.before (event (thread_of old.me.0) (Some made) ∷ g.after))
                ∙ (λ i. (seen ++ g.before) ++ event (of_thread i) (Some made) ∷ g.after);
            others = ap (λ u. own u g.before) (sym of_thread) ∙ g.others;
            earlier = g.earlier;
            later = g.later;
            gifts =
                ap gifts_of l.now
                ∙ ap (λ (x : Gifts T). gifts ++ x) g.given_are
                ∙ sym (append_assoc gifts g.earlier (gift (Some made) old.me.1 ++ g.later))
                ∙ ap (λ (x : Gifts T). (gifts ++ g.earlier) ++ (x ++ g.later)) beside_it;
            before_it = in_turn_before (seen ++ g.before) (gifts ++ g.earlier) (thread_of old.me.0) token s t
                (carried old.me.1) g.in_turn;
          };
          opened = put_opened;
          hand = put_hand;
        }

  -- a refused enqueue leaves the token out, with what its slot holds
  pub kept_out : {thread token s t : ℕ} {home : List ℕ} {payload : Option T} {old new : Seat (Option T) (View T)}
      (refusal : Refusal)
      → PutsToken thread home token payload s t (put_by (Err refusal)) old new
      → HasInHand thread home token payload new.me
  kept_out R.Full did = did.hand
  kept_out R.Busy did = did.hand
  kept_out R.Worn did = did.hand

  -- a dequeue
  module _ {thread s t : ℕ} {home : List ℕ} {answer : Answer} (old new : Seat (Option T) (View T))
      (h : HasInHand thread home 0 None old.me)
      (l : Leads (Some (B.Dequeue s t)) old.me (Answers answer) new.me) where
    took : Leaves old.me.0.opened.bare 0 None (gifts_of old.me.0 ++ l.given) l.hand (Answers answer)
    took = l.leaves h.some_tokens 0 None refl

    pub fits_got : FitsOwn 0 (Answers answer)
    fits_got = took.fits

    got_opened : new.me.0.opened ≡ old.me.0.opened
    got_opened = ap (λ (v : View T). v.opened) l.now

    got_hand : HasInHand thread home (out_next 0 (Answers answer)) l.hand.payload new.me
    got_hand = record {
      alone = alone_on thread old.me.0 new.me.0 h.alone l.now;
      idle = at_next (Some (B.Dequeue s t)) old.me new.me (Answers answer) l;
      few = subst IsSmall (sym got_opened) h.few;
      some_tokens = subst (λ (o : Opening). 0 < o.tokens) (sym got_opened) h.some_tokens;
      at_home = ap (λ (v : View T). (hand_of v).at_home) l.now ∙ l.at_home ∙ h.at_home;
      out = ap (λ (v : View T). (hand_of v).out) l.now ∙ took.out;
      held = l.carries
          ∙ (λ i. carrying (sym (ap (λ (o : Opening). o.tokens) got_opened) i) (took.out i) l.hand.payload);
      in_turn = in_turn_as l.now l.in_turn;
    }

    got_dequeue : DequeuesWith s t answer (pass_in thread old) (pass_in thread new)
    got_dequeue = record {
      call = is_call (B.Dequeue s t) answer thread old.table_id new.table_id old.me new.me h.alone l;
      gifts = record {
        in_turn = got_hand.in_turn.in_turn;
        holder_law = got_hand.in_turn.holder_law got_hand.some_tokens;
        later = l.given;
        goes_on = ap gifts_of l.now;
      };
    }

    got_taken : (token : ℕ) → answer ≡ A.Got token → (0 < token) × IsGift new.me.0.opened.bare l.hand.payload
        × (beside token (gifts_of new.me.0) ≡ l.hand.payload) × TookWhatWasPut token l.hand.payload (pass_in thread new)
    got_taken token is =
        let taken = took.taken token (ap Answers is) in
        let last : beside token (gifts_of new.me.0) ≡ l.hand.payload = ap (beside token) (ap gifts_of l.now)
        ∙ sym taken.1 in
        let run = subst (λ (x : Opening × Answer). CompleteExecution x.0.shape x.0.threads thread (B.Dequeue s t) x.1
        (seen_of old.me.0)
        (seen_of new.me.0)) (λ i. (sym got_opened i, is i)) got_dequeue.call.run in (
          taken.0,
          subst (λ (x : Opening × Option T). IsGift x.0.bare x.1) (λ i. (sym got_opened i, sym taken.1 i)) taken.2,
          last,
          took_what_was_put token l.hand.payload (pass_in thread new) s t (seen_of old.me.0) run taken.0
              got_dequeue.gifts.holder_law got_dequeue.gifts.in_turn last,
        )

    pub gets_token : GetsToken thread home s t answer old new
    gets_token = record {
      dequeue = got_dequeue;
      opened = got_opened;
      payload = l.hand.payload;
      hand = got_hand;
      taken = got_taken;
    }

  -- the payload of a token that was taken from a queue with payloads
  pub taken_payload : {thread token s t : ℕ} {home : List ℕ} {old new : Seat (Option T) (View T)}
      (did : GetsToken thread home s t (A.Got token) old new) → old.me.0.opened.bare ≡ false → (payload : T)
      × (did.payload ≡ Some payload)
  taken_payload {thread} {token} did kind =
      subst (λ b. IsGift b did.payload) (ap (λ (o : Opening). o.bare) did.opened ∙ kind) ((did.taken token refl).1)

  pub taken_none : {thread token s t : ℕ} {home : List ℕ} {old new : Seat (Option T) (View T)}
      (did : GetsToken thread home s t (A.Got token) old new) → old.me.0.opened.bare ≡ true → did.payload ≡ None
  taken_none {thread} {token} did kind =
      subst (λ b. IsGift b did.payload) (ap (λ (o : Opening). o.bare) did.opened ∙ kind) ((did.taken token refl).1)

-- what a call did, of views that differ in their tokens alone
abbrev with_tokens : {T : Type 0} → PassView × Gifts T → List ℕ → PayPassView T
with_tokens x tokens = record { pass = x.0; tokens = tokens; gifts = x.1 }

module _ {T : Type 0} {old new was now : PayPassView T} (passes : (was.pass ≡ old.pass) × (now.pass ≡ new.pass))
    (gifts : (was.gifts ≡ old.gifts) × (now.gifts ≡ new.gifts)) where
  pub enqueues_as : {token start turns : ℕ} {answer : Answer} {payload : Option T}
      → EnqueuesWith token start turns answer payload old new
      → EnqueuesWith token start turns answer payload was now
  enqueues_as {token} {start} {turns} {answer} {payload} e =
      let theirs : EnqueuesWith token start turns answer payload (with_tokens (old.pass, old.gifts) was.tokens)
      (with_tokens (new.pass, new.gifts) now.tokens) = record {
        call = e.call;
        in_turn = e.in_turn;
        holder_law = e.holder_law;
        before = e.before;
        after = e.after;
        seen = e.seen;
        others = e.others;
        earlier = e.earlier;
        later = e.later;
        gifts = e.gifts;
        before_it = e.before_it;
      } in
      subst (λ (x : (PassView × Gifts T) × (PassView × Gifts T)). EnqueuesWith token start turns answer payload
      (with_tokens x.0 was.tokens) (with_tokens x.1 now.tokens))
      (λ i. ((sym passes.0 i, sym gifts.0 i), (sym passes.1 i, sym gifts.1 i))) theirs

  pub dequeues_as : {start turns : ℕ} {answer : Answer} → DequeuesWith start turns answer old new
      → DequeuesWith start turns answer was now
  dequeues_as {start} {turns} {answer} d =
      let theirs : DequeuesWith start turns answer (with_tokens (old.pass, old.gifts) was.tokens)
      (with_tokens (new.pass, new.gifts) now.tokens) = record {
        call = d.call;
        gifts = record {
          in_turn = d.gifts.in_turn;
          holder_law = d.gifts.holder_law;
          later = d.gifts.later;
          goes_on = d.gifts.goes_on;
        };
      } in
      subst (λ (x : (PassView × Gifts T) × (PassView × Gifts T)). DequeuesWith start turns answer
      (with_tokens x.0 was.tokens) (with_tokens x.1 now.tokens))
      (λ i. ((sym passes.0 i, sym gifts.0 i), (sym passes.1 i, sym gifts.1 i))) theirs

pub took_as : {T : Type 0} {new now : PayPassView T} {token : ℕ} {payload : Option T} → now.pass ≡ new.pass
    → now.gifts ≡ new.gifts
    → TookWhatWasPut token payload new → TookWhatWasPut token payload now
took_as {T} {new} {now} {token} {payload} passes gifts t =
    let theirs : TookWhatWasPut token payload (with_tokens (new.pass, new.gifts) now.tokens) =
    record { index = t.index; word = t.word; taken = t.taken; put = t.put } in
    subst (λ (x : PassView × Gifts T). TookWhatWasPut token payload (with_tokens x now.tokens))
    (λ i. (sym passes i, sym gifts i)) theirs

-- a queue of few threads with few tokens each has few tokens
pub few_in_all : (threads tokens : ℕ) → threads ≤ 64 → tokens ≤ 1024 → threads * tokens ≤ 65536
few_in_all threads tokens few small =
    let up : threads * tokens ≤ 64 * tokens = mul-le-mul_right tokens few in
    omega (arith, up, small)

pub new_pay_passes-snoc : {T : Type 0} (q : OpenQueue) (first n at : ℕ) → at ≡ first + n
    → new_pay_passes {T = T} q first (n + 1) ≡ new_pay_passes q first n
    ++ record {
      pass = record { table = q.table; opened = q.opened; thread = at; seen = [] };
      tokens = count_up (at * q.opened.tokens + 1) q.opened.tokens;
      gifts = [];
    } ∷ []
new_pay_passes-snoc {T} q first zero at is =
    ap (λ (k : ℕ). record {
      pass = record { table = q.table; opened = q.opened; thread = k; seen = [] };
      tokens = count_up (k * q.opened.tokens + 1) q.opened.tokens;
      gifts = [];
    } ∷ []) (let e : first ≡ at = omega (arith, is) in e)
new_pay_passes-snoc {T} q first (suc n) at is =
    ap (new_pay_passes q first) (let e : suc n + 1 ≡ suc (n + 1) = omega arith in e)
    ∙ ap (λ ps. record {
      pass = record { table = q.table; opened = q.opened; thread = first; seen = [] };
      tokens = count_up (first * q.opened.tokens + 1) q.opened.tokens;
      gifts = [];
    } ∷ ps)
    (new_pay_passes-snoc q (suc first) n at (omega (arith, is)))
