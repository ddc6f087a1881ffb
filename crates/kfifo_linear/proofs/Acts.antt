-- A call's role in the order is what it does by the history.
use Rattle.std.proofs.Common.{◌≡◌, ◌≢◌, ℕ, ◌<◌, ◌⊎◌, length, true, Option, Some, None, is_some, refl, sym, ap, ◌∙◌}
use Rattle.std.proofs.Common.{subst, inl, inr, arith}
use Rattle.std.proofs.lemmas.Bool.{cases_lt, false≢true}
use Rattle.std.proofs.lemmas.List.{get_or_past}
use Rattle.std.proofs.lemmas.Option.{none-some, same_Some}
use Rattle.kfifo_linear.proofs.Types.{Answer, Begin, Call, Effect, Running, Shape}
use Rattle.kfifo_words.specs.Words.{value_of}
use Rattle.kfifo_model.specs.declared.calls.Answer.TheVariants.{Done, Full, Got, Empty, Busy, Worn}
use Rattle.kfifo_model.specs.declared.effects.Effect.TheVariants as M
use Rattle.kfifo_model.specs.Relaxed.{effect}
use Rattle.kfifo_model.specs.Histories.{call, no_call, does, effect_at, effect_unfinished, CanStand, HasEnd}
use Rattle.kfifo_model.specs.Validity.{EndInRange, IsItem, IsHistory}
use Rattle.kfifo_machine.specs.declared.event.Begin.TheVariants as B
use Rattle.kfifo_machine.specs.Calls.{Log}
use Rattle.kfifo_linear.specs.Ledger.{Ledger, Outside, Took, item_of}
use Rattle.kfifo_linear.specs.Roles.{Role, Puts, Gets, FindsNone, Refused, Spot, spot, spot_of, refused_at}
use Rattle.kfifo_linear.proofs.Invariant.{Inv, Fits, InsideOk}
use Rattle.kfifo_linear.proofs.Facts.{Facts, Stands, RoleAnswers, puts_standing}
use Rattle.kfifo_linear.proofs.Agrees.{Agrees, op_of, end_of}

-- what a call of this role does: items are those of the calls by number, own is its own
abbrev pub Acts : (ℕ → ℕ) → ℕ → Role → Effect → Type 0
Acts items own (Puts visit index) e = e ≡ M.Adds own
Acts items own (Gets call visit) e = e ≡ M.Takes (items call)
Acts items own (FindsNone visit) e = e ≡ M.FindsNone
Acts items own Refused e = e ≡ M.Refused

finished_acts : (items : ℕ → ℕ) (b : Begin) (x : Answer) (role : Role) → (effect (op_of b) x ≡ M.Wrong → ⊥)
    → RoleAnswers items x role
    → Acts items (item_of b) role (effect (op_of b) x)
finished_acts items b x role right fits = grind arith

unfinished_acts : (items : ℕ → ℕ) (b : Begin) (v i : ℕ) → item_of b ≢ 0
    → Acts items (item_of b) (Puts v i) (effect_unfinished (op_of b))
unfinished_acts items b v i some = grind arith

can_stand : (b : Begin) → item_of b ≢ 0 → CanStand None (op_of b)
can_stand (B.Enqueue item start turns) some = tt
can_stand (B.Dequeue start turns) some = absurd (some refl)
can_stand B.Tick some = absurd (some refl)
can_stand B.Seal some = absurd (some refl)

got_item : (begin : ℕ → Begin) (x : Answer) (o v p : ℕ) → Fits begin x (Took o v p) → x ≡ Got (item_of (begin o))
got_item begin (Got item) o v p fits = ap Got (sym fits)
got_item begin Done o v p fits = absurd fits
got_item begin Full o v p fits = absurd fits
got_item begin Empty o v p fits = absurd fits
got_item begin Busy o v p fits = absurd fits
got_item begin Worn o v p fits = absurd fits

some_is : {X : Type 0} (o : Option X) → is_some o ≡ true → (x : X) × (o ≡ Some x)
some_is None e = absurd (false≢true e)
some_is (Some x) e = (x, refl)

by_option : {X : Type 0} (o : Option X) → (o ≡ None) ⊎ ((x : X) × (o ≡ Some x))
by_option None = inl refl
by_option (Some x) = inr (x, refl)

module _ (shape : Shape) (w : ℕ → ℕ) (p : ℕ → Option Running) (log : Log) (l : Ledger) (place : ℕ)
    (inv : Inv shape w p l) (facts : Facts shape l) (h : Agrees log l place) (good : IsHistory log.calls) where
  -- a call that stands is one of the history
  pub known : (c : ℕ) (s : Spot) → spot l c ≡ Some s → c < l.calls
  unfolding spot
  known c s e =
      elim (cases_lt c l.calls) [
        | inl lt ↦ lt
        | inr ge ↦
            let outside : l.standing c ≡ Outside = inv.calls.later c ge in
            let none : spot_of l c (l.standing c) ≡ None = ap (spot_of l c) outside ∙ ap refused_at (h.none c ge).0 in
            absurd (none-some s (sym none ∙ e))
      ]

  pub counted : (c : ℕ) → c < l.calls → c < length log.calls
  counted c less = omega (arith, h.count)

  -- an answered call has a last step
  last_is : (c : ℕ) (x : Answer) → l.answer c ≡ Some x → (e : ℕ) × (l.last c ≡ Some e)
  last_is c x answered = elim (by_option (l.last c))
      [ inl none ↦ absurd (none-some x (sym (inv.calls.unended c none) ∙ answered)) | inr some ↦ some ]

  pub end_is : (c : ℕ) (x : Answer) → c < l.calls → l.answer c ≡ Some x → (e : ℕ)
      × ((l.last c ≡ Some e) × ((call log.calls c).end ≡ Some (record { last = e; answer = x })))
  end_is c x less answered =
      let e = last_is c x answered in
      (e.0, (e.1, (h.each c less).end ∙ ap (λ o. end_of o (l.answer c)) e.1 ∙ ap (end_of (Some e.0)) answered))

  no_end : (o : Option ℕ) → end_of o None ≡ None
  no_end None = refl
  no_end (Some e) = refl

  pub unended_is : (c : ℕ) → c < l.calls → l.answer c ≡ None → (call log.calls c).end ≡ None
  unended_is c less none = (h.each c less).end ∙ ap (end_of (l.last c)) none ∙ no_end (l.last c)

  -- an item is no 0
  taken_item : (o d v q : ℕ) → l.standing d ≡ Took o v q → item_of (l.begin o) ≢ 0
  taken_item o d v q took z =
      let t = inv.calls.took d o v q took in
      let x = some_is (l.answer d) t.finished in
      let less : d < l.calls = elim (cases_lt d l.calls) [
        | inl lt ↦ lt
        | inr ge ↦ absurd (none-some x.0 (sym (h.none d ge).1 ∙ x.1))
      ] in
      let got : x.0 ≡ Got (item_of (l.begin o)) =
      got_item l.begin x.0 o v q (subst (Fits l.begin x.0) took (inv.calls.answered d x.0 x.1)) in
      let end = end_is d x.0 less x.1 in
      let ranged : EndInRange (call log.calls d).end = (good d (counted d less)).ranged.2 in
      let item : IsItem (item_of (l.begin o)) =
      subst EndInRange (end.1.1 ∙ ap (λ a. Some (record { last = end.0; answer = a })) got) ranged in
      absurd (omega (arith, item.0))

  put_item : (c v i q : ℕ) → Stands l c (Puts v i) q → item_of (l.begin c) ≢ 0
  put_item c v i q e = elim (puts_standing l c v i q e) [
    | inl gone ↦ let t = inv.calls.taker c i v q gone in taken_item c t.0 v t.1.0 t.1.1
    | inr k ↦
        let here : InsideOk shape w l c i = inv.calls.inside c i k.0 in
        let item : item_of (l.begin (l.owner i)) ≡ value_of (w i) = (inv.slots i here.is_slot).item here.full in
        λ z. here.full (sym item ∙ ap (λ o. item_of (l.begin o)) here.owner ∙ z)
  ]

  does_at : (c : ℕ) → c < l.calls → does log.calls c ≡ effect_at (op_of (l.begin c)) (call log.calls c).end
  does_at c less = ap (λ o. effect_at o (call log.calls c).end) (h.each c less).op

  right : (c e : ℕ) (x : Answer) → c < l.calls → (call log.calls c).end ≡ Some (record { last = e; answer = x })
      → effect (op_of (l.begin c)) x ≡ M.Wrong → ⊥
  right c e x less end wrong =
      let answers = (good c (counted c less)).answers in
      rw (end, (h.each c less).op) at answers wrong

  -- what a call that stands does is what its role says
  pub acts : (c : ℕ) (s : Spot) → spot l c ≡ Some s
      → Acts (λ o. item_of (l.begin o)) (item_of (l.begin c)) s.role (does log.calls c)
  acts c s e =
      let less = known c s e in
      elim (by_option (l.answer c)) [
        | inl none ↦
            let put = facts.unfinished c s none e in
            let is : does log.calls c ≡ effect_unfinished (op_of (l.begin c)) =
            does_at c less ∙ ap (effect_at (op_of (l.begin c))) (unended_is c less none) in
            let stands : Stands l c (Puts put.0 put.1.0) s.point = e ∙ ap (λ r. Some (record {
              role = r;
              point = s.point;
            })) put.1.1 in
            rw (is, put.1.1) (unfinished_acts (λ o. item_of (l.begin o)) (l.begin c) put.0 put.1.0
            (put_item c put.0 put.1.0 s.point stands))
        | inr x ↦
            let end = end_is c x.0 less x.1 in
            let f = facts.finished c x.0 x.1 in
            let same : f.0 ≡ s = same_Some f.0 s (sym f.1 ∙ e) in
            let is : does log.calls c ≡ effect (op_of (l.begin c)) x.0 = does_at c less
            ∙ ap (effect_at (op_of (l.begin c))) end.1.1 in
            rw (is, ← same) (finished_acts (λ o. item_of (l.begin o)) (l.begin c) x.0 f.0.role
            (right c end.0 x.0 less end.1.1) f.2)
      ]

  -- a finished call stands
  pub finished_stands : (c : ℕ) → HasEnd (call log.calls c).end → (s : Spot) × (spot l c ≡ Some s)
  finished_stands c has =
      elim (cases_lt c l.calls) [
        | inl less ↦ elim (by_option (l.answer c)) [
          | inl none ↦ absurd (subst HasEnd (unended_is c less none) has)
          | inr x ↦ let f = facts.finished c x.0 x.1 in (f.0, f.1)
        ]
        | inr ge ↦ absurd (subst (λ (x : Call). HasEnd x.end)
            (get_or_past log.calls c no_call (omega (arith, h.count))) has)
      ]

  -- and what stands is finished or an enqueue
  pub may_stand : (c : ℕ) (s : Spot) → spot l c ≡ Some s → CanStand (call log.calls c).end (call log.calls c).op
  may_stand c s e =
      let less = known c s e in
      elim (by_option (l.answer c)) [
        | inl none ↦
            let put = facts.unfinished c s none e in
            let stands : Stands l c (Puts put.0 put.1.0) s.point = e ∙ ap (λ r. Some (record {
              role = r;
              point = s.point;
            })) put.1.1 in
            rw (unended_is c less none, (h.each c less).op)
            (can_stand (l.begin c) (put_item c put.0 put.1.0 s.point stands))
        | inr x ↦ rw (end_is c x.0 less x.1).1.1 tt
      ]
