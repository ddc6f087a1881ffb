-- The facts about points hold of what the ledger marks.
use Rattle.std.proofs.Common.{◌≡◌, ℕ, ◌-◌, ◌*◌, ◌/◌, ◌%◌, ◌<◌, ◌≤◌, true, Option, Some, None, is_some, refl, sym, ap}
use Rattle.std.proofs.Common.{◌∙◌, subst, arith}
use Rattle.std.proofs.Math.Nat.{mod-lt}
use Rattle.std.proofs.lemmas.Nat.{div-add-mod'}
use Rattle.std.proofs.lemmas.Bool.{false≢true}
use Rattle.std.proofs.lemmas.Option.{none-some, same_Some}
use Rattle.kfifo_linear.proofs.Types.{Answer, Effect, End, Running, Shape}
use Rattle.kfifo_model.specs.declared.effects.Effect.TheVariants as M
use Rattle.kfifo_model.specs.Histories.{call, does, HasEnd}
use Rattle.kfifo_model.specs.Validity.{IsHistory}
use Rattle.kfifo_machine.specs.Calls.{Log}
use Rattle.kfifo_linear.specs.Ledger.{Ledger, item_of}
use Rattle.kfifo_linear.specs.Roles.{Role, Puts, Gets, FindsNone, Refused, Spot, spot}
use Rattle.kfifo_linear.specs.Points.{IsTakeOf, PointsFit, StandsFit, IsNoLater}
use Rattle.kfifo_linear.specs.Order.{stands, point, point_of, role_of, visit_of, slot_of, source_of, number_at}
use Rattle.kfifo_linear.specs.Order.{marks_of}
use Rattle.kfifo_linear.proofs.Claims.{segment_of}
use Rattle.kfifo_linear.proofs.Invariant.{Inv, AtTail}
use Rattle.kfifo_linear.proofs.Facts.{Facts, Stands, HeadAt}
use Rattle.kfifo_linear.proofs.Agrees.{Agrees, end_of}
use Rattle.kfifo_linear.proofs.Numbers.{number_is, number_rises, number_past, number_most}
use Rattle.kfifo_linear.proofs.Acts.{Acts, acts, known, finished_stands, may_stand}

-- what an effect says of the role
adds_put : (items : ℕ → ℕ) (own : ℕ) (role : Role) (x : ℕ) → Acts items own role (M.Adds x)
    → (v : ℕ) × ((i : ℕ) × (role ≡ Puts v i))
adds_put items own (Puts v i) x a = (v, (i, refl))
adds_put items own (Gets o v) x a = absurd (cc)
adds_put items own (FindsNone v) x a = absurd (cc)
adds_put items own Refused x a = absurd (cc)

takes_get : (items : ℕ → ℕ) (own : ℕ) (role : Role) (x : ℕ) → Acts items own role (M.Takes x) → (o : ℕ)
    × ((v : ℕ) × ((role ≡ Gets o v) × (x ≡ items o)))
takes_get items own (Gets o v) x a = (o, (v, (refl, cc)))
takes_get items own (Puts v i) x a = absurd (cc)
takes_get items own (FindsNone v) x a = absurd (cc)
takes_get items own Refused x a = absurd (cc)

none_stood : (items : ℕ → ℕ) (own : ℕ) (role : Role) → Acts items own role M.FindsNone → (v : ℕ) × (role ≡ FindsNone v)
none_stood items own (FindsNone v) a = (v, refl)
none_stood items own (Puts v i) a = absurd (cc)
none_stood items own (Gets o v) a = absurd (cc)
none_stood items own Refused a = absurd (cc)

never_wrong : (items : ℕ → ℕ) (own : ℕ) (role : Role) → Acts items own role M.Wrong → ⊥
never_wrong items own (Puts v i) a = cc
never_wrong items own (Gets o v) a = cc
never_wrong items own (FindsNone v) a = cc
never_wrong items own Refused a = cc

spot_is : (o : Option Spot) → is_some o ≡ true → (s : Spot) × (o ≡ Some s)
spot_is None e = absurd (false≢true e)
spot_is (Some s) e = (s, refl)

end_last : (o : Option ℕ) (a : Option Answer) (e : End) → end_of o a ≡ Some e → o ≡ Some e.last
end_last (Some last) (Some x) e is = ap (λ (z : End). Some z.last) (same_Some (record { last = last; answer = x }) e is)
end_last None (Some x) e is = absurd (none-some e is)
end_last None None e is = absurd (none-some e is)
end_last (Some last) None e is = absurd (none-some e is)

-- a call that stands with this role
pub record Put (l : Ledger) (c : ℕ) : Type 0 where
  pub visit : ℕ
  pub index : ℕ
  pub point : ℕ
  pub stands : Stands l c (Puts visit index) point

pub record Get (l : Ledger) (g x : ℕ) : Type 0 where
  pub source : ℕ
  pub visit : ℕ
  pub point : ℕ
  pub stands : Stands l g (Gets source visit) point
  pub item : x ≡ item_of (l.begin source)

pub record Found_none (l : Ledger) (e : ℕ) : Type 0 where
  pub visit : ℕ
  pub point : ℕ
  pub stands : Stands l e (FindsNone visit) point

-- two slots of one segment that have one place in it
one_slot : (shape : Shape) (i j : ℕ) → 0 < i → 0 < j → segment_of shape i ≡ segment_of shape j
    → (i - 1) % shape.k ≡ (j - 1) % shape.k
    → i ≡ j
unfolding segment_of
one_slot shape i j a b segment slot =
    let some : 0 < shape.k = shape.some_slot in
    let x = div-add-mod' (i - 1) shape.k in
    let y = div-add-mod' (j - 1) shape.k in
    let z : (i - 1) / shape.k * shape.k ≡ (j - 1) / shape.k * shape.k = ap (λ q. q * shape.k) segment in
    omega arith

module _ (shape : Shape) (w : ℕ → ℕ) (p : ℕ → Option Running) (log : Log) (l : Ledger) (place : ℕ)
    (inv : Inv shape w p l) (facts : Facts shape l) (h : Agrees log l place) (good : IsHistory log.calls) where
  acts_of : (c : ℕ) (s : Spot) → spot l c ≡ Some s → (e : Effect) → does log.calls c ≡ e
      → Acts (λ o. item_of (l.begin o)) (item_of (l.begin c)) s.role e
  acts_of c s at e is = subst (Acts (λ o. item_of (l.begin o)) (item_of (l.begin c)) s.role) is
      (acts shape w p log l place inv facts h good c s at)

  pub put_of : (c x : ℕ) → stands l c ≡ true → does log.calls c ≡ M.Adds x → Put l c
  put_of c x st is =
      let s = spot_is (spot l c) st in
      let r = adds_put (λ o. item_of (l.begin o)) (item_of (l.begin c)) s.0.role x (acts_of c s.0 s.1 (M.Adds x) is) in
      record {
        visit = r.0;
        index = r.1.0;
        point = s.0.point;
        stands = s.1 ∙ ap (λ q. Some (record {
          role = q;
          point = s.0.point;
        })) r.1.1;
      }

  get_of : (g x : ℕ) → stands l g ≡ true → does log.calls g ≡ M.Takes x → Get l g x
  get_of g x st is =
      let s = spot_is (spot l g) st in
      let r = takes_get (λ o. item_of (l.begin o)) (item_of (l.begin g)) s.0.role x
      (acts_of g s.0 s.1 (M.Takes x) is) in
      record {
        source = r.0;
        visit = r.1.0;
        point = s.0.point;
        stands = s.1 ∙ ap (λ q. Some (record { role = q; point = s.0.point })) r.1.1.0;
        item = r.1.1.1;
      }

  none_of : (e : ℕ) → stands l e ≡ true → does log.calls e ≡ M.FindsNone → Found_none l e
  none_of e st is =
      let s = spot_is (spot l e) st in
      let r = none_stood (λ o. item_of (l.begin o)) (item_of (l.begin e)) s.0.role (acts_of e s.0 s.1 M.FindsNone is) in
      record {
        visit = r.0;
        point = s.0.point;
        stands = s.1 ∙ ap (λ q. Some (record {
          role = q;
          point = s.0.point;
        })) r.1;
      }

  -- what is marked on a call that stands so
  at_point : (c q : ℕ) (r : Role) → Stands l c r q → point l c ≡ q
  at_point c q r st = ap point_of st

  at_role : (c q : ℕ) (r : Role) → Stands l c r q → role_of (spot l c) ≡ r
  at_role c q r st = ap role_of st

  at_stands : (c q : ℕ) (r : Role) → Stands l c r q → stands l c ≡ true
  at_stands c q r st = ap is_some st

  tail_is : (v q : ℕ) → AtTail l v q → number_at l.tails l.tail q ≡ v
  tail_is v q at = number_is l.tails l.tail v q inv.times.tails_rise at.reached at.after at.before

  head_is : (v q : ℕ) → HeadAt l v q → number_at l.heads l.head q ≡ v
  head_is v q at = number_is l.heads l.head v q inv.times.heads_rise at.reached at.after at.before

  -- a call that took the item of another
  taken_by : (c g v q x : ℕ) → Stands l g (Gets c v) q → does log.calls g ≡ M.Takes x
      → IsTakeOf (does log.calls) (marks_of shape l) c g
  taken_by c g v q x st is = (at_stands g q (Gets c v) st, x, is, ap source_of (at_role g q (Gets c v) st))

  takes_at : (c g v q : ℕ) → Stands l g (Gets c v) q → does log.calls g ≡ M.Takes (item_of (l.begin c))
  takes_at c g v q st = acts shape w p log l place inv facts h good g (record { role = Gets c v; point = q }) st

  adds_at : (c v i q : ℕ) → Stands l c (Puts v i) q → does log.calls c ≡ M.Adds (item_of (l.begin c))
  adds_at c v i q st = acts shape w p log l place inv facts h good c (record { role = Puts v i; point = q }) st

  -- the source of a call that took an item
  source_is : (g x : ℕ) (got : Get l g x) → (marks_of shape l).source g ≡ got.source
  source_is g x got = ap source_of (at_role g got.point (Gets got.source got.visit) got.stands)

  pub visit_is : (c v i q : ℕ) → Stands l c (Puts v i) q → (marks_of shape l).visit c ≡ v
  visit_is c v i q st = ap visit_of (at_role c q (Puts v i) st)

  slot_is : (c v i q : ℕ) → Stands l c (Puts v i) q → (marks_of shape l).slot c ≡ (i - 1) % shape.k
  slot_is c v i q st = ap (slot_of shape) (at_role c q (Puts v i) st)

  source_visit : (g x : ℕ) (got : Get l g x) → (marks_of shape l).visit ((marks_of shape l).source g) ≡ got.visit
  source_visit g x got =
      let put = facts.gets_item g got.source got.visit got.point got.stands in
      ap (marks_of shape l).visit (source_is g x got) ∙ visit_is got.source got.visit put.0 put.1.0 put.1.1

  differ : (c d : ℕ) (x : Put l c) (y : Put l d) → x.visit ≡ y.visit → (x.index - 1) % shape.k ≡ (y.index - 1) % shape.k
      → c ≡ d
  differ c d x y visit slot =
      let a = facts.puts_slot c x.visit x.index x.point x.stands in
      let b = facts.puts_slot d y.visit y.index y.point y.stands in
      let i : x.index ≡ y.index =
      one_slot shape x.index y.index a.0.above b.0.above (sym a.1 ∙ ap (λ v. v % shape.n) visit ∙ b.1) slot in
      let st : Stands l d (Puts x.visit x.index) y.point = rw (visit, i) y.stands in
      facts.apart c d x.visit x.index x.point y.point x.stands st

  once : (c g k x y : ℕ) (one : Get l g x) (two : Get l k y) → (marks_of shape l).source g ≡ c
      → (marks_of shape l).source k ≡ c → g ≡ k
  once c g k x y one two a b =
      let same : two.source ≡ one.source = sym (source_is k y two) ∙ b ∙ sym a ∙ source_is g x one in
      let st : Stands l k (Gets one.source two.visit) two.point =
      two.stands ∙ ap (λ o. Some (record { role = Gets o two.visit; point = two.point })) same in
      facts.once g k one.source one.visit one.point two.visit two.point one.stands st

  pub points_fit : PointsFit shape.k (does log.calls) (marks_of shape l)
  points_fit =
      record {
        head_rises = λ q r le. number_rises l.heads l.head q r le;
        tail_rises = λ q r le. number_rises l.tails l.tail q r le;
        added = λ c x st is.
            let put = put_of c x st is in
            ap (number_at l.tails l.tail) (at_point c put.point (Puts put.visit put.index) put.stands)
            ∙ tail_is put.visit put.point (facts.puts_tail c put.visit put.index put.point put.stands)
            ∙ sym (visit_is c put.visit put.index put.point put.stands);
        slot_below = λ c x st is.
            let put = put_of c x st is in
            let some : 0 < shape.k = shape.some_slot in
            omega (arith, slot_is c put.visit put.index put.point put.stands, mod-lt (put.index - 1) some);
        slots_differ = λ c d a b visit slot.
            let x = put_of c a.1 a.0 a.2 in
            let y = put_of d b.1 b.0 b.2 in
            differ c d x y
            (sym (visit_is c x.visit x.index x.point x.stands) ∙ visit ∙ visit_is d y.visit y.index y.point y.stands)
            (sym (slot_is c x.visit x.index x.point x.stands) ∙ slot ∙ slot_is d y.visit y.index y.point y.stands);
        source_stands = λ g x st is.
            let got = get_of g x st is in
            let put = facts.gets_item g got.source got.visit got.point got.stands in
            ap (stands l) (source_is g x got) ∙ at_stands got.source put.1.0 (Puts got.visit put.0) put.1.1;
        source_adds = λ g x st is.
            let got = get_of g x st is in
            let put = facts.gets_item g got.source got.visit got.point got.stands in
            ap (does log.calls) (source_is g x got) ∙ adds_at got.source got.visit put.0 put.1.0 put.1.1
            ∙ ap M.Adds (sym got.item);
        taken = λ g x st is.
            let got = get_of g x st is in
            let at = facts.gets_head g got.source got.visit got.point got.stands in
            ap (number_at l.heads l.head) (at_point g got.point (Gets got.source got.visit) got.stands)
            ∙ head_is got.visit got.point (record { reached = at.reached; after = at.after; before = at.before })
            ∙ sym (source_visit g x got);
        beyond = λ g x st is.
            let got = get_of g x st is in
            let at = facts.gets_head g got.source got.visit got.point got.stands in
            let past : got.visit < number_at l.tails l.tail got.point =
            number_past l.tails l.tail got.visit got.point at.tail_past at.tail_before in
            let e : number_at l.tails l.tail (point l g) ≡ number_at l.tails l.tail got.point =
            ap (number_at l.tails l.tail) (at_point g got.point (Gets got.source got.visit) got.stands) in
            omega (arith, source_visit g x got);
        taken_once = λ c g k a b. once c g k a.1 b.1 (get_of g a.1 a.0 a.2) (get_of k b.1 b.0 b.2) a.3 b.3;
        left_behind = λ c q a lt.
            let put = put_of c a.1 a.0 a.2 in
            let most = number_most l.heads l.head q in
            let below : put.visit < l.head = omega (arith, visit_is c put.visit put.index put.point put.stands) in
            let t = facts.left c put.visit put.index put.point put.stands below in
            (t.0, taken_by c t.0 put.visit t.1.0 (item_of (l.begin c)) t.1.1 (takes_at c t.0 put.visit t.1.0 t.1.1));
        empty_ends = λ e st is.
            let none = none_of e st is in
            let at = facts.none_tail e none.visit none.point none.stands in
            let q = at_point e none.point (FindsNone none.visit) none.stands in
            ap (number_at l.heads l.head) q ∙ head_is none.visit none.point at.1
            ∙ sym (tail_is none.visit none.point at.0)
            ∙ sym (ap (number_at l.tails l.tail) q);
        empty_visit = λ e c st is a le same.
            let none = none_of e st is in
            let put = put_of c a.1 a.0 a.2 in
            let at = facts.none_tail e none.visit none.point none.stands in
            let q = at_point e none.point (FindsNone none.visit) none.stands in
            let r = at_point c put.point (Puts put.visit put.index) put.stands in
            let lt : put.visit < none.visit = facts.none_before e none.visit none.point c put.visit put.index put.point
            none.stands
            put.stands (omega arith) in
            let head : number_at l.heads l.head (point l e) ≡ none.visit =
            ap (number_at l.heads l.head) q ∙ head_is none.visit none.point at.1 in
            absurd (omega (arith, visit_is c put.visit put.index put.point put.stands));
        sound = λ c st wrong. let s = spot_is (spot l c) st in
            never_wrong (λ o. item_of (l.begin o)) (item_of (l.begin c)) s.0.role (acts_of c s.0 s.1 M.Wrong wrong);
      }

  no_later : (q : ℕ) (c : ℕ) (o : Option End) → ((e : End) → o ≡ Some e → q ≤ e.last) → IsNoLater q o
  no_later q c None f = tt
  no_later q c (Some e) f = f e refl

  pub stands_fit : StandsFit log.calls (marks_of shape l)
  stands_fit =
      record {
        finished_stand = λ c has. let s = finished_stands shape w p log l place inv facts h good c has in
            ap is_some s.1;
        can_stand = λ c st. let s = spot_is (spot l c) st in may_stand shape w p log l place inv facts h good c s.0 s.1;
        point_from = λ c st.
            let s = spot_is (spot l c) st in
            let less = known shape w p log l place inv facts h good c s.0 s.1 in
            let q : point l c ≡ s.0.point = ap point_of s.1 in
            omega (arith, (facts.within c s.0 s.1).0, (h.each c less).first);
        point_to = λ c st.
            let s = spot_is (spot l c) st in
            let less = known shape w p log l place inv facts h good c s.0 s.1 in
            let q : point l c ≡ s.0.point = ap point_of s.1 in
            no_later (point l c) c (call log.calls c).end
            (λ e is. rw q
            ((facts.within c s.0 s.1).1 e.last
            (end_last (l.last c) (l.answer c) e (sym (h.each c less).end ∙ is))));
      }

-- a call that found none has its point at its last step
pub none_at_end : (shape : Shape) (w : ℕ → ℕ) (p : ℕ → Option Running) (log : Log) (l : Ledger) (place : ℕ)
    → Inv shape w p l
    → Facts shape l → Agrees log l place → IsHistory log.calls
    → (c : ℕ) (end : End) → does log.calls c ≡ M.FindsNone → (call log.calls c).end ≡ Some end → point l c ≡ end.last
none_at_end shape w p log l place inv facts h good c end is at =
    let s = finished_stands shape w p log l place inv facts h good c (subst HasEnd (sym at) tt) in
    let less = known shape w p log l place inv facts h good c s.0 s.1 in
    let none = none_of shape w p log l place inv facts h good c (ap is_some s.1) is in
    let last : l.last c ≡ Some end.last = end_last (l.last c) (l.answer c) end (sym (h.each c less).end ∙ at) in
    ap point_of none.stands ∙ facts.none_last c none.visit none.point end.last none.stands last

-- the points are steps of the schedule
pub points_below : (shape : Shape) (l : Ledger) → Facts shape l → (c : ℕ) → stands l c ≡ true → point l c < l.now
points_below shape l facts c st =
    let s = spot_is (spot l c) st in
    let q : point l c ≡ s.0.point = ap point_of s.1 in
    omega (arith, (facts.within c s.0 s.1).2)
