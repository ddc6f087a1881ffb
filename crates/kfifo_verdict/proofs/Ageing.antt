-- The search for older items that are left: numbers of puts and gets by their items, and from when until when what a
-- put puts is left.
use Rattle.std.proofs.Common.{ℕ, zero, suc, ◌≡◌, ◌+◌, ◌<◌, ◌≤◌, ◌↔◌, ◌&&◌, Bool, true, false, cond, count_by, eqb, leb}
use Rattle.std.proofs.Common.{ltb, List, [], ◌∷◌, ◌++◌, length, length-append, get_or, refl, sym, ◌∙◌, ap, subst, inl}
use Rattle.std.proofs.Common.{inr, arith, Option, Some, None}
use Rattle.std.proofs.lemmas.Bool.{cases_Bool, cases_lt, lt-ltb, ltb-true, leb-true, le-leb, and_from, and_parts}
use Rattle.std.proofs.lemmas.Bool.{and_left, and_right, false_from_ne_true}
use Rattle.std.proofs.lemmas.List.{get_or_default, get_or_append_left}
use Rattle.std.proofs.Math.Seq.{get_or-append_seam}
use Rattle.std.proofs.lemmas.List.Sums.{sum_by-cons}
use Rattle.std.specs.List.{AllByRecursion}
use Rattle.std.specs.List.Sorted.{IsSortedBy, IsPartitionedBy}
use Rattle.std.specs.Prelude.{unwrap_or, MatchOption}
use Rattle.kfifo_model.specs.declared.calls.Call.{Call}
use Rattle.kfifo_model.specs.declared.calls.End.{End}
use Rattle.kfifo_model.specs.Lists.{IsIn}
use Rattle.kfifo_model.specs.Histories.{call, does, HasEnd, IsFinished}
use Rattle.kfifo_model.specs.Overtaking.{adds, takes, ends_below}
use Rattle.kfifo_model.specs.Validity.{IsHistory}
use Rattle.kfifo_model.proofs.Lists.{each_at, each_from}
use Rattle.kfifo_model.specs.declared.effects.Side.{Side}
use Rattle.kfifo_model.specs.declared.effects.Side.TheVariants.{In, Out}
use Rattle.kfifo_verdict.specs.declared.presences.Presence.{Presence}
use Rattle.kfifo_verdict.specs.Evidence.{Puts, Gets, count_below, last_step, puts_ended, gets_begun, gets_before}
use Rattle.kfifo_verdict.specs.Evidence.{IsOlderCopy, IsOlderLeft}
use Rattle.kfifo_verdict.specs.Finding.{has_item, IsStart, no_presence, lasts_at, IsCountedTo, AreFirst}
use Rattle.kfifo_verdict.specs.Judging.{GotOlderLeft}
use Rattle.kfifo_verdict.specs.Plain.{lower, place}
use Rattle.kfifo_verdict.specs.declared.steps.Key.TheVariants.{Outer, Number}
use Rattle.kfifo_verdict.specs.Soon.{is_by, has_by}
use Rattle.kfifo_verdict.specs.Steps.{AreSorted, is_below}
use Rattle.kfifo_verdict.specs.Left.{is_at, is_up_to, rank}
use Rattle.kfifo_verdict.specs.Older.{IsNth, IsCopy, AreCopies, IsPutOfGet}
use Rattle.kfifo_verdict.proofs.Counting.{count_within}
use Rattle.kfifo_verdict.proofs.Telling.{same_item, puts_pass}
use Rattle.kfifo_verdict.proofs.ItemPresence.{same_put}
use Rattle.kfifo_verdict.proofs.Moments.{precedes_below}
use Rattle.kfifo_verdict.proofs.Refuting.{put_inside, got_ended, below_end, from_last, not_ended, rising_distinct}
use Rattle.kfifo_verdict.proofs.Refuting.{takes_is, adds_is}
use Rattle.kfifo_verdict.proofs.Skipping.{count_rises}
use Rattle.kfifo_verdict.proofs.Younger.{count_yes, count_all}
use Rattle.kfifo_verdict.proofs.EmptyWhileLeft.{up_to_first, rank_counts, ranked, lower_before}
use Rattle.kfifo_verdict.proofs.Passing.{last_below}

-- ---- counts

pub count_same : (t u : ℕ → Bool) (n : ℕ) → ((c : ℕ) → c < n → t c ≡ u c) → count_below t n ≡ count_below u n
count_same t u zero f = refl
count_same t u (suc n) f =
    let on = count_same t u n (λ c lt. f c (omega (arith, lt))) in
    let one : ◌≡◌ {A = ℕ} (cond (t n) 1 0) (cond (u n) 1 0) = ap (λ b. cond b 1 0) (f n (omega arith)) in
    omega (arith, on, one)

-- those below m, of those below n
pub count_prefix : (t : ℕ → Bool) (m n : ℕ) → m ≤ n → count_below (λ c. t c && ltb c m) n ≡ count_below t m
count_prefix t m zero le = let z : m ≡ 0 = omega (arith, le) in sym (ap (count_below t) z)
count_prefix t m (suc n) le =
    elim (cases_lt n m) [
      | inl last ↦ (
          let z : m ≡ suc n = omega (arith, le, last) in
          count_same (λ c. t c && ltb c m) t (suc n)
          (λ c lt. with_true (t c) (ltb c m) (lt-ltb c m (omega (arith, lt, z))))
          ∙ sym (ap (count_below t) z)
          )
      | inr ge ↦ (
          let on = count_prefix t m n ge in
          let fails : (t n && ltb n m) ≡ false =
          and_right (t n) (ltb n m)
          (false_from_ne_true (ltb n m) (λ q. let lt = ltb-true n m q in absurd (omega (arith, lt, ge)))) in
          let none : ◌≡◌ {A = ℕ} (cond (t n && ltb n m) 1 0) 0 = ap (λ b. cond b 1 0) fails in
          omega (arith, on, none)
          )
    ]
  where
    with_true : (a b : Bool) → b ≡ true → (a && b) ≡ a
    with_true true b e = e
    with_true false b e = refl

-- ---- in a sorted list

pub up_to_parts : (side : Side) (x t : ℕ) (steps : List (ℕ × ℕ × ℕ)) → IsSortedBy lower steps
    → IsPartitionedBy (is_up_to side x t) steps
up_to_parts side x t steps up i j d le lt holds =
    let P : ℕ × ℕ × ℕ → Type 0 = λ e. is_up_to side x t e ≡ true in
    subst P (sym (get_or_default steps i d (0, 0, 0) (omega (arith, le, lt))))
    (up_to_first side x t steps up i j le lt (subst P (get_or_default steps j d (0, 0, 0) lt) holds))

-- ---- the nth call of an item

pub nth_found : (h : List Call) (side : Side) (x count i : ℕ) (steps : List (ℕ × ℕ × ℕ)) → AreSorted Number h side steps
    → i < length steps → (place steps i).0 ≡ x → i ≡ count_by (is_below x) steps + count
    → IsNth h side x count (Some (place steps i).1)
nth_found h side x count i steps are inside is at =
    let d : ℕ = (place steps i).1 in
    let t : ℕ → Bool = has_item side h x in
    let below = ap (λ w. count_by (is_below w) steps) is in
    let all : (m : ℕ) → count_by (is_at In (place steps i).0 m) steps ≡ count_below (λ c. t c && ltb c m) (length h) =
    λ m. ap (λ w. count_by (is_at In w m) steps) is ∙ are.counted x m in
    let later = (rank_counts In steps are.sorted i (suc d) inside).0 (lt-ltb d (suc d) (omega arith)) in
    let more = all (suc d) in
    let few = all d in
    let upto : count_below (λ c. t c && ltb c d) (length h) ≤ count = elim
    (cases_lt (rank steps i) (count_by (is_at In (place steps i).0 d) steps)) [
      | inl lt ↦ (let self = ltb-true d d ((rank_counts In steps are.sorted i d inside).1 lt) in
          absurd (omega (arith, self)))
      | inr le ↦ omega (arith, le, few, at, below)
    ] in
    let over : count < count_below (λ c. t c && ltb c (suc d)) (length h) = omega (arith, later, more, at, below) in
    elim (cases_lt d (length h)) [
      | inl lt ↦ nth_here h t d count lt (count_prefix t d (length h) (omega (arith, lt)))
          (count_prefix t (suc d) (length h) lt) upto over
      | inr ge ↦ (
          let same = count_same (λ c. t c && ltb c (suc d)) (λ c. t c && ltb c d) (length h) (λ c lt.
          ap (λ b. t c && b) (lt-ltb c (suc d) (omega (arith, lt, ge)) ∙ sym (lt-ltb c d (omega (arith, lt, ge))))) in
          absurd (omega (arith, same, upto, over))
          )
    ]
  where
    nth_here : (h : List Call) (t : ℕ → Bool) (d count : ℕ) → d < length h
        → count_below (λ c. t c && ltb c d) (length h) ≡ count_below t d
        → count_below (λ c. t c && ltb c (suc d)) (length h) ≡ count_below t (suc d)
        → count_below (λ c. t c && ltb c d) (length h) ≤ count
        → count < count_below (λ c. t c && ltb c (suc d)) (length h)
        → (d < length h) × (t d ≡ true) × (count_below t d ≡ count)
    nth_here h t d count lt a b upto over = elim (cases_Bool (t d)) [
      | inl yes_ ↦ (
          let one : ◌≡◌ {A = ℕ} (cond (t d) 1 0) 1 = ap (λ b. cond b 1 0) yes_ in
          (lt, yes_, omega (arith, a, b, upto, over, one))
          )
      | inr no_ ↦ (let none : ◌≡◌ {A = ℕ} (cond (t d) 1 0) 0 =
          ap (λ b. cond b 1 0) no_ in absurd (omega (arith, a, b, upto, over, none)))
    ]

pub nth_none : (h : List Call) (side : Side) (x count : ℕ) (steps : List (ℕ × ℕ × ℕ)) → AreSorted Number h side steps
    → (count_by (is_below x) steps + count < length steps → (place steps (count_by (is_below x) steps + count)).0
    ≡ x → ⊥)
    → IsNth h side x count None
nth_none h side x count steps are never m le =
    let t : ℕ → Bool = has_item side h x in
    let all = are.counted x m ∙ count_prefix t m (length h) le in
    elim (cases_lt count (count_below t m)) [
      | inl lt ↦ (
          let r = ranked In x m count steps are.sorted (omega (arith, lt, all)) in
          let inside = r.1 in
          let e = ap (λ w. count_by (is_below w) steps) r.2 in
          let before = lower_before steps are.sorted r.0 inside in
          let rk = r.3 in
          let at : r.0 ≡ count_by (is_below x) steps + count = omega (arith, e, before, rk) in
          let P : ℕ → Type 0 = λ w. (w < length steps) × ((place steps w).0 ≡ x) in
          let q = subst P at (inside, r.2) in
          absurd (never q.0 q.1)
          )
      | inr few ↦ few
    ]

-- ---- copies

pub gone_tells : (h : List Call) (y r after : ℕ) (o : Option ℕ) → IsNth h Out y r o → after ≤ length h
    → (after ≤ unwrap_or o (length h)) ↔ (count_below (has_item Out h y) after ≤ r)
gone_tells h y r after (Some d) n le = (
  λ up. (let m = count_rises (has_item Out h y) after d up in let e = n.2 in omega (arith, m, e)),
  λ few. elim (cases_lt d after) [
    | inl lt ↦ (
        let m = count_rises (has_item Out h y) (d + 1) after (omega (arith, lt)) in
        let e = n.2 in
        let one = count_yes (has_item Out h y) d n.1 in
        absurd (omega (arith, m, e, one, few))
        )
    | inr up ↦ up
  ],
)
gone_tells h y r after None n le = (λ up. n after le, λ few. le)

-- the gets that a call does not precede
pub begun_is : (h : List Call) (y g after : ℕ) → IsFinished h g → IsStart h (call h g).end after
    → gets_begun h y (last_step (call h g).end) ≡ count_below (has_item Out h y) after
begun_is h y g after ended start =
    let last : ℕ = last_step (call h g).end in
    count_same (λ c. takes y (does h c) && leb (call h c).first last) (λ c. takes y (does h c) && ltb c after)
    (length h) (λ c lt.
    ap (λ b. takes y (does h c) && b) (elim (cases_lt c after) [
      | inl less ↦ le-leb (call h c).first last (from_last (call h g).end (call h c).first ended
          (not_ended (call h g).end (call h c).first (λ b. let up =
          (start.starts c lt).0 b in absurd (omega (arith, up, less)))))
          ∙ sym (lt-ltb c after less)
      | inr ge ↦ false_from_ne_true (leb (call h c).first last) (λ q.
          let up = leb-true (call h c).first last q in
          let low = last_below (call h g).end (call h c).first ((start.starts c lt).1 ge) in
          absurd (omega (arith, up, low)))
          ∙ sym (false_from_ne_true (ltb c after) (λ q. let less =
          ltb-true c after q in absurd (omega (arith, less, ge))))
    ])) ∙ count_prefix (λ c. takes y (does h c)) after (length h) start.bound

pub copy_is : (h : List Call) (p y : ℕ) (sooner : ℕ) (o : Option ℕ) (s : Presence) → Puts h y p
    → sooner ≡ puts_ended h y (last_step (call h p).end) → IsStart h (call h p).end s.start → IsNth h Out y sooner o
    → s.gone ≡ unwrap_or o (length h) → IsCopy h p s
copy_is h p y sooner o s puts count starts nth is g q after lt ended start =
    let tells = gone_tells h y sooner after o nth start.bound in
    let begun = begun_is h y g after ended start in (
      λ c. (
          let P : ℕ → Type 0 = λ w. gets_begun h w (last_step (call h g).end) ≤ puts_ended h w
          (last_step (call h p).end) in
          let kept = subst P (same_put h c.item y p c.puts puts) c.kept in
          let up = tells.1 (omega (arith, kept, begun, count)) in
          ((starts.starts q lt).0 c.before, omega (arith, up, is))
          ),
      λ b. (
          let up = b.1 in
          let few = tells.0 (omega (arith, up, is)) in
          record { item = y; puts = puts; before = (starts.starts q lt).1 b.0; kept = omega (arith, few, begun, count) }
          ),
    )

pub no_copy : (h : List Call) (p : ℕ) (s : Presence) → ((y : ℕ) → Puts h y p → IsFinished h p → ⊥) → s.start ≡ length h
    → IsCopy h p s
no_copy h p s never is g q after lt ended start = (
  λ c. absurd (never c.item c.puts (below_end (call h p).end (call h q).first c.before)),
  λ b. (let le = b.0 in absurd (omega (arith, le, is, lt))),
)

-- ---- the put of a get

list_same : (t u : ℕ × ℕ × ℕ → Bool) (l : List (ℕ × ℕ × ℕ)) → ((e : ℕ × ℕ × ℕ) → t e ≡ u e)
    → count_by t l ≡ count_by u l
list_same t u [] f = refl
list_same t u (e ∷ l) f =
    let on = list_same t u l f in
    let one : ◌≡◌ {A = ℕ} (cond (t e) 1 0) (cond (u e) 1 0) = ap (λ b. cond b 1 0) (f e) in
    let a = sum_by-cons (λ w. cond (t w) 1 0) e l in
    let b = sum_by-cons (λ w. cond (u w) 1 0) e l in
    omega (arith, on, one, a, b)

lt_suc : (a s : ℕ) → ltb a (suc s) ≡ leb a s
lt_suc a s = elim (cases_lt s a) [
  | inl more ↦
      false_from_ne_true (ltb a (suc s)) (λ q. let lt = ltb-true a (suc s) q in absurd (omega (arith, lt, more)))
      ∙ sym (false_from_ne_true (leb a s) (λ q. let le = leb-true a s q in absurd (omega (arith, le, more))))
  | inr le ↦ lt-ltb a (suc s) (omega (arith, le)) ∙ sym (le-leb a s le)
]

ended_same : (o : Option End) (s : ℕ) → HasEnd o → leb (last_step o) s ≡ ends_below o (suc s)
ended_same (Some end) s e = sym (lt_suc end.last s)
ended_same None s e = absurd e

never_zero : (o : Option End) → ends_below o 0 ≡ false
never_zero (Some end) =
    false_from_ne_true (ltb end.last 0) (λ q. let lt = ltb-true end.last 0 q in absurd (omega (arith, lt)))
never_zero None = refl

pub before_is : (h : List Call) (x t : ℕ) (ended : List (ℕ × ℕ × ℕ)) → AreSorted Outer h Out ended
    → count_by (is_at In x t) ended ≡ count_below (λ c. takes x (does h c) && ends_below (call h c).end t) (length h)
before_is h x zero ended are =
    list_same (is_at In x 0) (λ e. false) ended (λ e. and_right (eqb x e.0) (ltb e.1 0)
    (false_from_ne_true (ltb e.1 0) (λ q. let lt = ltb-true e.1 0 q in absurd (omega (arith, lt)))))
    ∙ (nothing ended ∙ sym (count_same (λ c. takes x (does h c) && ends_below (call h c).end 0) (λ c. false) (length h)
    (λ c lt. and_right (takes x (does h c)) (ends_below (call h c).end 0) (never_zero (call h c).end))
    ∙ nothing_below (length h)))
  where
    nothing : (l : List (ℕ × ℕ × ℕ)) → count_by (λ e. false) l ≡ 0
    nothing [] = refl
    nothing (e ∷ l) = let on = nothing l in let p = sum_by-cons (λ (w : ℕ × ℕ × ℕ). cond false 1 0) e l in
        omega (arith, on, p)

    nothing_below : (n : ℕ) → count_below (λ c. false) n ≡ 0
    nothing_below zero = refl
    nothing_below (suc n) = let on = nothing_below n in omega (arith, on)
before_is h x (suc s) ended are =
    list_same (is_at In x (suc s)) (is_by x s) ended (λ e. ap (λ b. eqb x e.0 && b) (lt_suc e.1 s))
    ∙ (are.counted x s ∙ count_same (has_by Out h x s) (λ c. takes x (does h c) && ends_below (call h c).end (suc s))
    (length h)
    (λ c lt. elim (cases_Bool (takes x (does h c))) [
      | inl gets ↦
          ap (λ b. takes x (does h c) && b) (ended_same (call h c).end s (got_ended h x c (takes_is x (does h c) gets)))
      | inr none ↦ and_left (takes x (does h c)) (leb (last_step (call h c).end) s) none
          ∙ sym (and_left (takes x (does h c)) (ends_below (call h c).end (suc s)) none)
    ]))

pub put_found : (h : List Call) (x g q count : ℕ) → Gets h x g → count ≡ gets_before h x g → IsNth h In x count (Some q)
    → IsPutOfGet h g q
put_found h x g q count gets is n = (x, gets, adds_is x (does h q) n.1, n.2 ∙ is, n.0)

pub put_none : (h : List Call) (x g count : ℕ) → Gets h x g → count ≡ gets_before h x g → IsNth h In x count None
    → (q : ℕ)
    → IsPutOfGet h g q → ⊥
put_none h x g count gets is n q p =
    let P : ℕ → Type 0 = λ w. Puts h w q × (count_below (λ c. adds w (does h c)) q ≡ gets_before h w g) in
    let here = subst P (same_item h p.0 x g p.1 gets) (p.2, p.3) in
    let more = count_yes (has_item In h x) q (puts_pass h x q here.0) in
    let in_q = p.4 in
    let few = n (q + 1) (omega (arith, in_q)) in
    let e = here.1 in
    absurd (omega (arith, more, few, e, is))

-- two puts of an item before which as many of it begin are one
same_place : (h : List Call) (x a b : ℕ) → Puts h x a → Puts h x b → count_below (has_item In h x) a
    ≡ count_below (has_item In h x) b → a
    ≡ b
same_place h x a b pa pb e =
    let t : ℕ → Bool = has_item In h x in
    elim (cases_lt a b) [
      | inl lt ↦ (
          let up = count_rises t (a + 1) b (omega (arith, lt)) in
          let one = count_yes t a (puts_pass h x a pa) in
          absurd (omega (arith, up, one, e))
          )
      | inr ge ↦ elim (cases_lt b a) [
        | inl lt ↦ (
            let up = count_rises t (b + 1) a (omega (arith, lt)) in
            let one = count_yes t b (puts_pass h x b pb) in
            absurd (omega (arith, up, one, e))
            )
        | inr le ↦ omega (arith, ge, le)
      ]
    ]

-- ---- what they tell of a get

passes_copy : (h : List Call) (ps : List Presence) (g put after p : ℕ) → AreCopies h (length h) ps → IsFinished h g
    → IsStart h (call h g).end after → put < length h → p < put
    → IsOlderCopy h g put p ↔ (lasts_at ps put after p ≡ true)
passes_copy h ps g put after p are ended start inside lt =
    let r = are.1 p (omega (arith, inside, lt)) g put after inside ended start in
    let s = get_or ps p no_presence in (
      λ o. (let b = r.0 o in and_from (leb s.start put) (leb after s.gone) (le-leb s.start put b.0)
          (le-leb after s.gone b.1)),
      λ t. (let b = and_parts (leb s.start put) (leb after s.gone) t in r.1
          (leb-true s.start put b.0, leb-true after s.gone b.1)),
    )

pub left_none : (h : List Call) (ps : List Presence) (g put after k count : ℕ) → IsHistory h → AreCopies h (length h) ps
    → IsStart h (call h g).end after → IsPutOfGet h g put
    → IsCountedTo k (count_below (lasts_at ps put after) put) count → count < k
    → GotOlderLeft k h g → ⊥
left_none h ps g put after k count v are start s counted few older =
    let puts = older.0 in
    let t = older.1 in
    let x : ℕ = s.0 in
    let inside = s.4 in
    let P : ℕ → Type 0 = λ w. Puts h w t.put × (count_below (λ c. adds w (does h c)) t.put ≡ gets_before h w g) in
    let here = subst P (same_item h t.item x g t.gets s.1) (t.adds_it, t.few) in
    let same = same_place h x t.put put here.0 s.2 (here.1 ∙ sym s.3) in
    let Q : ℕ → Type 0 = λ w. AllByRecursion (IsOlderCopy h g w) puts in
    let all = subst Q same t.older in
    let below : (p : ℕ) → IsIn p puts → p < put = λ p i. let o = each_at (IsOlderCopy h g put) p puts all i in
    precedes_below h p put v (put_inside h o.item p o.puts) o.before in
    let pass : (p : ℕ) → IsIn p puts → lasts_at ps put after p ≡ true = λ p i.
    (passes_copy h ps g put after p are (got_ended h x g s.1) start inside (below p i)).0
    (each_at (IsOlderCopy h g put) p puts all i) in
    let many = count_all (lasts_at ps put after) puts (each_from (λ p. lasts_at ps put after p ≡ true) puts pass) in
    let within = count_within (lasts_at ps put after) put puts (rising_distinct puts t.rising) (λ p i e. below p i) in
    let size = t.count in
    elim counted [
      | inl e ↦ omega (arith, e, many, within, size, few)
      | inr b ↦ (let le = b.0 in omega (arith, le, few))
    ]

pub left_found : (h : List Call) (ps : List Presence) (g put after k count : ℕ) (found : List ℕ)
    → AreCopies h (length h) ps
    → IsStart h (call h g).end after → IsPutOfGet h g put
    → IsCountedTo k (count_below (lasts_at ps put after) put) count → k ≤ count
    → AreFirst (lasts_at ps put after) k put found → IsOlderLeft k h g found
left_found h ps g put after k count found are start s counted enough first =
    let all : k ≤ count_below (lasts_at ps put after) put =
    elim counted [ inl e ↦ omega (arith, e, enough) | inr b ↦ (let le = b.1 in omega (arith, le, enough)) ] in
    let size = first.count in
    record {
      item = s.0;
      put = put;
      gets = s.1;
      adds_it = s.2;
      few = s.3;
      older = each_from (IsOlderCopy h g put) found
          (λ p i. let b = each_at (λ p. (p < put) × (lasts_at ps put after p ≡ true)) p found first.pass i in
          (passes_copy h ps g put after p are (got_ended h s.0 g s.1) start s.4 b.0).1 b.1);
      rising = first.rising;
      count = omega (arith, size, all);
    }

pub copies_more : (h : List Call) (n : ℕ) (ps more : List Presence) (s : Presence) → AreCopies h n ps → IsCopy h n s
    → more ≡ ps ++ s ∷ []
    → AreCopies h (n + 1) more
copies_more h n ps more s was here e =
    let size = was.0 in
    let size_more = ap length e in
    let last : get_or more n no_presence ≡ s =
    ap (λ (l : List Presence). get_or l n no_presence) e
    ∙ (ap (λ w. get_or (ps ++ s ∷ []) w no_presence) (sym size) ∙ get_or-append_seam ps s [] no_presence) in (
      omega (arith, size_more, length-append ps (s ∷ []), size),
      λ p lt. elim (cases_lt p n) [
        | inl below ↦ (
            let P : Presence → Type 0 = λ w. IsCopy h p w in
            let same : get_or more p no_presence ≡ get_or ps p no_presence =
            ap (λ (l : List Presence). get_or l p no_presence) e
            ∙ get_or_append_left ps (s ∷ []) no_presence p (let i : p < length ps = omega (arith, size, below) in i) in
            subst P (sym same) (was.1 p below)
            )
        | inr ge ↦ (
            let same : p ≡ n = omega (arith, ge, lt) in
            let P : ℕ → Type 0 = λ w. IsCopy h w (get_or more w no_presence) in
            let Q : Presence → Type 0 = λ w. IsCopy h n w in
            subst P (sym same) (subst Q (sym last) here)
            )
      ],
    )

pub put_tells : (h : List Call) (x g count : ℕ) (o : Option ℕ) → Gets h x g → count ≡ gets_before h x g
    → IsNth h In x count o
    → MatchOption o ((q : ℕ) → IsPutOfGet h g q → ⊥) (IsPutOfGet h g)
put_tells h x g count (Some q) gets is n = put_found h x g q count gets is n
put_tells h x g count None gets is n = put_none h x g count gets is n

pub older_tells : (h : List Call) (k g : ℕ) → GotOlderLeft k h g → (q : ℕ) × IsPutOfGet h g q
older_tells h k g o =
    let t = o.1 in
    (t.put, (t.item, t.gets, t.adds_it, t.few, put_inside h t.item t.put t.adds_it))
