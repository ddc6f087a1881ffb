-- The turns of a plain history's calls stand in a legal order where there is no evidence.
use Rattle.std.proofs.Common.{ℕ, ◌≡◌, ◌+◌, ◌<◌, ◌≤◌, List, length, sym, ◌∙◌, ap, subst, inl, inr}
use Rattle.std.proofs.Common.{arith}
use Rattle.std.proofs.lemmas.Bool.{cases_lt}
use Rattle.std.proofs.lemmas.List.{get_or_default}
use Rattle.kfifo_verdict.proofs.Types.{Call, Presence, Turn}
use Rattle.kfifo_model.specs.declared.effects.Effect.TheVariants.{FindsNone}
use Rattle.kfifo_model.specs.Histories.{call, does, Precedes, IsLegal}
use Rattle.kfifo_verdict.specs.Evidence.{Puts, Gets}
use Rattle.kfifo_verdict.specs.Finding.{first_of}
use Rattle.kfifo_verdict.specs.Plain.{presence, place, IsPlace, IsLine, turn, IsGap, IsIdleTurn, IsLatest, IsItemTurn}
use Rattle.kfifo_verdict.specs.Plain.{AreTurns, IsBefore, IsByTurns}
use Rattle.kfifo_verdict.proofs.Refuting.{put_inside, found_ended, ended_inside}
use Rattle.kfifo_verdict.proofs.Telling.{got_inside}
use Rattle.kfifo_verdict.proofs.Moments.{not_falling, ends_later}
use Rattle.kfifo_verdict.proofs.Serving.{Fits, legal_by}
use Rattle.kfifo_verdict.proofs.Queueing.{Lex, line_rises}
use Rattle.kfifo_verdict.proofs.Scenes.{IsIdle, IsScene, before_apart, before_from, before_moment, finds_none_idle}
use Rattle.kfifo_verdict.proofs.Scenes.{gone_in_gap, got_by, got_where, in_turn, known, put_due, role, sound_of, source}

-- ---- turns

module _ (h : List Call) (ps : List Presence) (line : List (ℕ × ℕ × ℕ)) (ts : List Turn) (s : IsScene h ps)
    (l : IsLine h ps line) (t : AreTurns h ps line (length line) ts) where
  is_place : (i : ℕ) → i < length line → IsPlace h ps (place line i)
  is_place i lt = l.places.real i (0, 0, 0) lt

  lex : (i j : ℕ) → i ≤ j → j < length line → Lex (place line i) (place line j)
  lex i j le lt = line_rises line l.sorted i j le lt

  lex_due : (i j : ℕ) → i ≤ j → j < length line → (place line i).0 ≤ (place line j).0
  lex_due i j le lt = elim (lex i j le lt) [
    | inl below ↦ omega (arith, below)
    | inr same ↦ (let e = same.0 in omega (arith, e))
  ]

  -- the call that gets an item before which another one's get ended stands behind that one
  sooner_got : (i j : ℕ) → i < length line → j < length line → (place line i).1 ≤ (presence ps (place line j).2).gone
      → i < j
  sooner_got i j a b before =
      elim (cases_lt i j) [
        | inl lt ↦ lt
        | inr le ↦ absurd (in_turn h ps (place line i) (place line j) s (is_place i a) (is_place j b) before
            (lex j i le a))
      ]

  -- the turns of an item by its put
  item_turn : (x p : ℕ) → Puts h x p → (i : ℕ) × IsItemTurn h ps line ts p i
  item_turn x p a =
      let m = l.places.each x p (put_inside h x p a) a in
      let at = m.1 in
      let here : place line at.0 ≡ m.0 = get_or_default line at.0 (0, 0, 0) m.0 at.1 ∙ at.2 in
      let same : (place line at.0).2 ≡ p = ap (λ (e : ℕ × ℕ × ℕ). e.2) here ∙ m.2 in
      let o = t.items at.0 at.1 in
      let P : ℕ → Type 0 = λ w. (i : ℕ) × IsItemTurn h ps line ts w i in
      subst P same (o.0, o.2)

  latest_rises : (i j a b : ℕ) → i ≤ j → IsLatest ps line i a → IsLatest ps line j b → a ≤ b
  latest_rises i j a b le p q =
      let o = p.attained in
      let under = o.1 in
      let c = q.covers o.0 (omega (arith, under, le)) in
      let first = c.0 in
      let second = c.1 in
      elim o.2 [ inl e ↦ omega (arith, e, first) | inr e ↦ omega (arith, e, second) ]

  -- an item is out before the call that gets it precedes another
  latest_bound : (i a : ℕ) → i < length line → IsLatest ps line i a → a ≤ (place line i).1
  latest_bound i a lt p =
      let o = p.attained in
      let under = o.1 in
      let got = (is_place i lt).due.got in
      elim o.2 [
        | inl e ↦ (let up = lex_due o.0 i under lt in omega (arith, e, up, got))
        | inr e ↦ elim (cases_lt (presence ps (place line o.0).2).gone (place line i).1) [
          | inl below ↦ omega (arith, e, below)
          | inr before ↦ (let bad = sooner_got i o.0 lt (omega (arith, under, lt)) before in omega (arith, bad, under))
        ]
      ]

  -- the turn of the call that gets an item
  get_turn : (x p g i : ℕ) → Puts h x p → Gets h x g → IsItemTurn h ps line ts p i → (latest : ℕ)
      × IsLatest ps line i latest
      × ((turn ts g).moment ≡ latest) × ((turn ts g).rank ≡ length line + i)
  get_turn x p g i a b u =
      let same = got_by h ps x p g s a b in
      let lt = got_inside h x g b in
      let w = u.get (omega (arith, same, lt)) in
      let P : ℕ → Type 0 = λ v. turn ts v ≡ record { moment = w.0; rank = length line + i } in
      let is = subst P same w.2 in
      (w.0, w.1, ap (λ (r : Turn). r.moment) is, ap (λ (r : Turn). r.rank) is)

  gone_here : (p i : ℕ) → IsItemTurn h ps line ts p i → (presence ps (place line i).2).gone ≡ (presence ps p).gone
  gone_here p i u = ap (λ w. (presence ps w).gone) u.is

  own_before : (x p g : ℕ) → Puts h x p → Gets h x g → IsBefore ts p g
  own_before x p g a b =
      let o = item_turn x p a in
      let w = get_turn x p g o.0 a b o.1 in
      let m = ap (λ (r : Turn). r.moment) o.1.put in
      let r = ap (λ (r : Turn). r.rank) o.1.put in
      let up = (w.1.covers o.0 (omega arith)).0 in
      let mg = w.2 in
      let rg = w.3 in
      let lt = o.1.inside in
      before_from ts p g (omega (arith, m, mg, up)) (omega (arith, r, rg, lt))

  -- places of puts of which one is before the other
  place_before : (p q i j : ℕ) → IsItemTurn h ps line ts p i → IsItemTurn h ps line ts q j → IsBefore ts p q → i < j
  place_before p q i j u v r =
      let mp = ap (λ (r : Turn). r.moment) u.put in
      let mq = ap (λ (r : Turn). r.moment) v.put in
      let rp = ap (λ (r : Turn). r.rank) u.put in
      let rq = ap (λ (r : Turn). r.rank) v.put in
      elim (cases_lt i j) [
        | inl lt ↦ lt
        | inr le ↦ (
            let up = lex_due j i le u.inside in
            elim r [
              | inl low ↦ absurd (omega (arith, low, mp, mq, up))
              | inr tie ↦ elim tie.1 [
                | inl low ↦ omega (arith, low, rp, rq)
                | inr both ↦ (
                    let e = both.0 in
                    let lt = both.1 in
                    let same : i ≡ j = omega (arith, e, rp, rq) in
                    let one = sym u.is ∙ (ap (λ w. (place line w).2) same ∙ v.is) in
                    absurd (omega (arith, one, lt))
                    )
              ]
            ]
            )
      ]

  follow : (x y p q g : ℕ) → Puts h x p → Puts h y q → Gets h y g → IsBefore ts p q → (f : ℕ) × Gets h x f
      × IsBefore ts f g
  follow x y p q g a b c r =
      let u = item_turn x p a in
      let v = item_turn y q b in
      let i = u.0 in
      let j = v.0 in
      let lt = place_before p q i j u.1 v.1 r in
      let wq = get_turn y q g j b c v.1 in
      elim (cases_lt (presence ps p).gone (length h)) [
        | inl inside ↦ (
            let got = got_where h ps x p s a inside in
            let wp = get_turn x p (presence ps p).gone i a got u.1 in
            let up = latest_rises i j wp.0 wq.0 (omega (arith, lt)) wp.1 wq.1 in
            let mp = wp.2 in
            let mq = wq.2 in
            let rp = wp.3 in
            let rq = wq.3 in (
              (presence ps p).gone,
              got,
              before_from ts (presence ps p).gone g (omega (arith, mp, mq, up))
                  (omega (arith, rp, rq, lt)),
            )
            )
        | inr past ↦ (
            let same = gone_here q j v.1 ∙ got_by h ps y q g s b c in
            let in_g = got_inside h y g c in
            let end = ((is_place j v.1.inside).late.got (omega (arith, same, in_g))).bound in
            let gone = gone_here p i u.1 in
            let bad = sooner_got j i v.1.inside u.1.inside (omega (arith, end, past, gone)) in
            absurd (omega (arith, bad, lt))
            )
      ]

  idle_turn : (c : ℕ) → c < length h → IsIdle h c → IsIdleTurn h ps (length line + length line) c (turn ts c)
  idle_turn c lt n = t.idle c lt n.0 n.1

  gone_before : (x p e : ℕ) → Puts h x p → e < length h → does h e ≡ FindsNone → IsBefore ts p e → (f : ℕ) × Gets h x f
      × IsBefore ts f e
  gone_before x p e a lt q r =
      let u = item_turn x p a in
      let i = u.0 in
      let n = idle_turn e lt (finds_none_idle h e q) in
      let m = (turn ts e).moment in
      let gap : IsGap ps m = n.gap q in
      let mp = ap (λ (r : Turn). r.moment) u.1.put in
      let le = before_moment ts p e r in
      let in_i = u.1.inside in
      let out : (j : ℕ) → j ≤ i → ((place line j).0 ≤ m) × ((presence ps (place line j).2).gone ≤ m) = λ j under.
      let up = lex_due j i under in_i in
      let in_j : j < length line = omega (arith, under, in_i) in
      let low : (place line j).0 ≤ m = omega (arith, up, mp, le) in
      (low, gone_in_gap h ps (place line j) m s (is_place j in_j) gap low) in
      let here = (out i (omega arith)).1 in
      let gone = gone_here p i u.1 in
      let m_in = n.inside.1 in
      let inside : (presence ps p).gone < length h = omega (arith, here, gone, m_in) in
      let got = got_where h ps x p s a inside in
      let w = get_turn x p (presence ps p).gone i a got u.1 in
      let o = w.1.attained in
      let last = out o.0 o.1 in
      let first = last.0 in
      let second = last.1 in
      let bound : w.0 ≤ m = elim o.2 [ inl is ↦ omega (arith, is, first) | inr is ↦ omega (arith, is, second) ] in
      let mg = w.2 in
      let rg = w.3 in
      let re = n.ranked in (
        (presence ps p).gone,
        got,
        before_from ts (presence ps p).gone e (omega (arith, mg, bound))
            (omega (arith, rg, re, in_i)),
      )

  -- ---- no call has its turn outside itself

  get_ends : (x p g i d : ℕ) → Puts h x p → Gets h x g → IsItemTurn h ps line ts p i → d < length h → Precedes h g d
      → (place line i).1 ≤ d
  get_ends x p g i d a b u inside before =
      let same = gone_here p i u ∙ got_by h ps x p g s a b in
      let in_g = got_inside h x g b in
      let start = (is_place i u.inside).late.got (omega (arith, same, in_g)) in
      let P : ℕ → Type 0 = λ w. Precedes h w d in
      (start.starts d inside).0 (subst P (sym same) before)

  from_own : (d : ℕ) → d < length h → d ≤ (turn ts d).moment
  from_own d inside = elim (role h d) [
    | inl a ↦ (
        let u = item_turn a.0 d a.1 in
        let lt = put_due h ps (place line u.0) s (is_place u.0 u.1.inside) in
        let m = ap (λ (r : Turn). r.moment) u.1.put in
        let is = u.1.is in
        omega (arith, lt, m, is)
        )
    | inr more ↦ elim more [
      | inl b ↦ (
          let p = source h ps b.0 d s b.1 in
          let u = item_turn b.0 p.0 p.1 in
          let w = get_turn b.0 p.0 d u.0 p.1 b.1 u.1 in
          let same = gone_here p.0 u.0 u.1 ∙ got_by h ps b.0 p.0 d s p.1 b.1 in
          let le = (w.1.covers u.0 (omega arith)).1 in
          let m = w.2 in
          omega (arith, le, m, same)
          )
      | inr n ↦ (idle_turn d inside n).inside.0
    ]
  ]

  put_within : (x c d : ℕ) → Puts h x c → d < length h → Precedes h c d → (turn ts c).moment ≤ d
  put_within x c d a inside before =
      let u = item_turn x c a in
      let m = ap (λ (r : Turn). r.moment) u.1.put in
      let due = (is_place u.0 u.1.inside).due.put in
      let same = ap (λ w. (presence ps w).start) u.1.is in
      let start = ((known h ps x c s a).start.starts d inside).0 before in
      omega (arith, m, due, same, start)

  get_within : (x p c i d : ℕ) → Puts h x p → Gets h x c → IsItemTurn h ps line ts p i → d < length h → Precedes h c d
      → (turn ts c).moment ≤ d
  get_within x p c i d a b u inside before =
      let w = get_turn x p c i a b u in
      let m = w.2 in
      let bound = latest_bound i w.0 u.inside w.1 in
      let le = get_ends x p c i d a b u inside before in
      omega (arith, m, bound, le)

  idle_within : (c d : ℕ) → c < length h → d < length h → IsIdle h c → Precedes h c d → (turn ts c).moment < d
  idle_within c d in_c inside n before =
      let o = (idle_turn c in_c n).inside in
      elim (cases_lt (turn ts c).moment d) [
        | inl lt ↦ lt
        | inr le ↦ absurd (o.2 (ends_later (call h c).end (first_of h d) (first_of h (turn ts c).moment)
            (not_falling h d (turn ts c).moment s.history le o.1) before))
      ]

  within : (c d : ℕ) → c < length h → d < length h → Precedes h c d → (turn ts c).moment ≤ d
  within c d in_c inside before = elim (role h c) [
    | inl a ↦ put_within a.0 c d a.1 inside before
    | inr more ↦ elim more [
      | inl b ↦ (let p = source h ps b.0 c s b.1 in let u = item_turn b.0 p.0 p.1 in get_within b.0 p.0 c u.0 d p.1 b.1
          u.1 inside before)
      | inr n ↦ (let lt = idle_within c d in_c inside n before in omega (arith, lt))
    ]
  ]

  -- of two calls at one moment of which one precedes the other, that one has the lower rank
  rank_below : (c d : ℕ) → c < length h → d < length h → Precedes h c d → d ≤ (turn ts c).moment
      → (turn ts d).moment ≤ (turn ts c).moment
      → (turn ts c).rank < (turn ts d).rank
  rank_below c d in_c inside before at tie = elim (role h d) [
    | inl a ↦ (
        let u = item_turn a.0 d a.1 in
        let lt = put_due h ps (place line u.0) s (is_place u.0 u.1.inside) in
        let m = ap (λ (r : Turn). r.moment) u.1.put in
        let is = u.1.is in
        let le = within c d in_c inside before in
        absurd (omega (arith, lt, m, is, le, tie))
        )
    | inr more ↦ elim more [
      | inl b ↦ (
          let q = source h ps b.0 d s b.1 in
          let v = item_turn b.0 q.0 q.1 in
          let w = get_turn b.0 q.0 d v.0 q.1 b.1 v.1 in
          let rd = w.3 in
          elim (role h c) [
            | inl a ↦ (let u = item_turn a.0 c a.1 in let r = ap (λ (r : Turn). r.rank) u.1.put in let lt =
                u.1.inside in
                omega (arith, rd, r, lt))
            | inr other ↦ elim other [
              | inl e ↦ (
                  let p = source h ps e.0 c s e.1 in
                  let u = item_turn e.0 p.0 p.1 in
                  let r = (get_turn e.0 p.0 c u.0 p.1 e.1 u.1).3 in
                  let le = get_ends e.0 p.0 c u.0 d p.1 e.1 u.1 inside before in
                  let same = gone_here q.0 v.0 v.1 ∙ got_by h ps b.0 q.0 d s q.1 b.1 in
                  let lt = sooner_got u.0 v.0 u.1.inside v.1.inside (omega (arith, le, same)) in
                  omega (arith, rd, r, lt)
                  )
              | inr n ↦ (let lt = idle_within c d in_c inside n before in absurd (omega (arith, lt, at)))
            ]
          ]
          )
      | inr n ↦ (
          let rd = (idle_turn d inside n).ranked in
          elim (role h c) [
            | inl a ↦ (let u = item_turn a.0 c a.1 in let r = ap (λ (r : Turn). r.rank) u.1.put in let lt =
                u.1.inside in
                omega (arith, rd, r, lt))
            | inr other ↦ elim other [
              | inl e ↦ (
                  let p = source h ps e.0 c s e.1 in
                  let u = item_turn e.0 p.0 p.1 in
                  let r = (get_turn e.0 p.0 c u.0 p.1 e.1 u.1).3 in
                  let lt = u.1.inside in
                  omega (arith, rd, r, lt)
                  )
              | inr m ↦ (let lt = idle_within c d in_c inside m before in absurd (omega (arith, lt, at)))
            ]
          ]
          )
    ]
  ]

  keeps : (c d : ℕ) → c < length h → d < length h → Precedes h c d → IsBefore ts c d
  keeps c d in_c inside before =
      let le = within c d in_c inside before in
      let from = from_own d inside in
      elim (cases_lt (turn ts c).moment (turn ts d).moment) [
        | inl lt ↦ inl lt
        | inr ge ↦ inr
            (omega (arith, le, from, ge), inl (rank_below c d in_c inside before (omega (arith, from, ge)) ge))
      ]

  fits : Fits h (IsBefore ts)
  fits = record {
    apart = before_apart ts;
    sound = λ c lt. sound_of (call h c).op (call h c).end (s.plain.1 c lt) (s.history c lt).answers;
    put = λ x g b. source h ps x g s b;
    once = λ x g f b c. (let p = source h ps x g s b in (s.plain.0 x p.0 p.1).once g f b c);
    own = own_before;
    follow = follow;
    empty = λ x p e a q r. gone_before x p e a (ended_inside h e (found_ended h e q)) q r;
    before = keeps;
  }

  -- all calls by their turns are a legal order
  pub legal_by_turns : (order : List ℕ) → IsByTurns ts order → IsLegal 1 h order
  legal_by_turns order b =
      let size = t.sized in
      legal_by h (IsBefore ts) order fits s.plain.1 b.sorted (λ c i. let lt = b.inside c i in omega (arith, lt, size))
      (λ c lt. b.all c (omega (arith, lt, size)))
