-- Of the items that are there at a call the one that stays longest.
use Rattle.std.proofs.Common.{ℕ, ◌≡◌, ◌≢◌, ◌+◌, ◌<◌, ◌≤◌, ◌⊎◌, List, [], ◌∷◌, ◌++◌, length, get_or, set, refl, sym, ◌∙◌}
use Rattle.std.proofs.Common.{ap, subst, inl, inr, arith, length-append, get_or-set_other, get_or-set_same}
use Rattle.std.proofs.lemmas.Bool.{cases_lt, cases_eq}
use Rattle.std.proofs.lemmas.List.{get_or_append_left}
use Rattle.std.proofs.Math.ListN.{length-set}
use Rattle.std.proofs.Math.Seq.{get_or-append_seam}
use Rattle.kfifo_verdict.proofs.Types.{Call, Presence, Stay}
use Rattle.kfifo_model.specs.Validity.{IsHistory}
use Rattle.kfifo_verdict.specs.Finding.{IsPresence, ArePresences, no_presence, IsStay, no_stay, AreStays, AreLongest}
use Rattle.kfifo_verdict.specs.Finding.{IsBucketed}
use Rattle.kfifo_verdict.proofs.Refuting.{put_inside}
use Rattle.kfifo_verdict.proofs.Moments.{not_falling}

-- the longer of two
abbrev pub IsLonger : Stay → Stay → Stay → Type 0
IsLonger a b s = ((s ≡ a) × (b.gone ≤ a.gone)) ⊎ ((s ≡ b) × (a.gone ≤ b.gone))

pub longer_real : (h : List Call) (c : ℕ) (a b s : Stay) → IsLonger a b s → IsStay h c a → IsStay h c b → IsStay h c s
longer_real h c a b s (inl p) ra rb = let P : Stay → Type 0 = λ w. IsStay h c w in subst P (sym p.0) ra
longer_real h c a b s (inr p) ra rb = let P : Stay → Type 0 = λ w. IsStay h c w in subst P (sym p.0) rb

pub longer_left : (a b s : Stay) → IsLonger a b s → a.gone ≤ s.gone
longer_left a b s (inl p) = let e = ap (λ w. w.gone) p.0 in omega (arith, e)
longer_left a b s (inr p) = let e = ap (λ w. w.gone) p.0 in let le = p.1 in omega (arith, e, le)

pub longer_right : (a b s : Stay) → IsLonger a b s → b.gone ≤ s.gone
longer_right a b s (inl p) = let e = ap (λ w. w.gone) p.0 in let le = p.1 in omega (arith, e, le)
longer_right a b s (inr p) = let e = ap (λ w. w.gone) p.0 in omega (arith, e)

-- an item that is there from call c or an earlier one on and stays so long
abbrev pub IsHeld : List Call → List Presence → ℕ → Stay → Type 0
IsHeld h ps c s = (q : ℕ) × (q < length h) × ((get_or ps q no_presence).start ≤ c)
    × ((get_or ps q no_presence).gone ≡ s.gone)

pub longer_held : (h : List Call) (ps : List Presence) (c : ℕ) (a b s : Stay) → IsLonger a b s
    → (0 < a.gone → IsHeld h ps c a)
    → (0 < b.gone → IsHeld h ps c b) → 0 < s.gone → IsHeld h ps c s
longer_held h ps c a b s (inl p) ha hb = let P : Stay → Type 0 = λ w. 0 < w.gone → IsHeld h ps c w in
    subst P (sym p.0) ha
longer_held h ps c a b s (inr p) ha hb = let P : Stay → Type 0 = λ w. 0 < w.gone → IsHeld h ps c w in
    subst P (sym p.0) hb

held_later : (h : List Call) (ps : List Presence) (c d : ℕ) (s : Stay) → c ≤ d → IsHeld h ps c s → IsHeld h ps d s
held_later h ps c d s le o = let up = o.2 in (o.0, o.1, omega (arith, up, le), o.3)

pub no_stay_real : (h : List Call) (c : ℕ) → IsStay h c no_stay
no_stay_real h c = record { there = λ lt. absurd (omega arith); until = λ lt. absurd (omega arith) }

pub stay_later : (h : List Call) (c d : ℕ) (s : Stay) → IsHistory h → c ≤ d → d < length h → IsStay h c s → IsStay h d s
stay_later h c d s v le inside r =
    let up = not_falling h c d v le inside in
    record {
      there = λ lt moment from below. r.there (omega (arith, le, lt)) moment (omega (arith, up, from)) below;
      until = λ lt. r.until (omega (arith, le, lt));
    }

pub presence_stays : (h : List Call) (p c : ℕ) (s : Presence) → IsPresence h p s → s.start ≤ c → c < length h
    → IsStay h c (record { put = p; gone = s.gone })
presence_stays h p c s r le inside = record {
  there = λ lt moment from below. r.there c moment le lt inside from below;
  until = λ lt moment t gone. r.until moment t gone;
}

-- ---- the items by the calls from which on they are there

-- the item of call n is there from no call on
pub bucketed_skip : (h : List Call) (ps : List Presence) (n : ℕ) (stays : List Stay) → IsBucketed h ps n stays
    → length h ≤ (get_or ps n no_presence).start → IsBucketed h ps (n + 1) stays
bucketed_skip h ps n stays b past = record {
  sized = b.sized;
  real = b.real;
  longest = λ p c lt inside e. elim (cases_lt p n) [
    | inl below ↦ b.longest p c below inside e
    | inr le ↦ (let same : p ≡ n = omega (arith, le, lt) in let q = ap (λ w. (get_or ps w no_presence).start) same in
        absurd (omega (arith, q, e, inside, past)))
  ];
  held = b.held;
}

pub bucketed_more : (h : List Call) (ps : List Presence) (n start : ℕ) (stays more : List Stay) (was stay : Stay)
    → IsBucketed h ps n stays → IsPresence h n (get_or ps n no_presence) → start ≡ (get_or ps n no_presence).start
    → start < length h
    → n < length h
    → was ≡ get_or stays start no_stay → IsLonger was (record { put = n; gone = (get_or ps n no_presence).gone }) stay
    → more ≡ set stays start stay → IsBucketed h ps (n + 1) more
bucketed_more h ps n start stays more was stay b r is inside inside_n at longer e =
    let size = b.sized in
    let here : start < length stays = omega (arith, size, inside) in
    let at_start : get_or more start no_stay ≡ stay = ap (λ (l : List Stay). get_or l start no_stay) e
    ∙ rw get_or-set_same refl in
    let elsewhere : (c : ℕ) → c ≢ start → get_or more c no_stay ≡ get_or stays c no_stay =
    λ c ne. ap (λ (l : List Stay). get_or l c no_stay) e ∙ rw get_or-set_other refl in
    let P : ℕ → Stay → Type 0 = λ c w. IsStay h c w in
    let new = presence_stays h n start (get_or ps n no_presence) r (let q = sym is in omega (arith, q)) inside in
    let Q : Stay → Type 0 = λ w. IsStay h start w in
    let old = subst Q (sym at) (b.real start inside) in
    record {
      sized = ap length e ∙ length-set stays start stay ∙ size;
      real = λ c lt. elim (cases_eq c start) [
        | inl same ↦ (
            let R : ℕ → Type 0 = λ w. IsStay h w (get_or more w no_stay) in
            subst R (sym same) (subst Q (sym at_start)
            (longer_real h start was (record { put = n; gone = (get_or ps n no_presence).gone }) stay longer old new))
            )
        | inr ne ↦ (let S : Stay → Type 0 = λ w. IsStay h c w in subst S (sym (elsewhere c ne)) (b.real c lt))
      ];
      longest = λ p c lt_p lt q. elim (cases_eq c start) [
        | inl same ↦ (
            let now = ap (λ w. (get_or more w no_stay).gone) same ∙ ap (λ w. w.gone) at_start in
            elim (cases_lt p n) [
              | inl below ↦ (
                  let le = b.longest p start below inside (q ∙ same) in
                  let up = longer_left was (record { put = n; gone = (get_or ps n no_presence).gone }) stay longer in
                  let a = ap (λ w. w.gone) at in
                  omega (arith, le, up, a, now)
                  )
              | inr ge ↦ (
                  let here_p : p ≡ n = omega (arith, ge, lt_p) in
                  let a = ap (λ w. (get_or ps w no_presence).gone) here_p in
                  let up = longer_right was (record { put = n; gone = (get_or ps n no_presence).gone }) stay longer in
                  omega (arith, a, up, now)
                  )
            ]
            )
        | inr ne ↦ (
            elim (cases_lt p n) [
              | inl below ↦
                  (let le = b.longest p c below lt q in let a =
                  ap (λ w. w.gone) (elsewhere c ne) in omega (arith, le, a))
              | inr ge ↦ (let here_p : p ≡ n = omega (arith, ge, lt_p) in
                  absurd (ne (sym q ∙ (ap (λ w. (get_or ps w no_presence).start) here_p ∙ sym is))))
            ]
            )
      ];
      held = λ c lt some. elim (cases_eq c start) [
        | inl same ↦ (
            let now = ap (λ w. (get_or more w no_stay).gone) same ∙ ap (λ w. w.gone) at_start in
            let H : Stay → Type 0 = λ w. 0 < w.gone → IsHeld h ps start w in
            let a = ap (λ w. w.gone) at in
            let old : H was = λ up. let o = b.held start inside (omega (arith, up, a)) in
            (o.0, o.1, o.2, o.3 ∙ sym a) in
            let o = longer_held h ps start was (record {
              put = n;
              gone = (get_or ps n no_presence).gone;
            }) stay longer old
            (λ up. (n, inside_n, omega (arith, is), refl)) (omega (arith, some, now)) in
            (o.0, o.1, (let le = o.2 in omega (arith, le, same)), o.3 ∙ sym now)
            )
        | inr ne ↦ (let a = ap (λ w. w.gone) (elsewhere c ne) in let o = b.held c lt (omega (arith, some, a)) in
            (o.0, o.1, o.2, o.3 ∙ sym a))
      ];
    }

-- ---- the longest so far

pub record IsLongest (h : List Call) (ps : List Presence) (found : List Stay) (best : Stay) (n : ℕ) : Type 0 where
  pub sized : length found ≡ n
  pub best_real : (c : ℕ) → n ≤ c + 1 → c < length h → IsStay h c best
  pub best_longest : (p : ℕ) → p < length h → (get_or ps p no_presence).start < n
      → (get_or ps p no_presence).gone ≤ best.gone
  pub real : (c : ℕ) → c < n → IsStay h c (get_or found c no_stay)
  pub longest : (c p : ℕ) → c < n → p < length h → (get_or ps p no_presence).start ≤ c
      → (get_or ps p no_presence).gone ≤ (get_or found c no_stay).gone
  pub best_held : 0 < best.gone → (c : ℕ) × (c < n) × IsHeld h ps c best
  pub held : (c : ℕ) → c < n → 0 < (get_or found c no_stay).gone → IsHeld h ps c (get_or found c no_stay)

pub longest_more : (h : List Call) (ps : List Presence) (stays found more : List Stay) (best stay next : Stay) (n : ℕ)
    → IsHistory h → IsBucketed h ps (length h) stays → n < length h → stay ≡ get_or stays n no_stay
    → IsLonger best stay next
    → more ≡ found ++ next ∷ [] → IsLongest h ps found best n → IsLongest h ps more next (n + 1)
longest_more h ps stays found more best stay next n v b inside at longer e l =
    let size = l.sized in
    let Q : Stay → Type 0 = λ w. IsStay h n w in
    let here = longer_real h n best stay next longer (l.best_real n (omega arith) inside)
    (subst Q (sym at) (b.real n inside)) in
    let left = longer_left best stay next longer in
    let right = longer_right best stay next longer in
    let covers : (p : ℕ) → p < length h → (get_or ps p no_presence).start < n + 1
    → (get_or ps p no_presence).gone ≤ next.gone =
    λ p lt from. elim (cases_lt (get_or ps p no_presence).start n) [
      | inl below ↦ (let le = l.best_longest p lt below in omega (arith, le, left))
      | inr ge ↦ (let same : (get_or ps p no_presence).start
          ≡ n = omega (arith, ge, from) in let le = b.longest p n lt inside same in let a = ap (λ w. w.gone) at in
          omega (arith, le, right, a))
    ] in
    let before : (c : ℕ) → c < n → get_or more c no_stay ≡ get_or found c no_stay =
    λ c lt. ap (λ (l : List Stay). get_or l c no_stay) e
    ∙ get_or_append_left found (next ∷ []) no_stay c (let i : c < length found = omega (arith, size, lt) in i) in
    let last : get_or more n no_stay ≡ next =
    ap (λ (l : List Stay). get_or l n no_stay) e
    ∙ (ap (λ w. get_or (found ++ next ∷ []) w no_stay) (sym size) ∙ get_or-append_seam found next [] no_stay) in
    let length_more = ap length e in
    let K : Stay → Type 0 = λ w. 0 < w.gone → IsHeld h ps n w in
    let new_held : K next = longer_held h ps n best stay next longer
    (λ up. let o = l.best_held up in let lt = o.1 in held_later h ps o.0 n best (omega (arith, lt)) o.2)
    (subst K (sym at) (b.held n inside)) in
    record {
      sized = omega (arith, length_more, length-append found (next ∷ []), size);
      best_real = λ c le lt. stay_later h n c next v (omega (arith, le)) lt here;
      best_longest = covers;
      real = λ c lt. elim (cases_lt c n) [
        | inl below ↦ (let P : Stay → Type 0 = λ w. IsStay h c w in subst P (sym (before c below)) (l.real c below))
        | inr ge ↦ (let same : c ≡ n = omega (arith, ge, lt) in let R : ℕ
            → Type 0 = λ w. IsStay h w (get_or more w no_stay) in subst R (sym same) (subst Q (sym last) here))
      ];
      longest = λ c p lt in_p from. elim (cases_lt c n) [
        | inl below ↦
            (let le = l.longest c p below in_p from in let a =
            ap (λ w. w.gone) (before c below) in omega (arith, le, a))
        | inr ge ↦ (
            let same : c ≡ n = omega (arith, ge, lt) in
            let le = covers p in_p (omega (arith, from, lt)) in
            let a = ap (λ w. (get_or more w no_stay).gone) same in
            let z = ap (λ w. w.gone) last in
            omega (arith, le, a, z)
            )
      ];
      best_held = λ up. (n, omega arith, new_held up);
      held = λ c lt. elim (cases_lt c n) [
        | inl below ↦
            (let P : Stay → Type 0 = λ w. 0 < w.gone → IsHeld h ps c w in subst P (sym (before c below))
            (l.held c below))
        | inr ge ↦ (
            let same : c ≡ n = omega (arith, ge, lt) in
            let P : Stay → Type 0 = λ w. 0 < w.gone → IsHeld h ps n w in
            let R : ℕ → Type 0 = λ w. 0 < (get_or more w no_stay).gone → IsHeld h ps w (get_or more w no_stay) in
            subst R (sym same) (subst P (sym last) new_held)
            )
      ];
    }

pub longest_all : (h : List Call) (ps : List Presence) (found : List Stay) (best : Stay) (n : ℕ)
    → ArePresences h (length h) ps
    → IsLongest h ps found best n → n ≡ length h → AreStays h found
longest_all h ps found best n are l e = record {
  sized = l.sized ∙ e;
  real = λ c lt. l.real c (omega (arith, e, lt));
  found = λ c p lt t.
      let in_p = put_inside h t.item p t.single.puts in
      let f = (are.1 p in_p).from c lt t in
      let le = l.longest c p (omega (arith, e, lt)) in_p f.0 in
      let ge = f.1 in
      omega (arith, le, ge);
}

pub longest_held : (h : List Call) (ps : List Presence) (found : List Stay) (best : Stay) (n : ℕ)
    → ArePresences h (length h) ps
    → IsLongest h ps found best n → n ≡ length h → AreLongest ps found
longest_held h ps found best n are l e =
    let size = are.0 in
    let all = l.sized in
    record {
      sized = omega (arith, size, all, e);
      longest = λ c p lt in_p from. l.longest c p (omega (arith, lt, size, e)) (omega (arith, in_p, size)) from;
      held = λ c lt some. let o = l.held c (omega (arith, lt, size, e)) some in let in_q = o.1 in
          (o.0, omega (arith, in_q, size), o.2, o.3);
    }
