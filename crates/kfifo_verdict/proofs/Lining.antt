-- The line of a plain history's items, and the turns of its calls, step by step.
use Rattle.std.proofs.Common.{ℕ, ◌≡◌, ◌≢◌, ◌+◌, ◌<◌, ◌≤◌, ◌⊎◌, Bool, true, false, not, Option, Some, None, is_some, ltb}
use Rattle.std.proofs.Common.{min, max, List, [], ◌∷◌, ◌++◌, length, get_or, set, refl, sym, ◌∙◌, ap, subst, inl, inr}
use Rattle.std.proofs.Common.{arith, length-append, get_or-set_other, get_or-set_same}
use Rattle.std.proofs.lemmas.Bool.{cases_lt, cases_eq, ltb-true, ltb-false, false≢true}
use Rattle.std.proofs.lemmas.List.{get_or_append_left, get_or_default}
use Rattle.std.proofs.lemmas.List.Elements.{All-append, All-cons, All-nil}
use Rattle.std.proofs.Math.ListN.{length-set}
use Rattle.std.proofs.Math.Seq.{get_or-append_seam}
use Rattle.std.specs.List.{All}
use Rattle.std.proofs.lemmas.List.Sorted.{All-permutation, Contains-permutation}
use Rattle.std.specs.List.Sorted.{IsPermutation, IsPartitionPoint, IsNonDecreasingBy}
use Rattle.kfifo_verdict.proofs.Types.{Call, End, Presence, Stay, Turn}
use Rattle.kfifo_model.specs.declared.effects.Effect.TheVariants.{Adds, Takes, FindsNone}
use Rattle.kfifo_model.specs.Histories.{call, does, HasEnd, IsFinished}
use Rattle.kfifo_model.specs.Validity.{IsHistory}
use Rattle.kfifo_verdict.specs.declared.finding.Covered.TheVariants.{Gap}
use Rattle.kfifo_verdict.specs.Evidence.{Puts, Gets, IsSingle}
use Rattle.kfifo_verdict.specs.Finding.{first_of, ArePresences, IsKnown, no_stay, AreLongest, IsCovered}
use Rattle.kfifo_verdict.specs.Judging.{IsPlain}
use Rattle.kfifo_verdict.specs.Plain.{presence, IsDue, place, IsPlace, ArePlaces, IsLine, no_turn, turn, IsIdleTurn}
use Rattle.kfifo_verdict.specs.Plain.{AreIdle, IsLatest, IsItemTurn, AreTurns, AreNumbered, IsPlainBelow}
use Rattle.kfifo_verdict.proofs.Refuting.{put_inside}
use Rattle.kfifo_verdict.proofs.Moments.{reached}
use Rattle.kfifo_verdict.proofs.Telling.{same_item}

-- ---- a list with one more at its end

pub pushed_before : {X : Type 0} (xs more : List X) (y d : X) (i : ℕ) → more ≡ xs ++ y ∷ [] → i < length xs
    → get_or more i d ≡ get_or xs i d
pushed_before xs more y d i e lt = ap (λ l. get_or l i d) e ∙ get_or_append_left xs (y ∷ []) d i lt

pub pushed_last : {X : Type 0} (xs more : List X) (y d : X) (i : ℕ) → more ≡ xs ++ y ∷ [] → i ≡ length xs
    → get_or more i d ≡ y
pushed_last xs more y d i e same = ap (λ l. get_or l i d) e
    ∙ (ap (λ w. get_or (xs ++ y ∷ []) w d) same ∙ get_or-append_seam xs y [] d)

pub pushed_each : {X : Type 0} (P : ℕ → X → Type 0) (d : X) (xs more : List X) (y : X) (n : ℕ) → length xs ≡ n
    → more ≡ xs ++ y ∷ []
    → ((i : ℕ) → i < n → P i (get_or xs i d)) → P n y → (i : ℕ) → i < n + 1 → P i (get_or more i d)
pushed_each P d xs more y n size e each last i lt =
    elim (cases_lt i n) [
      | inl below ↦ subst (P i) (sym (pushed_before xs more y d i e (omega (arith, below, size)))) (each i below)
      | inr ge ↦ (
          let same : i ≡ n = omega (arith, ge, lt) in
          let Q : ℕ → Type 0 = λ w. P w y in
          subst (P i) (sym (pushed_last xs more y d i e (omega (arith, same, size)))) (subst Q (sym same) last)
          )
    ]

pub pushed_size : {X : Type 0} (xs more : List X) (y : X) (n : ℕ) → length xs ≡ n → more ≡ xs ++ y ∷ []
    → length more ≡ n + 1
pushed_size xs more y n size e = let long = ap length e in omega (arith, long, length-append xs (y ∷ []), size)

-- ---- by when an item has to be in

pub stays_rise : (ps : List Presence) (stays : List Stay) → AreLongest ps stays → IsNonDecreasingBy (λ s. s.gone) stays
stays_rise ps stays a i j d le lt =
    let size = a.sized in
    let here_i = ap (λ (s : Stay). s.gone) (get_or_default stays i d no_stay (omega (arith, le, lt))) in
    let here_j = ap (λ (s : Stay). s.gone) (get_or_default stays j d no_stay lt) in
    elim (cases_lt 0 (get_or stays i no_stay).gone) [
      | inl some ↦ (
          let o = a.held i (omega (arith, le, lt, size)) some in
          let from = o.2 in
          let e = o.3 in
          let up = a.longest j o.0 (omega (arith, lt, size)) o.1 (omega (arith, from, le)) in
          omega (arith, here_i, here_j, e, up)
          )
      | inr none ↦ omega (arith, here_i, none)
    ]

pub due_found : (ps : List Presence) (stays : List Stay) (p late next due : ℕ) → AreLongest ps stays → 0 < late
    → (presence ps p).start ≤ length ps → next ≤ length stays
    → IsPartitionPoint (λ s. ltb s.gone late ≡ true) (λ s. ltb s.gone late ≡ false) stays next
    → due ≡ min (min (presence ps p).start late) next → IsDue ps p late due
due_found ps stays p late next due a positive bound le point e =
    let size = a.sized in
    let start = (presence ps p).start in
    record {
      put = omega (arith, e);
      got = omega (arith, e);
      next = λ q lt kept. elim (cases_lt (presence ps q).start next) [
        | inl early ↦ (
            let in_q : (presence ps q).start < length stays = omega (arith, early, le) in
            let below = ltb-true (get_or stays (presence ps q).start no_stay).gone late
            (point.0 (presence ps q).start no_stay (omega arith) early) in
            let up = a.longest (presence ps q).start q (omega (arith, in_q, size)) lt (omega arith) in
            absurd (omega (arith, below, up, kept))
            )
        | inr ge ↦ omega (arith, e, ge)
      ];
      attained = elim (cases_lt next start) [
        | inl first ↦ elim (cases_lt next late) [
          | inl second ↦ (
              let inside : next < length stays = omega (arith, first, bound, size) in
              let ge = ltb-false (get_or stays next no_stay).gone late (point.1 next no_stay (omega arith) inside) in
              let o = a.held next (omega (arith, inside, size)) (omega (arith, positive, ge)) in
              let from = o.2 in
              let same = o.3 in
              inr (inr (o.0, o.1, omega (arith, same, ge), omega (arith, from, e, first, second)))
              )
          | inr ge ↦ inr (inl (omega (arith, e, ge, first)))
        ]
        | inr ge ↦ elim (cases_lt start late) [
          | inl lt ↦ inl (omega (arith, e, ge, lt))
          | inr up ↦ inr (inl (omega (arith, e, ge, up)))
        ]
      ];
    }

-- ---- the places of items

pub no_places : (h : List Call) (ps : List Presence) (places : List (ℕ × ℕ × ℕ)) → places ≡ [] → ArePlaces h ps 0 places
no_places h ps places e =
    let P : List (ℕ × ℕ × ℕ) → Type 0 = λ w. All (IsPlace h ps) w in
    record { real = subst P (sym e) (All-nil (IsPlace h ps)); each = λ x p lt a. absurd (omega (arith, lt)) }

pub places_skip : (h : List Call) (ps : List Presence) (n : ℕ) (places : List (ℕ × ℕ × ℕ)) → ((x : ℕ) → Puts h x n → ⊥)
    → ArePlaces h ps n places → ArePlaces h ps (n + 1) places
places_skip h ps n places none was = record {
  real = was.real;
  each = λ x p lt a. elim (cases_lt p n) [
    | inl below ↦ was.each x p below a
    | inr ge ↦ (let same : p ≡ n = omega (arith, ge, lt) in let P : ℕ → Type 0 =
        λ w. Puts h x w in absurd (none x (subst P same a)))
  ];
}

pub places_more : (h : List Call) (ps : List Presence) (n : ℕ) (places more : List (ℕ × ℕ × ℕ)) (e : ℕ × ℕ × ℕ)
    → IsPlace h ps e → e.2 ≡ n
    → more ≡ places ++ e ∷ [] → ArePlaces h ps n places → ArePlaces h ps (n + 1) more
places_more h ps n places more e is last pushed was =
    let P : List (ℕ × ℕ × ℕ) → Type 0 = λ w. All (IsPlace h ps) w in
    let long = pushed_size places more e (length places) refl pushed in
    record {
      real = subst P (sym pushed) (All-append (IsPlace h ps) places (e ∷ []) was.real
          (All-cons (IsPlace h ps) e [] is (All-nil (IsPlace h ps))));
      each = λ x p lt a. elim (cases_lt p n) [
        | inl below ↦ (
            let o = was.each x p below a in
            let at = o.1 in
            let inside = at.1 in
            (o.0, (at.0, omega (arith, inside, long), pushed_before places more e o.0 at.0 pushed inside ∙ at.2), o.2)
            )
        | inr ge ↦ (let same : p ≡ n = omega (arith, ge, lt) in (
          e,
          (length places, omega (arith, long), pushed_last places more e e (length places) pushed refl),
          last
              ∙ sym same,
        ))
      ];
    }

-- ---- turns

pub idle_more : (h : List Call) (ps : List Presence) (rank n : ℕ) (ts more : List Turn) (t : Turn)
    → IsIdleTurn h ps rank n t
    → more ≡ ts ++ t ∷ [] → AreIdle h ps rank n ts → AreIdle h ps rank (n + 1) more
idle_more h ps rank n ts more t is e was = record {
  sized = pushed_size ts more t n was.sized e;
  turns = pushed_each (λ c w. IsIdleTurn h ps rank c w) no_turn ts more t n was.sized e was.turns is;
}

pub numbered_more : (ts : List Turn) (n : ℕ) (numbered more : List (ℕ × ℕ × ℕ)) (e : ℕ × ℕ × ℕ)
    → e ≡ ((turn ts n).moment, (turn ts n).rank, n) → more ≡ numbered ++ e ∷ [] → AreNumbered ts n numbered
    → AreNumbered ts (n + 1) more
numbered_more ts n numbered more e is pushed was = record {
  sized = pushed_size numbered more e n was.sized pushed;
  at = pushed_each (λ c w. w ≡ ((turn ts c).moment, (turn ts c).rank, c)) (0, 0, 0) numbered more e n was.sized pushed
      was.at is;
}

-- the moment at which all before place n of the line are out
pub record IsSoFar (ps : List Presence) (line : List (ℕ × ℕ × ℕ)) (n latest : ℕ) : Type 0 where
  pub covers : (j : ℕ) → j < n → ((place line j).0 ≤ latest) × ((presence ps (place line j).2).gone ≤ latest)
  pub attained : (latest ≡ 0)
      ⊎ ((j : ℕ) × (j < n) × ((latest ≡ (place line j).0) ⊎ (latest ≡ (presence ps (place line j).2).gone)))

pub latest_more : (ps : List Presence) (line : List (ℕ × ℕ × ℕ)) (n latest last : ℕ)
    → last ≡ max (max latest (place line n).0) (presence ps (place line n).2).gone → IsSoFar ps line n latest
    → IsLatest ps line n last
latest_more ps line n latest last e was =
    let due = (place line n).0 in
    let gone = (presence ps (place line n).2).gone in
    record {
      covers = λ j le. elim (cases_lt j n) [
        | inl below ↦ (let o = was.covers j below in let a = o.0 in let b =
            o.1 in (omega (arith, a, e), omega (arith, b, e)))
        | inr ge ↦ (
            let same : j ≡ n = omega (arith, ge, le) in
            let a = ap (λ w. (place line w).0) same in
            let b = ap (λ w. (presence ps (place line w).2).gone) same in
            (omega (arith, a, e), omega (arith, b, e))
            )
      ];
      attained = elim (cases_eq last gone) [
        | inl is ↦ (n, omega arith, inr is)
        | inr other ↦ elim (cases_eq last due) [
          | inl is ↦ (n, omega arith, inl is)
          | inr third ↦ (
              let same : last ≡ latest = omega (arith, e, other, third) in
              elim was.attained [
                | inl zero_ ↦ absurd (omega (arith, e, zero_, third, same))
                | inr o ↦ (let lt = o.1 in (
                  o.0,
                  omega (arith, lt),
                  elim o.2 [
                    | inl is ↦ inl (same ∙ is)
                    | inr is ↦ inr (same ∙ is)
                  ],
                ))
              ]
              )
        ]
      ];
    }

pub so_far : (ps : List Presence) (line : List (ℕ × ℕ × ℕ)) (n last : ℕ) → IsLatest ps line n last
    → IsSoFar ps line (n + 1) last
so_far ps line n last l = record {
  covers = λ j lt. l.covers j (omega (arith, lt));
  attained = inr (let o = l.attained in let le = o.1 in (o.0, omega (arith, le), o.2));
}

known_put : (h : List Call) (ps : List Presence) (x p : ℕ) → IsPlain h → ArePresences h (length h) ps → Puts h x p
    → IsKnown h x p (presence ps p)
known_put h ps x p plain are a = (are.1 p (put_inside h x p a)).known x (plain.0 x p a)

gone_got : (h : List Call) (ps : List Presence) (x p : ℕ) → IsPlain h → ArePresences h (length h) ps → Puts h x p
    → (presence ps p).gone < length h → Gets h x (presence ps p).gone
gone_got h ps x p plain are a inside =
    elim (known_put h ps x p plain are a).gone [
      | inl never ↦ (let e = never.0 in absurd (omega (arith, e, inside)))
      | inr got ↦ got
    ]

put_no_get : (h : List Call) (x y c d : ℕ) → Puts h x c → Gets h y d → c ≢ d
put_no_get h x y c d a b e =
    let P : ℕ → Type 0 = λ w. Gets h y w in
    let here = subst P (sym e) b in
    let f : Adds x ≡ Takes y = sym a ∙ here in
    cc

-- the turns after those of one more item
abbrev pub IsSet : List Turn → List Turn → ℕ → ℕ → Turn → Turn → ℕ → Type 0
IsSet ts more p g put got n = (mid : List Turn) × (mid ≡ set ts p put)
    × (((g < n) × (more ≡ set mid g got)) ⊎ ((n ≤ g) × (more ≡ mid)))

set_size : (ts more : List Turn) (p g : ℕ) (put got : Turn) (n : ℕ) → IsSet ts more p g put got n
    → length more ≡ length ts
set_size ts more p g put got n s =
    let size = ap length s.1 ∙ length-set ts p put in
    elim s.2 [ inl a ↦ ap length a.1 ∙ (length-set s.0 g got ∙ size) | inr a ↦ ap length a.1 ∙ size ]

set_elsewhere : (ts more : List Turn) (p g : ℕ) (put got : Turn) (n c : ℕ) → IsSet ts more p g put got n → c ≢ p
    → (g < n → c ≢ g)
    → turn more c ≡ turn ts c
set_elsewhere ts more p g put got n c s ne other =
    let first : turn s.0 c ≡ turn ts c = ap (λ (l : List Turn). turn l c) s.1 ∙ rw get_or-set_other refl in
    elim s.2 [
      | inl a ↦ (let ne_g = other a.0 in let second : turn more c ≡ turn s.0 c = ap (λ (l : List Turn). turn l c) a.1
          ∙ rw get_or-set_other refl in second ∙ first)
      | inr a ↦ ap (λ (l : List Turn). turn l c) a.1 ∙ first
    ]

set_put : (ts more : List Turn) (p g : ℕ) (put got : Turn) (n : ℕ) → IsSet ts more p g put got n → p < length ts
    → (g < n → p ≢ g)
    → turn more p ≡ put
set_put ts more p g put got n s inside other =
    let first : turn s.0 p ≡ put = ap (λ (l : List Turn). turn l p) s.1 ∙ rw get_or-set_same refl in
    elim s.2 [
      | inl a ↦ (let ne_g = other a.0 in let second : turn more p ≡ turn s.0 p = ap (λ (l : List Turn). turn l p) a.1
          ∙ rw get_or-set_other refl in second ∙ first)
      | inr a ↦ ap (λ (l : List Turn). turn l p) a.1 ∙ first
    ]

set_got : (ts more : List Turn) (p g : ℕ) (put got : Turn) (n : ℕ) → IsSet ts more p g put got n → n ≡ length ts → g < n
    → turn more g ≡ got
set_got ts more p g put got n s all lt =
    let size = ap length s.1 ∙ length-set ts p put in
    elim s.2 [
      | inl a ↦ (let inside : g < length s.0 = omega (arith, size, all, lt) in ap (λ (l : List Turn). turn l g) a.1
          ∙ rw get_or-set_same refl)
      | inr a ↦ (let le = a.0 in absurd (omega (arith, le, lt)))
    ]

pub turns_more : (h : List Call) (ps : List Presence) (line : List (ℕ × ℕ × ℕ)) (n last : ℕ) (ts more : List Turn)
    → IsPlain h
    → ArePresences h (length h) ps → IsLine h ps line → n < length line → IsLatest ps line n last
    → IsSet ts more (place line n).2 (presence ps (place line n).2).gone (record {
      moment = (place line n).0;
      rank = n;
    })
    (record { moment = last; rank = length line + n }) (length h)
    → AreTurns h ps line n ts → AreTurns h ps line (n + 1) more
turns_more h ps line n last ts more plain are l inside latest s was =
    let p = (place line n).2 in
    let g = (presence ps p).gone in
    let put : Turn = record { moment = (place line n).0; rank = n } in
    let got : Turn = record { moment = last; rank = length line + n } in
    let here = l.places.real n (0, 0, 0) inside in
    let x = here.item in
    let size = was.sized in
    let in_p = put_inside h x p here.puts in
    let elsewhere = λ (c : ℕ) (a : c ≢ p) (b : g < length h → c ≢ g). set_elsewhere ts more p g put got (length h) c s
    a b in
    let is_got = λ (lt : g < length h). gone_got h ps x p plain are here.puts lt in
    record {
      sized = set_size ts more p g put got (length h) s ∙ size;
      items = λ j lt. elim (cases_eq (place line j).2 p) [
        | inl e ↦ (
            let P : ℕ → Type 0 = λ w. IsItemTurn h ps line more w n in (
              n,
              omega arith,
              subst P (sym e) (record {
                inside = inside;
                is = refl;
                put = set_put ts more p g put got (length h) s (omega (arith, in_p, size))
                    (λ in_g. put_no_get h x x p g here.puts (is_got in_g));
                get = λ in_g. (last, latest, set_got ts more p g put got (length h) s (sym size) in_g);
              }),
            )
            )
        | inr ne ↦ elim (cases_lt j n) [
          | inl below ↦ (
              let o = was.items j below in
              let q = (place line j).2 in
              let u = o.2 in
              let lt_i = o.1 in
              let there = l.places.real j (0, 0, 0) (omega (arith, below, inside)) in (
                o.0,
                omega (arith, lt_i),
                record {
                  inside = u.inside;
                  is = u.is;
                  put = elsewhere q ne (λ in_g. put_no_get h there.item x q g there.puts (is_got in_g)) ∙ u.put;
                  get = λ in_q.
                      let w = u.get in_q in
                      let got_q = gone_got h ps there.item q plain are there.puts in_q in (
                        w.0,
                        w.1,
                        elsewhere (presence ps q).gone (λ e. put_no_get h x there.item p (presence ps q).gone here.puts
                            got_q (sym e)) (λ in_g e.
                            let G : ℕ → Type 0 = λ v. Gets h there.item v in
                            let one = same_item h there.item x g (subst G e got_q) (is_got in_g) in
                            let U : ℕ → Type 0 = λ v. Puts h v q in
                            ne ((plain.0 x p here.puts).alone q (subst U one there.puts))) ∙ w.2,
                      );
                },
              )
              )
          | inr ge ↦ (let same : j ≡ n = omega (arith, ge, lt) in absurd (ne (ap (λ w. (place line w).2) same)))
        ]
      ];
      idle = λ c lt no_put no_get.
          let P : Turn → Type 0 = λ w. IsIdleTurn h ps (length line + length line) c w in
          let U : ℕ → Type 0 = λ v. Puts h x v in
          let G : ℕ → Type 0 = λ v. Gets h x v in
          subst P (sym (elsewhere c (λ e. no_put x (subst U (sym e) here.puts))
          (λ in_g e. no_get x (subst G (sym e) (is_got in_g)))))
          (was.idle c lt no_put no_get);
    }

pub no_items : (h : List Call) (ps : List Presence) (line : List (ℕ × ℕ × ℕ)) (ts : List Turn)
    → AreIdle h ps (length line + length line) (length h) ts → AreTurns h ps line 0 ts
no_items h ps line ts idle = record {
  sized = idle.sized;
  items = λ j lt. absurd (omega (arith, lt));
  idle = λ c lt no_put no_get. idle.turns c lt;
}

-- ---- what the code has at hand

pub start_within : (h : List Call) (ps : List Presence) (x p : ℕ) → IsPlain h → ArePresences h (length h) ps
    → Puts h x p
    → (presence ps p).start ≤ length ps
start_within h ps x p plain are a =
    let bound = (known_put h ps x p plain are a).start.bound in
    let size = are.0 in
    omega (arith, bound, size)

pub places_moved : (h : List Call) (ps : List Presence) (n : ℕ) (places line : List (ℕ × ℕ × ℕ))
    → IsPermutation places line
    → ArePlaces h ps n places → ArePlaces h ps n line
places_moved h ps n places line moved was = record {
  real = All-permutation (IsPlace h ps) places line moved was.real;
  each = λ x p lt a. let o = was.each x p lt a in (o.0, Contains-permutation places line o.0 moved o.1, o.2);
}

-- a call that is no Empty may stand where it begins
pub idle_at_start : (h : List Call) (ps : List Presence) (rank n : ℕ) → IsHistory h → n < length h
    → (does h n ≡ FindsNone → ⊥)
    → IsIdleTurn h ps rank n (record { moment = n; rank = rank })
idle_at_start h ps rank n v inside none = record {
  ranked = refl;
  inside = (
    omega arith,
    inside,
    λ ended. let lt = reached (call h n).end (first_of h n) (first_of h n) (v n inside).ends ended in
        omega (arith, lt),
  );
  gap = λ e. absurd (none e);
}

-- an Empty may stand at a gap
pub idle_at_gap : (h : List Call) (ps : List Presence) (stays : List Stay) (rank n m : ℕ) → AreLongest ps stays
    → length ps ≡ length h
    → IsCovered h stays n (Gap m) → IsIdleTurn h ps rank n (record { moment = m; rank = rank })
idle_at_gap h ps stays rank n m a size c = record {
  ranked = refl;
  inside = (c.1, c.2, c.3);
  gap = λ e p lt from. let inside = c.2 in let up = a.longest m p (omega (arith, size, inside)) lt from in
      let le = c.4 in
      omega (arith, up, le);
}

pub plain_more : (h : List Call) (n : ℕ) → IsPlainBelow h n → IsFinished h n → ((x : ℕ) → Puts h x n → IsSingle h x n)
    → IsPlainBelow h (n + 1)
plain_more h n was ended single = record {
  ended = λ c lt. elim (cases_lt c n) [
    | inl below ↦ was.ended c below
    | inr ge ↦ (let same : c ≡ n = omega (arith, ge, lt) in let P : ℕ → Type 0 =
        λ w. IsFinished h w in subst P (sym same) ended)
  ];
  single = λ x p lt a. elim (cases_lt p n) [
    | inl below ↦ was.single x p below a
    | inr ge ↦ (let same : p ≡ n = omega (arith, ge, lt) in let P : ℕ → Type 0 = λ w. Puts h x w
        → IsSingle h x w in subst P (sym same) (single x) a)
  ];
}

pub plain_all : (h : List Call) (n : ℕ) → length h ≤ n → IsPlainBelow h n → IsPlain h
plain_all h n all was = (
  λ x p a. let lt = put_inside h x p a in was.single x p (omega (arith, lt, all)) a,
  λ c lt. was.ended c (omega (arith, lt, all)),
)

pub has_end : (o : Option End) (b : Bool) → is_some o ≡ not b → b ≡ false → HasEnd o
has_end (Some end) b e f = tt
has_end None b e f = absurd (false≢true (e ∙ ap not f))

pub idle_all : (h : List Call) (ps : List Presence) (rank n m : ℕ) (ts : List Turn) → n ≡ m → AreIdle h ps rank n ts
    → AreIdle h ps rank m ts
idle_all h ps rank n m ts e was = let P : ℕ → Type 0 = λ w. AreIdle h ps rank w ts in subst P e was

pub numbered_all : (ts : List Turn) (n m : ℕ) (numbered : List (ℕ × ℕ × ℕ)) → n ≡ m → AreNumbered ts n numbered
    → AreNumbered ts m numbered
numbered_all ts n m numbered e was = let P : ℕ → Type 0 = λ w. AreNumbered ts w numbered in subst P e was

pub turns_all : (h : List Call) (ps : List Presence) (line : List (ℕ × ℕ × ℕ)) (n m : ℕ) (ts : List Turn) → n ≡ m
    → AreTurns h ps line n ts
    → AreTurns h ps line m ts
turns_all h ps line n m ts e was = let P : ℕ → Type 0 = λ w. AreTurns h ps line w ts in subst P e was
