-- What the calls of a plain history without evidence do, and when its items are there.
use Rattle.std.proofs.Common.{ℕ, zero, suc, ◌≡◌, ◌≢◌, ◌<◌, ◌≤◌, ◌⊎◌, true, List, [], ◌∷◌, length, refl, sym, ◌∙◌, subst}
use Rattle.std.proofs.Common.{inl, inr, arith, Option, Some, None}
use Rattle.std.proofs.lemmas.Bool.{cases_lt, cases_Bool, false≢true}
use Rattle.kfifo_verdict.proofs.Types.{Call, Effect, End, Presence, Turn}
use Rattle.kfifo_model.specs.declared.calls.Op.{Op}
use Rattle.kfifo_model.specs.Overtaking.{adds}
use Rattle.kfifo_model.specs.declared.effects.Effect.TheVariants.{Adds, Takes, FindsNone, Refused, Wrong}
use Rattle.kfifo_model.specs.Histories.{call, does, effect_at, HasEnd, Precedes}
use Rattle.kfifo_model.specs.Validity.{IsHistory, Answers}
use Rattle.kfifo_verdict.specs.Evidence.{Puts, Gets}
use Rattle.kfifo_verdict.specs.Finding.{first_of, IsStart, ArePresences, IsKnown}
use Rattle.kfifo_verdict.specs.Judging.{HasNoEvidence, IsPlain}
use Rattle.kfifo_verdict.specs.Plain.{presence, IsLate, IsPlace, turn, IsGap}
use Rattle.kfifo_verdict.specs.Plain.{IsBefore}
use Rattle.kfifo_verdict.proofs.Refuting.{put_inside, adds_is}
use Rattle.kfifo_verdict.proofs.Telling.{got_inside, puts_pass}
use Rattle.kfifo_verdict.proofs.Moments.{reached}
use Rattle.kfifo_verdict.proofs.Queueing.{Lex}

-- a plain history without evidence, and when its items are there
pub record IsScene (h : List Call) (ps : List Presence) : Type 0 where
  pub history : IsHistory h
  pub plain : IsPlain h
  pub are : ArePresences h (length h) ps
  pub clear : HasNoEvidence 1 h

pub known : (h : List Call) (ps : List Presence) (x p : ℕ) → IsScene h ps → Puts h x p → IsKnown h x p (presence ps p)
known h ps x p s a = (s.are.1 p (put_inside h x p a)).known x (s.plain.0 x p a)

-- a call ends after it began
start_past : (h : List Call) (c start : ℕ) → IsHistory h → c < length h → IsStart h (call h c).end start → c < start
start_past h c start v inside is =
    elim (cases_lt c start) [
      | inl lt ↦ lt
      | inr le ↦ (
          let lt = reached (call h c).end (first_of h c) (first_of h c) (v c inside).ends ((is.starts c inside).1 le) in
          absurd (omega (arith, lt))
          )
    ]

gone_bound : (h : List Call) (ps : List Presence) (x p : ℕ) → IsScene h ps → Puts h x p
    → (presence ps p).gone ≤ length h
gone_bound h ps x p s a =
    elim (known h ps x p s a).gone [
      | inl never ↦ (let e = never.0 in omega (arith, e))
      | inr got ↦ (let lt = got_inside h x (presence ps p).gone got in omega (arith, lt))
    ]

gone_late : (h : List Call) (ps : List Presence) (gone late : ℕ) → IsScene h ps → gone ≤ length h → IsLate h gone late
    → gone < late
gone_late h ps gone late s bound l =
    elim (cases_lt gone (length h)) [
      | inl inside ↦ start_past h gone late s.history inside (l.got inside)
      | inr past ↦ (let e = l.never past in omega (arith, e, bound))
    ]

-- no item is got by a call that precedes its put
put_late : (h : List Call) (ps : List Presence) (x p late : ℕ) → IsScene h ps → Puts h x p
    → IsLate h (presence ps p).gone late → p < late
put_late h ps x p late s a l =
    let inside = put_inside h x p a in
    elim (known h ps x p s a).gone [
      | inl never ↦ (let e = never.0 in let f = l.never (omega (arith, e)) in omega (arith, f, inside))
      | inr got ↦ elim (cases_lt p late) [
        | inl lt ↦ lt
        | inr le ↦ (
            let g = (presence ps p).gone in
            let before = ((l.got (got_inside h x g got)).starts p inside).1 le in
            let P : ℕ → Type 0 = λ w. Precedes h g w in
            absurd (s.clear.0 g (x, got, λ q b. subst P (sym ((s.plain.0 x p a).alone q b)) before))
            )
      ]
    ]

-- no item that is older and there is passed over
not_younger : (h : List Call) (ps : List Presence) (x p late y q : ℕ) → IsScene h ps → Puts h x p
    → IsLate h (presence ps p).gone late
    → Puts h y q → (presence ps q).start ≤ p → late ≤ (presence ps q).gone → ⊥
not_younger h ps x p late y q s a l b older kept =
    let inside = put_inside h x p a in
    let bound = gone_bound h ps y q s b in
    elim (known h ps x p s a).gone [
      | inl never ↦ (let e = never.0 in let f = l.never (omega (arith, e)) in omega (arith, f, bound, kept))
      | inr got ↦ (
          let g = (presence ps p).gone in
          let start = l.got (got_inside h x g got) in
          let is = ((s.are.1 q (put_inside h y q b)).older g p late inside start).1 (older, kept) in
          s.clear.3 g (
            q ∷ [],
            record {
              item = x;
              put = p;
              gets = got;
              single = s.plain.0 x p a;
              older = (is, tt);
              rising = (tt, tt);
              count = refl;
            },
          )
          )
    ]

pub put_due : (h : List Call) (ps : List Presence) (e : ℕ × ℕ × ℕ) → IsScene h ps → IsPlace h ps e → e.2 < e.0
put_due h ps e s p =
    let inside = put_inside h p.item e.2 p.puts in
    elim p.due.attained [
      | inl put ↦ (let lt = start_past h e.2 (presence ps e.2).start s.history inside
          (known h ps p.item e.2 s p.puts).start in
          omega (arith, put, lt))
      | inr more ↦ elim more [
        | inl got ↦ (let lt = put_late h ps p.item e.2 e.1 s p.puts p.late in omega (arith, got, lt))
        | inr next ↦ (
            let q = next.0 in
            let kept = next.2 in
            let start = next.3 in
            elim (cases_lt e.2 e.0) [
              | inl lt ↦ lt
              | inr le ↦ (
                  let late = put_late h ps p.item e.2 e.1 s p.puts p.late in
                  let real = (s.are.1 q (let lt = next.1 in let size = s.are.0 in omega (arith, lt, size))).real
                  (omega (arith, late, kept)) in
                  absurd (not_younger h ps p.item e.2 e.1 real.0 q s p.puts p.late real.1 (omega (arith, start, le))
                  kept)
                  )
            ]
            )
      ]
    ]

-- an item that is got before another one's get begins does not stand behind it in the line
pub in_turn : (h : List Call) (ps : List Presence) (a b : ℕ × ℕ × ℕ) → IsScene h ps → IsPlace h ps a → IsPlace h ps b
    → a.1 ≤ (presence ps b.2).gone → Lex b a → ⊥
in_turn h ps a b s p q before lex =
    let size = s.are.0 in
    let inside_b = put_inside h q.item b.2 q.puts in
    let after = gone_late h ps (presence ps b.2).gone b.1 s (gone_bound h ps q.item b.2 s q.puts) q.late in
    let got = p.due.got in
    let le : a.0 ≤ b.0 = elim q.due.attained [
      | inl put ↦ (let n = p.due.next b.2 (omega (arith, inside_b, size)) before in omega (arith, n, put))
      | inr more ↦ elim more [
        | inl late ↦ omega (arith, got, before, after, late)
        | inr next ↦ (
            let kept = next.2 in
            let start = next.3 in
            let n = p.due.next next.0 next.1 (omega (arith, before, after, kept)) in
            omega (arith, n, start)
            )
      ]
    ] in
    elim lex [
      | inl lt ↦ omega (arith, lt, le)
      | inr same ↦ elim same.1 [
        | inl lt ↦ omega (arith, lt, before, after)
        | inr tie ↦ (let e = tie.0 in omega (arith, e, before, after))
      ]
    ]

-- an item that has gone in where none is certainly there is got
pub gone_in_gap : (h : List Call) (ps : List Presence) (e : ℕ × ℕ × ℕ) (m : ℕ) → IsScene h ps → IsPlace h ps e
    → IsGap ps m → e.0 ≤ m
    → (presence ps e.2).gone ≤ m
gone_in_gap h ps e m s p gap le =
    let size = s.are.0 in
    let inside = put_inside h p.item e.2 p.puts in
    let after = gone_late h ps (presence ps e.2).gone e.1 s (gone_bound h ps p.item e.2 s p.puts) p.late in
    elim p.due.attained [
      | inl put ↦ gap e.2 (omega (arith, inside, size)) (omega (arith, put, le))
      | inr more ↦ elim more [
        | inl late ↦ omega (arith, late, after, le)
        | inr next ↦ (
            let kept = next.2 in
            let start = next.3 in
            let g = gap next.0 next.1 (omega (arith, start, le)) in
            omega (arith, g, kept, after)
            )
      ]
    ]

-- ---- the calls of an item

-- a put of an item, if there is one among the calls below n
find_put : (h : List Call) (x n : ℕ) → ((p : ℕ) × Puts h x p) ⊎ ((p : ℕ) → p < n → Puts h x p → ⊥)
find_put h x zero = inr (λ p lt a. absurd (omega arith))
find_put h x (suc n) =
    elim (find_put h x n) [
      | inl found ↦ inl found
      | inr none ↦ elim (cases_Bool (adds x (does h n))) [
        | inl is ↦ inl (n, adds_is x (does h n) is)
        | inr not ↦ inr (λ p lt a. elim (cases_lt p n) [
          | inl below ↦ none p below a
          | inr le ↦ (
              let same : p ≡ n = omega arith in
              let P : ℕ → Type 0 = λ w. adds x (does h w) ≡ true in
              false≢true (sym not ∙ subst P same (puts_pass h x p a))
              )
        ])
      ]
    ]

pub source : (h : List Call) (ps : List Presence) (x g : ℕ) → IsScene h ps → Gets h x g → (p : ℕ) × Puts h x p
source h ps x g s b =
    elim (find_put h x (length h)) [
      | inl found ↦ found
      | inr none ↦ absurd (s.clear.0 g (x, b, λ p a. absurd (none p (put_inside h x p a) a)))
    ]

pub got_by : (h : List Call) (ps : List Presence) (x p g : ℕ) → IsScene h ps → Puts h x p → Gets h x g
    → (presence ps p).gone ≡ g
got_by h ps x p g s a b =
    let k = known h ps x p s a in
    elim k.gone [
      | inl never ↦ absurd (never.1 g b)
      | inr got ↦ k.single.once (presence ps p).gone g got b
    ]

pub got_where : (h : List Call) (ps : List Presence) (x p : ℕ) → IsScene h ps → Puts h x p
    → (presence ps p).gone < length h
    → Gets h x (presence ps p).gone
got_where h ps x p s a inside =
    elim (known h ps x p s a).gone [
      | inl never ↦ (let e = never.0 in absurd (omega (arith, e, inside)))
      | inr got ↦ got
    ]

-- what a call does
abbrev pub IsIdle : List Call → ℕ → Type 0
IsIdle h c = ((x : ℕ) → Puts h x c → ⊥) × ((x : ℕ) → Gets h x c → ⊥)

abbrev Role : List Call → ℕ → Type 0
Role h c = ((x : ℕ) × Puts h x c) ⊎ (((x : ℕ) × Gets h x c) ⊎ IsIdle h c)

role_by : (h : List Call) (c : ℕ) (e : Effect) → does h c ≡ e → Role h c
role_by h c (Adds x) q = inl (x, q)
role_by h c (Takes x) q = inr (inl (x, q))
role_by h c FindsNone q = inr (inr (
  λ x a. (let e : Adds x ≡ FindsNone = sym a ∙ q in cc),
  λ x a. (let e : Takes x ≡ FindsNone = sym a ∙ q in cc),
))
role_by h c Refused q = inr (inr (
  λ x a. (let e : Adds x ≡ Refused = sym a ∙ q in cc),
  λ x a. (let e : Takes x ≡ Refused = sym a ∙ q in cc),
))
role_by h c Wrong q =
    inr (inr (λ x a. (let e : Adds x ≡ Wrong = sym a ∙ q in cc), λ x a. (let e : Takes x ≡ Wrong = sym a ∙ q in cc)))

pub role : (h : List Call) (c : ℕ) → Role h c
role h c = role_by h c (does h c) refl

pub finds_none_idle : (h : List Call) (c : ℕ) → does h c ≡ FindsNone → IsIdle h c
finds_none_idle h c q =
    (λ x a. (let e : Adds x ≡ FindsNone = sym a ∙ q in cc), λ x a. (let e : Takes x ≡ FindsNone = sym a ∙ q in cc))

pub sound_of : (op : Op) (o : Option End) → HasEnd o → Answers op o → effect_at op o ≢ Wrong
sound_of op (Some end) e a = a
sound_of op None e a = absurd e

-- ---- before

pub before_from : (ts : List Turn) (c d : ℕ) → (turn ts c).moment ≤ (turn ts d).moment
    → (turn ts c).rank < (turn ts d).rank → IsBefore ts c d
before_from ts c d le lt = elim (cases_lt (turn ts c).moment (turn ts d).moment) [
  | inl sooner ↦ inl sooner
  | inr ge ↦ inr (omega (arith, le, ge), inl lt)
]

pub before_moment : (ts : List Turn) (c d : ℕ) → IsBefore ts c d → (turn ts c).moment ≤ (turn ts d).moment
before_moment ts c d (inl p) = omega (arith, p)
before_moment ts c d (inr p) = let e = p.0 in omega (arith, e)

pub before_apart : (ts : List Turn) (c d : ℕ) → IsBefore ts c d → IsBefore ts d c → ⊥
before_apart ts c d (inl p) (inl q) = omega (arith, p, q)
before_apart ts c d (inl p) (inr q) = let e = q.0 in omega (arith, p, e)
before_apart ts c d (inr p) (inl q) = let e = p.0 in omega (arith, e, q)
before_apart ts c d (inr p) (inr q) =
    elim p.1 [
      | inl a ↦ elim q.1 [ inl b ↦ omega (arith, a, b) | inr b ↦ (let e = b.0 in omega (arith, a, e)) ]
      | inr a ↦ (let f = a.0 in let lt = a.1 in elim q.1 [
        | inl b ↦ omega (arith, b, f)
        | inr b ↦ (let up = b.1 in omega (arith, lt, up))
      ])
    ]
