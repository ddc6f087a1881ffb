-- What tallies tell of items.
use Rattle.std.proofs.Common.{ℕ, ◌≡◌, ◌≢◌, ◌+◌, ◌<◌, ◌≤◌, Bool, true, false, cond, eqb, List, length, add-one, refl}
use Rattle.std.proofs.Common.{sym, ◌∙◌, ap, subst, inl, inr, arith}
use Rattle.std.proofs.lemmas.Bool.{cases_lt, cases_eq, eq-eqb, ne_eqb, false≢true, false_from_ne_true}
use Rattle.kfifo_verdict.proofs.Types.{Call, Tally}
use Rattle.kfifo_model.specs.declared.effects.Effect.TheVariants.{Takes}
use Rattle.kfifo_model.specs.Overtaking.{adds, takes}
use Rattle.kfifo_model.specs.Histories.{does}
use Rattle.kfifo_model.specs.declared.effects.Side.{Side}
use Rattle.kfifo_model.specs.declared.effects.Side.TheVariants.{In, Out}
use Rattle.kfifo_verdict.specs.Evidence.{Puts, Gets, count_below, puts_of, gets_of, IsSingle, IsTakenTwice}
use Rattle.kfifo_model.specs.Index.{side_effect}
use Rattle.kfifo_verdict.specs.Finding.{has_item, first_of, IsTally, IsTallied}
use Rattle.kfifo_verdict.proofs.Refuting.{put_inside, got_ended, ended_inside, takes_is, adds_is}

pub puts_pass : (h : List Call) (x c : ℕ) → Puts h x c → has_item In h x c ≡ true
puts_pass h x c e = ap (adds x) e ∙ eq-eqb x x refl

pub gets_pass : (h : List Call) (x c : ℕ) → Gets h x c → has_item Out h x c ≡ true
gets_pass h x c e = ap (takes x) e ∙ eq-eqb x x refl

pub got_inside : (h : List Call) (x g : ℕ) → Gets h x g → g < length h
got_inside h x g e = ended_inside h g (got_ended h x g e)

-- ---- a tally, call by call

below_last : (test : ℕ → Bool) (n c : ℕ) → test n ≡ false → c < n + 1 → test c ≡ true → c < n
below_last test n c fails lt t =
    elim (cases_lt c n) [
      | inl below ↦ below
      | inr le ↦
          (let same : c ≡ n = omega arith in absurd (false≢true (sym fails ∙ (ap test (sym same) ∙ t))))
    ]

count_skip : (test : ℕ → Bool) (n : ℕ) → test n ≡ false → count_below test (n + 1) ≡ count_below test n
count_skip test n fails =
    let none : ◌≡◌ {A = ℕ} (cond (test n) 1 0) 0 = ap (λ b. cond b 1 0) fails in
    ap (count_below test) (add-one n) ∙ omega (arith, none)

pub tally_skip : (test : ℕ → Bool) (first : ℕ → ℕ) (n : ℕ) (t : Tally) → IsTally test first n t → test n ≡ false
    → IsTally test first (n + 1) t
tally_skip test first n t was fails = record {
  few = (let f = was.few in omega (arith, f));
  count = was.count ∙ sym (count_skip test n fails);
  earliest = λ c lt p. was.earliest c (below_last test n c fails lt p) p;
  attained = was.attained;
  last = λ c lt p. was.last c (below_last test n c fails lt p) p;
  passes = λ lt. let q = was.passes lt in let l = q.0 in (omega (arith, l), q.1);
  only = λ e c lt p. was.only e c (below_last test n c fails lt p) p;
  more = was.more;
}

-- ---- what is put or got

pub side_passes : (side : Side) (h : List Call) (x c : ℕ) → does h c ≡ side_effect side x → (y : ℕ)
    → has_item side h y c ≡ eqb y x
side_passes In h x c e y = ap (adds y) e
side_passes Out h x c e y = ap (takes y) e

pub side_is : (side : Side) (h : List Call) (x c : ℕ) → has_item side h x c ≡ true → does h c ≡ side_effect side x
side_is In h x c t = adds_is x (does h c) t
side_is Out h x c t = takes_is x (does h c) t

pub tallied_skip : (h : List Call) (side : Side) (n : ℕ) (look : ℕ → Tally) → IsTallied h side n look
    → ((x : ℕ) → does h n ≡ side_effect side x → ⊥) → IsTallied h side (n + 1) look
tallied_skip h side n look was none x =
    tally_skip (has_item side h x) (first_of h) n (look x) (was x)
    (false_from_ne_true (has_item side h x n) (λ t. none x (side_is side h x n t)))

pub tallied_more : (h : List Call) (side : Side) (n x : ℕ) (look more : ℕ → Tally) → IsTallied h side n look
    → does h n ≡ side_effect side x
    → IsTally (has_item side h x) (first_of h) (n + 1) (more x) → ((q : ℕ) → q ≢ x → more q ≡ look q)
    → IsTallied h side (n + 1) more
tallied_more h side n x look more was is here other q =
    elim (cases_eq q x) [
      | inl e ↦ (let P : ℕ → Type 0 = λ w. IsTally (has_item side h w) (first_of h) (n + 1) (more w) in subst P (sym e)
          here)
      | inr ne ↦ (
          let P : Tally → Type 0 = λ w. IsTally (has_item side h q) (first_of h) (n + 1) w in
          subst P (sym (other q ne)) (tally_skip (has_item side h q) (first_of h) n (look q) (was q)
          (side_passes side h x n is q ∙ ne_eqb q x ne))
          )
    ]

pub side_here : (side : Side) (h : List Call) (x c : ℕ) → does h c ≡ side_effect side x → has_item side h x c ≡ true
side_here side h x c e = side_passes side h x c e x ∙ eq-eqb x x refl

-- ---- single items

pub single_from : (h : List Call) (x p : ℕ) (put got : Tally) → IsTally (has_item In h x) (first_of h) (length h) put
    → IsTally (has_item Out h x) (first_of h) (length h) got → Puts h x p → put.count ≡ 1 → got.count ≤ 1
    → IsSingle h x p
single_from h x p put got ps gs is one most = record {
  puts = is;
  alone = λ c e. ps.only one c (put_inside h x c e) (puts_pass h x c e)
      ∙ sym (ps.only one p (put_inside h x p is) (puts_pass h x p is));
  once = λ c d e f.
      let last = gs.last c (got_inside h x c e) (gets_pass h x c e) in
      let some = last.1 in
      let single : got.count ≡ 1 = omega (arith, some, most) in
      gs.only single c (got_inside h x c e) (gets_pass h x c e)
      ∙ sym (gs.only single d (got_inside h x d f) (gets_pass h x d f));
}

pub single_put_once : (h : List Call) (x p : ℕ) (put : Tally) → IsTally (has_item In h x) (first_of h) (length h) put
    → IsSingle h x p
    → put.count ≡ 1
single_put_once h x p put ps single =
    let some = (ps.last p (put_inside h x p single.puts) (puts_pass h x p single.puts)).1 in
    elim (cases_lt 1 put.count) [
      | inl more ↦ (
          let m = ps.more more in
          let l = ps.passes some in
          let a = single.alone m.0 (adds_is x (does h m.0) m.2) in
          let b = single.alone put.last (adds_is x (does h put.last) l.1) in
          let lt = m.1 in
          absurd (omega (arith, lt, a, b))
          )
      | inr le ↦ omega (arith, le, some)
    ]

pub single_got_once : (h : List Call) (x p : ℕ) (got : Tally) → IsTally (has_item Out h x) (first_of h) (length h) got
    → IsSingle h x p
    → got.count ≤ 1
single_got_once h x p got gs single =
    elim (cases_lt 1 got.count) [
      | inl more ↦ (
          let m = gs.more more in
          let some : 0 < got.count = omega (arith, more) in
          let l = gs.passes some in
          let a = single.once m.0 got.last (takes_is x (does h m.0) m.2) (takes_is x (does h got.last) l.1) in
          let lt = m.1 in
          absurd (omega (arith, lt, a))
          )
      | inr le ↦ le
    ]

-- the last call that gets an item, where one does
pub got_last : (h : List Call) (x : ℕ) (got : Tally) → IsTally (has_item Out h x) (first_of h) (length h) got
    → (got.count ≡ 0 → ⊥)
    → Gets h x got.last
got_last h x got gs ne = let some : 0 < got.count = omega arith in takes_is x (does h got.last) (gs.passes some).1

pub got_none : (h : List Call) (x : ℕ) (got : Tally) → IsTally (has_item Out h x) (first_of h) (length h) got
    → got.count ≡ 0 → (g : ℕ)
    → Gets h x g → ⊥
got_none h x got gs e g is = let some = (gs.last g (got_inside h x g is) (gets_pass h x g is)).1 in
    absurd (omega (arith, some, e))

-- a call that gets an item which is got once
pub got_once : (h : List Call) (x g : ℕ) (got : Tally) → IsTally (has_item Out h x) (first_of h) (length h) got
    → Gets h x g → got.count ≤ 1
    → got.count ≡ 1
got_once h x g got gs is le = let some = (gs.last g (got_inside h x g is) (gets_pass h x g is)).1 in
    omega (arith, some, le)

-- the put of an item that is put once
pub put_last : (h : List Call) (x : ℕ) (put : Tally) → IsTally (has_item In h x) (first_of h) (length h) put
    → put.count ≡ 1
    → Puts h x put.last
put_last h x put ps e = let some : 0 < put.count = omega (arith, e) in adds_is x (does h put.last) (ps.passes some).1

-- ---- never put, and taken twice

pub same_item : (h : List Call) (x y g : ℕ) → Gets h x g → Gets h y g → x ≡ y
same_item h x y g e f = let q : Takes x ≡ Takes y = sym e ∙ f in cc

pub twice_from : (h : List Call) (x g : ℕ) (put got : Tally) → IsTally (has_item In h x) (first_of h) (length h) put
    → IsTally (has_item Out h x) (first_of h) (length h) got → Gets h x g → got.last ≡ g → put.count < got.count
    → IsTakenTwice h g
twice_from h x g put got ps gs is last lt =
    let a = ps.count in
    let b = gs.count in (
      x,
      is,
      λ c e. (let l = (gs.last c (got_inside h x c e) (gets_pass h x c e)).0 in omega (arith, l, last)),
      omega (arith, a, b, lt),
    )

pub twice_tells : (h : List Call) (x g : ℕ) (put got : Tally) → IsTally (has_item In h x) (first_of h) (length h) put
    → IsTally (has_item Out h x) (first_of h) (length h) got → Gets h x g → IsTakenTwice h g → (got.last ≡ g)
    × (put.count < got.count)
twice_tells h x g put got ps gs is t =
    let e = same_item h t.0 x g t.1 is in
    let P : ℕ → Type 0 = λ w. ((c : ℕ) → Gets h w c → c ≤ g) × (puts_of h w < gets_of h w) in
    let u = subst P e (t.2, t.3) in
    let here = gs.last g (got_inside h x g is) (gets_pass h x g is) in
    let upper = u.0 got.last (takes_is x (does h got.last) (gs.passes here.1).1) in
    let lower = here.0 in
    let a = ps.count in
    let b = gs.count in
    let more = u.1 in
    (omega (arith, upper, lower), omega (arith, a, b, more))
