-- The lines of a log in the order of their calls' beginnings.
use Rattle.std.proofs.Common.{ℕ, zero, suc, [], ◌∷◌, ◌≡◌, ◌∙◌, ◌+◌, ◌<◌, Bool, true, false, cond, List, length, map}
use Rattle.std.proofs.Common.{get_or, refl, sym, ap, subst, arith}
use Rattle.std.specs.List.{All, enumerate_from, filter}
use Rattle.std.specs.List.Sorted.{IsNonDecreasingBy, IsPermutation, IsStableByKey, ties}
use Rattle.std.specs.Ordering.{is_lt, nat_cmp}
use Rattle.std.proofs.lemmas.List.{get_or-map, length-map}
use Rattle.std.proofs.lemmas.List.Elements.{All-cons, All-head, All-nil, All-tail}
use Rattle.std.proofs.lemmas.List.Sorted.{All-permutation, IsPermutation-map}
use Rattle.kfifo_model.specs.declared.history.RecordFault.{RecordFault}
use Rattle.kfifo_model.specs.declared.history.RecordFault.TheVariants as records
use Rattle.kfifo_import.specs.declared.log.ImportFault.TheVariants.{NumberOutOfRange, WrongAnswer, EndsEarly, Overlap}
use Rattle.kfifo_import.specs.declared.log.Line.{Line}
use Rattle.kfifo_import.specs.declared.moments.Moment.{Moment}
use Rattle.kfifo_model.specs.Logged.{line_of}
use Rattle.kfifo_import.specs.Lines.{beginnings, fault_among, line_at, lines_by, no_line}
use Rattle.kfifo_import.specs.Logs.{AreByFirst, calls_of, first_time, import_fault, line_number, logged_call}
use Rattle.kfifo_import.specs.Stamping.{no_moment}

abbrev begins_from : ℕ → List Line → List Moment
begins_from a lines = map (λ e. record { time = e.1.call.first; number = e.0 }) (enumerate_from a lines)

abbrev IsBegin : List Line → Moment → Type 0
IsBegin lines begin = begin.time ≡ first_time (line_at lines begin.number)

-- the beginnings lead to the lines
lead : (lines xs : List Line) (a : ℕ) → ((i : ℕ) → i < length xs → get_or lines (a + i) no_line ≡ get_or xs i no_line)
    → (lines_by lines (begins_from a xs) ≡ xs) × All (IsBegin lines) (begins_from a xs)
lead lines [] a same = (refl, All-nil (IsBegin lines))
lead lines (x ∷ xs) a same =
    let e : a + 0 ≡ a = omega arith in
    let head : line_at lines a ≡ x = subst (λ n. get_or lines n no_line ≡ x) e (same 0 (omega arith)) in
    let rest = lead lines xs (a + 1) (λ i lt. let e : (a + 1) + i ≡ a + suc i =
    omega arith in rw e (same (suc i) (omega arith))) in (
      ap (λ y. y ∷ lines_by lines (begins_from (a + 1) xs)) head ∙ ap (λ ys. x ∷ ys) rest.0,
      All-cons (IsBegin lines) (record {
        time = x.call.first;
        number = a;
      }) (begins_from (a + 1) xs) (ap first_time (sym head)) rest.1,
    )

-- what passes a test of lines is what passes a test of their beginnings
choose : (f : Moment → Line) (b : Bool) (x : Moment) (xs : List Moment)
    → cond b (f x ∷ map f xs) (map f xs) ≡ map f (cond b (x ∷ xs) xs)
choose f true x xs = refl
choose f false x xs = refl

kept : (f : Moment → Line) (p : Line → Bool) (q : Moment → Bool) (xs : List Moment) → All (λ x. p (f x) ≡ q x) xs
    → filter p (map f xs) ≡ map f (filter q xs)
kept f p q [] same = refl
kept f p q (x ∷ xs) same =
    let head : p (f x) ≡ q x = All-head (λ x. p (f x) ≡ q x) x xs same in
    let rest = kept f p q xs (All-tail (λ x. p (f x) ≡ q x) x xs same) in
    rw (head, rest) (choose f (q x) x (filter q xs))

module _ (lines : List Line) (order : List Moment) (moved : IsPermutation (beginnings lines) order) where
  begins : (lines_by lines (beginnings lines) ≡ lines) × All (IsBegin lines) (beginnings lines)
  begins = lead lines lines 0 (λ i lt. let e : 0 + i ≡ i = omega arith in ap (λ n. get_or lines n no_line) e)

  are : All (IsBegin lines) order
  are = All-permutation (IsBegin lines) (beginnings lines) order moved begins.1

  rise : IsNonDecreasingBy (λ (begin : Moment). begin.time) order → IsNonDecreasingBy first_time (lines_by lines order)
  rise up i j d le inside =
      let at : Moment → Line = λ begin. line_at lines begin.number in
      let small : length (lines_by lines order) ≡ length order = length-map order at in
      let j_in : j < length order = omega (arith, small, inside) in
      let a = get_or-map at order i no_moment d (omega (arith, j_in, le)) in
      let b = get_or-map at order j no_moment d j_in in
      let x = up i j no_moment le j_in in
      let s = are i no_moment (omega (arith, j_in, le)) in
      let t = are j no_moment j_in in
      rw (a, b) (rw (s, t) at x)

  stable : IsStableByKey (λ (begin : Moment). begin.time) nat_cmp (beginnings lines) order
      → IsStableByKey first_time nat_cmp lines (lines_by lines order)
  stable fixed line =
      let at : Moment → Line = λ begin. line_at lines begin.number in
      let p : Line → Bool = ties (λ x y. is_lt (nat_cmp (first_time x) (first_time y))) line in
      let q : Moment → Bool = λ begin. ties (λ x y. is_lt (nat_cmp x y)) (first_time line) begin.time in
      let same : (xs : List Moment) → All (IsBegin lines) xs → All (λ x. p (at x) ≡ q x) xs = λ xs all k d lt.
      ap (λ t. ties (λ x y. is_lt (nat_cmp x y)) (first_time line) t) (sym (all k d lt)) in
      kept at p q order (same order are)
      ∙ (ap (map at) (fixed (record { time = first_time line; number = 0 }))
      ∙ (sym (kept at p q (beginnings lines) (same (beginnings lines) begins.1)) ∙ ap (filter p) begins.0))

  pub by_first : IsNonDecreasingBy (λ (begin : Moment). begin.time) order
      → IsStableByKey (λ (begin : Moment). begin.time) nat_cmp (beginnings lines) order
      → AreByFirst lines (lines_by lines order)
  by_first up fixed = record {
    moved = subst (λ xs. IsPermutation xs (lines_by lines order)) begins.0
        (IsPermutation-map (λ begin. line_at lines begin.number) (beginnings lines) order moved);
    rise = rise up;
    stable = stable fixed;
  }

-- ---- what is made of the lines by their beginnings

pub calls_by : (lines : List Line) (order : List Moment)
    → map (λ begin. (line_at lines begin.number).call) order ≡ calls_of (lines_by lines order)
calls_by lines [] = refl
calls_by lines (begin ∷ order) = ap (λ ys. (line_at lines begin.number).call ∷ ys) (calls_by lines order)

pub logged_by : (lines : List Line) (order : List Moment)
    → map (λ begin. logged_call (line_at lines begin.number)) order ≡ map logged_call (lines_by lines order)
logged_by lines [] = refl
logged_by lines (begin ∷ order) = ap (λ ys. logged_call (line_at lines begin.number) ∷ ys) (logged_by lines order)

same_line : (sorted : List Line) (n : ℕ) → line_of (map logged_call sorted) n ≡ line_number sorted n
same_line [] n = refl
same_line (line ∷ sorted) zero = refl
same_line (line ∷ sorted) (suc n) = same_line sorted n

pub same_fault : (sorted : List Line) (fault : RecordFault) → fault_among (map logged_call sorted) fault
    ≡ import_fault sorted fault
same_fault sorted (records.NumberOutOfRange n) = ap NumberOutOfRange (same_line sorted n)
same_fault sorted (records.WrongAnswer n) = ap WrongAnswer (same_line sorted n)
same_fault sorted (records.EndsEarly n) = ap EndsEarly (same_line sorted n)
same_fault sorted (records.Overlap n) = ap Overlap (same_line sorted n)
same_fault sorted records.TooMany = refl
same_fault sorted records.NotAList = refl
same_fault sorted (records.NotACall n) = refl
same_fault sorted (records.OutOfOrder n) = refl
same_fault sorted records.Memory = refl
