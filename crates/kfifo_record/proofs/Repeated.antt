-- Scripts made several times over stay in range.
use Rattle.std.proofs.Common.{◌≡◌, ◌<◌, ◌≤◌, ◌+◌, ◌-◌, ◌*◌, ◌^◌, ℕ, zero, suc, List, [], ◌++◌, length, map, get_or, All}
use Rattle.std.proofs.Common.{Vec, Global, sym, ap, ◌∙◌, subst, arith, add-one}
use Rattle.std.proofs.Math.Nat.{mul-le-mul_right}
use Rattle.std.proofs.lemmas.List.{get_or-map, get_or_default, length-map}
use Rattle.std.proofs.lemmas.List.Elements.{All-append, All-map}
use Rattle.kfifo_words.specs.declared.shape.Shape.{Shape}
use Rattle.kfifo_machine.specs.declared.event.Begin.{Begin}
use Rattle.kfifo_machine.specs.declared.event.Begin.TheVariants as B
use Rattle.kfifo_record.specs.Scripts.{AreScripts, IsCall, script_of, scripts_in}
use Rattle.kfifo_linear.specs.Ledger.{item_of}
use Rattle.kfifo_record.specs.Repeats.{AllFit, FitsTo, all_repeated, greatest_item, last_shift, repeated, shifted}

-- ---- a script of a list, by its place

pub script_at : (scripts : List (Vec Begin Global)) (place : ℕ) (script : Vec Begin Global) → place < length scripts
    → script ≡ get_or scripts place script → script.items ≡ script_of (scripts_in scripts) place
script_at scripts place script less is =
    ap (λ (s : Vec Begin Global). s.items) is
    ∙ sym (get_or-map (λ (s : Vec Begin Global). s.items) scripts place script [] less)

pub length_in : (scripts : List (Vec Begin Global)) (place : ℕ) → place < length scripts
    → place < length (scripts_in scripts)
length_in scripts place less = omega (arith, less, length-map scripts (λ (s : Vec Begin Global). s.items))

-- ---- one repetition more

pub one_more : (step n : ℕ) (script made more new : List Begin) → made ≡ repeated step n script
    → more ≡ map (shifted (n * step)) script
    → new ≡ made ++ more → new ≡ repeated step (n + 1) script
one_more step n script made more new before here is =
    is ∙ (λ i. before i ++ here i) ∙ ap (λ (m : ℕ). repeated step m script) (sym (add-one n))

-- ---- the calls stay in range

less_shifted : (by most : ℕ) (call : Begin) → by ≤ most → item_of (shifted most call) < 2 ^ 24
    → item_of (shifted by call) < 2 ^ 24
less_shifted by most (B.Enqueue item start turns) le less = omega (arith, le, less)
less_shifted by most (B.Dequeue start turns) le less = less
less_shifted by most B.Tick le less = less
less_shifted by most B.Seal le less = less

pub fits_before : (step n count : ℕ) (script : List Begin) → n < count → FitsTo ((count - 1) * step) script
    → FitsTo (n * step) script
fits_before step n count script less fits =
    λ i d lt. less_shifted (n * step) ((count - 1) * step) (get_or script i d)
    (smaller step n (count - 1) (omega (arith, less)))
    (fits i d lt)
  where
    smaller : (step n m : ℕ) → n ≤ m → n * step ≤ m * step
    smaller step n m le = mul-le-mul_right step le

call_shifted : (shape : Shape) (by : ℕ) (call : Begin) → IsCall shape call → item_of (shifted by call) < 2 ^ 24
    → IsCall shape (shifted by call)
call_shifted shape by (B.Enqueue item start turns) is less = (let h = is.0 in omega (arith, h), less, is.2, is.3)
call_shifted shape by (B.Dequeue start turns) is less = is
call_shifted shape by B.Tick is less = is
call_shifted shape by B.Seal is less = is

all_shifted : (shape : Shape) (by : ℕ) (script : List Begin) → All (IsCall shape) script → FitsTo by script
    → All (IsCall shape) (map (shifted by) script)
all_shifted shape by script all fits = All-map (IsCall shape) (shifted by) script
    (λ i d lt. call_shifted shape by (get_or script i d) (all i d lt) (fits i d lt))

repeated_calls : (shape : Shape) (step n count : ℕ) (script : List Begin) → n ≤ count → All (IsCall shape) script
    → FitsTo ((count - 1) * step) script → All (IsCall shape) (repeated step n script)
repeated_calls shape step zero count script le all fits = λ i d lt. absurd (omega (arith, lt))
repeated_calls shape step (suc n) count script le all fits =
    All-append (IsCall shape) (repeated step n script) (map (shifted (n * step)) script)
    (repeated_calls shape step n count script (omega (arith, le)) all fits)
    (all_shifted shape (n * step) script all (fits_before step n count script (omega (arith, le)) fits))

-- The calls of repeated scripts are in range
pub repeated_in_range : (shape : Shape) (count : ℕ) (scripts : List (List Begin)) → AreScripts shape scripts
    → AllFit (last_shift count scripts) scripts → AreScripts shape (all_repeated count scripts)
repeated_in_range shape count scripts all fit =
    All-map (λ script. All (IsCall shape) script) (repeated (greatest_item scripts) count) scripts (λ t d lt.
    repeated_calls shape (greatest_item scripts) count count (get_or scripts t d) (omega arith) (all t d lt)
    (subst (FitsTo (last_shift count scripts)) (sym (get_or_default scripts t d [] lt)) (fit t lt)))
