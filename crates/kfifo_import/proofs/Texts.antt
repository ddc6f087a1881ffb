-- A field gives one number or one text at most, and a row that lacks one is no call.
use Rattle.std.proofs.Common.{ℕ, zero, suc, ◌∷◌, ◌≡◌, ◌∙◌, ◌<◌, ◌≤◌, ◌^◌, List, [], Option, Some, None, get_or, length}
use Rattle.std.proofs.Common.{ap, option_map, refl, sym, subst, arith, Result, Ok, Err, MatchOption}
use Rattle.std.specs.Result.{OkIff, result_ok}
use Rattle.std.specs.Str.Parse.{digits_value, ParsesUnsigned}
use Rattle.std.specs.Str.{IsAscii, IsUtf8}
use Rattle.std.proofs.lemmas.Str.{IsUtf8-from_ascii}
use Rattle.std.proofs.lemmas.Str.Parse.{IsNumeralModel, numerals_by_value, tells_by_index, parse_digits}
use Rattle.csv.specs.Records.{field_at}
use Rattle.kfifo_model.specs.declared.calls.End.{End}
use Rattle.kfifo_model.specs.declared.calls.Op.{Op}
use Rattle.kfifo_model.specs.declared.calls.Op.TheVariants.{Enqueue, Dequeue}
use Rattle.kfifo_import.specs.declared.table.Columns.{Columns}
use Rattle.kfifo_import.specs.Fields.{DoesNotApply, Gives, GivesText, IsDigits, IsEnd, IsOp, WritesSmall, WritesWhole}
use Rattle.kfifo_import.specs.Fields.{small}
use Rattle.kfifo_import.specs.Tables.{IsNoCall}

own : IsNumeralModel IsDigits (digits_value 10)
own = numerals_by_value IsDigits tells_by_index

-- what `parse` gives for digits is the number that they write
pub parsed : {E : Type 0} (text : List ℕ) (r : Result ℕ E) → ParsesUnsigned 64 10 text r → IsDigits text
    → MatchOption (result_ok r) ((number : ℕ) → WritesWhole text number → ⊥) (WritesWhole text)
parsed text r h digits = cases r (parse_digits own 64 text r h digits)
  where
    cases : {E : Type 0} (r : Result ℕ E)
        → OkIff r ((0 < length text) × (digits_value 10 text < 2 ^ 64)) (digits_value 10 text)
        → MatchOption (result_ok r) ((number : ℕ) → WritesWhole text number → ⊥) (WritesWhole text)
    cases (Ok n) h = record {
      some = omega (arith, h.0.0);
      digits = digits;
      value = h.1;
      fits = omega (arith, h.0.1, h.1);
    }
    cases (Err e) h = λ number w. h (omega (arith, w.some), omega (arith, w.fits, w.value))

-- digits are text
ascii_digits : (text : List ℕ) → IsDigits text → IsAscii text
ascii_digits [] digits i = omega arith
ascii_digits (c ∷ cs) digits zero = let k = digits 0 (omega arith) in omega arith
ascii_digits (c ∷ cs) digits (suc i) = ascii_digits cs (λ j below. digits (suc j) (omega arith)) i

pub is_text : (text : List ℕ) → IsDigits text → IsUtf8 text
is_text text digits = IsUtf8-from_ascii text (ascii_digits text digits)

-- ---- what a field gives is one thing

whole_same : (text : List ℕ) (a b : ℕ) → WritesWhole text a → WritesWhole text b → a ≡ b
whole_same text a b p q = p.value ∙ sym q.value

small_same : (text : List ℕ) (a b : ℕ) → WritesSmall text a → WritesSmall text b → a ≡ b
small_same text a b p q = let e = whole_same text p.0 q.0 p.1 q.1 in p.2 ∙ ap small e ∙ sym q.2

not_empty : (given : Option (List ℕ)) (text : List ℕ) → given ≡ Some text → 1 ≤ length text → DoesNotApply given → ⊥
not_empty None text e some d = cc
not_empty (Some []) text e some d = let k : text ≡ [] = cc in let n = ap length k in omega (arith, n)
not_empty (Some (x ∷ xs)) text e some d = cc

gives_same : (Writes : List ℕ → ℕ → Type 0) → ((text : List ℕ) (a b : ℕ) → Writes text a → Writes text b → a ≡ b)
    → ((text : List ℕ) (a : ℕ) → Writes text a → 1 ≤ length text)
    → (given : Option (List ℕ)) (a b : Option ℕ) → Gives Writes given a → Gives Writes given b → a ≡ b
gives_same Writes same some given None None p q = refl
gives_same Writes same some given None (Some b) p q = absurd (not_empty given q.0 q.1 (some q.0 b q.2) p)
gives_same Writes same some given (Some a) None p q = absurd (not_empty given p.0 p.1 (some p.0 a p.2) q)
gives_same Writes same some given (Some a) (Some b) p q =
    let e : p.0 ≡ q.0 = cc (p.1, q.1) in
    ap Some (same q.0 a b (subst (λ t. Writes t a) e p.2) q.2)

pub whole_once : (given : Option (List ℕ)) (a b : Option ℕ) → Gives WritesWhole given a → Gives WritesWhole given b
    → a ≡ b
whole_once = gives_same WritesWhole whole_same (λ text a w. w.some)

pub small_once : (given : Option (List ℕ)) (a b : Option ℕ) → Gives WritesSmall given a → Gives WritesSmall given b
    → a ≡ b
small_once = gives_same WritesSmall small_same (λ text a w. w.1.some)

pub text_once : (given : Option (List ℕ)) (a b : Option (List ℕ)) → GivesText given a → GivesText given b → a ≡ b
text_once given None None p q = refl
text_once given None (Some b) p q = absurd (not_empty given b q.0 q.1 p)
text_once given (Some a) None p q = absurd (not_empty given a p.0 p.1 q)
text_once given (Some a) (Some b) p q = sym p.0 ∙ q.0

-- a text that writes no number gives none
pub gives_nothing : (Writes : List ℕ → ℕ → Type 0) (given : Option (List ℕ)) (text : List ℕ)
    → GivesText given (Some text)
    → ((a : ℕ) → Writes text a → ⊥)
    → (a : Option ℕ) → Gives Writes given a → ⊥
gives_nothing Writes given text t none None d = not_empty given text t.0 t.1 d
gives_nothing Writes given text t none (Some a) d =
    let e : d.0 ≡ text = cc (d.1, t.0) in
    none a (subst (λ t. Writes t a) e d.2)

op_once : (text : List ℕ) (item : Option ℕ) (a b : Op) → IsOp text item a → IsOp text item b → a ≡ b
op_once text item (Enqueue x) (Enqueue y) p q = cc (p.1, q.1)
op_once text item (Enqueue x) Dequeue p q = let e = ap (λ t. get_or t 0 0) (sym p.0 ∙ q) in absurd (omega (arith, e))
op_once text item Dequeue (Enqueue y) p q = let e = ap (λ t. get_or t 0 0) (sym p ∙ q.0) in absurd (omega (arith, e))
op_once text item Dequeue Dequeue p q = refl

-- a field that gives a number gives it as one of 32 bits
pub small_given : (given : Option (List ℕ)) (item : Option ℕ) → Gives WritesWhole given item
    → Gives WritesSmall given (option_map small item)
small_given given None d = d
small_given given (Some number) d = (d.0, d.1, (number, d.2, refl))

-- a field that gives no number is that of no item
pub no_item : (columns : Columns) (fields : List (List ℕ))
    → ((number : Option ℕ) → Gives WritesWhole (field_at fields columns.item) number → ⊥) → IsNoCall columns fields
no_item columns fields none = λ call is. without is.item is.item_given
  where
    without : (item : Option ℕ) → Gives WritesSmall (field_at fields columns.item) item → ⊥
    without None d = none None d
    without (Some x) d = none (Some d.2.0) (d.0, d.1, d.2.1)

-- a row whose operation, or whose end, is none
module _ (columns : Columns) (fields : List (List ℕ)) (item last : Option ℕ) (text : List ℕ)
    (item_given : Gives WritesSmall (field_at fields columns.item) item) (op_given : field_at fields columns.op
    ≡ Some text) where
  pub no_op : ((op : Op) → IsOp text item op → ⊥) → IsNoCall columns fields
  no_op none = λ call is.
      let i = small_once (field_at fields columns.item) is.item item is.item_given item_given in
      let t : is.op_text ≡ text = cc (is.op_given, op_given) in
      none call.op (rw (t, i) at is.op)

  pub no_end : (op : Op) (answer : Option (List ℕ)) → Gives WritesWhole (field_at fields columns.last) last
      → IsOp text item op
      → GivesText (field_at fields columns.answer) answer → ((end : Option End) → IsEnd op last answer item end → ⊥)
      → IsNoCall columns fields
  no_end op answer last_given is_op answer_given none = λ call is.
      let i = small_once (field_at fields columns.item) is.item item is.item_given item_given in
      let l = whole_once (field_at fields columns.last) is.last last is.last_given last_given in
      let t : is.op_text ≡ text = cc (is.op_given, op_given) in
      let a = text_once (field_at fields columns.answer) is.answer answer is.answer_given answer_given in
      let o : call.op ≡ op = op_once text item call.op op (rw (t, i) at is.op) is_op in
      none call.end (rw (o, l, a, i) at is.end)
