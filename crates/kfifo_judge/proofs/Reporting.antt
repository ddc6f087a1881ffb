-- The values of reports have no float.
use Rattle.std.proofs.Common.{◌≡◌, ℕ, Bool, true, false, List, [], ◌∷◌, Option, Some, None, map, refl}
use Rattle.serde_json.specs.Data.{Data}
use Rattle.serde_json.specs.View.{items_of}
use Rattle.serde_json.specs.Written.{has_float, items_have_float}
use Rattle.kfifo_model.specs.declared.calls.Call.{Call}
use Rattle.kfifo_model.specs.declared.calls.End.{End}
use Rattle.kfifo_model.specs.declared.effects.Effect.{Effect}
use Rattle.kfifo_model.specs.declared.effects.Effect.TheVariants.{Adds, Takes, FindsNone, Refused, Wrong}
use Rattle.kfifo_model.specs.declared.logged.LoggedCall.{LoggedCall}
use Rattle.kfifo_model.specs.Histories.{effect_of}
use Rattle.kfifo_model.specs.RecordTexts.{whole}
use Rattle.kfifo_verdict.specs.declared.verdicts.Bounds.{Bounds}
use Rattle.kfifo_verdict.specs.declared.verdicts.Evidence.{Evidence}
use Rattle.kfifo_verdict.specs.declared.verdicts.Judgement.{Judgement}
use Rattle.kfifo_verdict.specs.declared.verdicts.Judgement.TheVariants.{Legal, NoOrder, Undecided}
use Rattle.kfifo_judge.specs.declared.judgement.Judged.{Judged}
use Rattle.kfifo_judge.specs.declared.named.NamedCall.{NamedCall}
use Rattle.kfifo_judge.specs.Named.{named_call}
use Rattle.kfifo_judge.specs.Reasons.{named_by}
use Rattle.kfifo_judge.specs.Reports as specs

abbrev IsPlain : Data → Type 0
IsPlain d = has_float d ≡ false

number : (o : Option ℕ) → IsPlain (specs.number_or_null o)
number (Some n) = refl
number None = refl

text : (o : Option (List ℕ)) → IsPlain (specs.text_or_null o)
text (Some t) = refl
text None = refl

answer : (end : Option End) → IsPlain (specs.answer_or_null end)
answer (Some end) = refl
answer None = refl

moved : (effect : Effect) (item : ℕ) → IsPlain (specs.moved_item effect item)
moved (Adds x) item = refl
moved (Takes x) item = refl
moved FindsNone item = refl
moved Refused item = refl
moved Wrong item = refl

named : (c : NamedCall) → IsPlain (specs.named_value c)
named c = rw (answer c.call.end, moved (effect_of c.call) c.item, number c.last, number c.line) refl

items : {A : Type 0} (f : A → Data) → ((a : A) → IsPlain (f a)) → (xs : List A) → items_have_float (items_of (map f xs))
    ≡ false
items f plain [] = refl
items f plain (x ∷ xs) = rw (plain x) (items f plain xs)

found_is : (logged : List LoggedCall) (h : List Call) (found : Evidence) → IsPlain (specs.evidence_value logged h found)
found_is logged h found =
    rw (items (λ n. specs.named_value (named_call logged h n)) (λ n. named (named_call logged h n))
    (named_by h found)) refl

evidence : (logged : List LoggedCall) (h : List Call) (j : Judgement) → IsPlain (specs.evidence_in logged h j)
evidence logged h (Legal order) = refl
evidence logged h (NoOrder found) = found_is logged h found
evidence logged h (Undecided stuck) = refl

order : (show : Bool) (j : Judgement) → IsPlain (specs.order_in show j)
order true (Legal found) = items whole (λ n. refl) found.items
order false (Legal found) = refl
order true (NoOrder found) = refl
order false (NoOrder found) = refl
order true (Undecided stuck) = refl
order false (Undecided stuck) = refl

bounds : (b : Bounds) → IsPlain (specs.bounds_value b)
bounds b = rw (number b.at_most) refl

least : (o : Option Bounds) → IsPlain (specs.least_in o)
least (Some b) = bounds b
least None = refl

tries : (j : Judgement) → IsPlain (specs.tries_in j)
tries (Legal found) = refl
tries (NoOrder found) = refl
tries (Undecided stuck) = refl

pub no_float : (file : Option (List ℕ)) (k : ℕ) (show : Bool) (logged : List LoggedCall) (h : List Call) (j : Judged)
    → has_float (specs.report_value file k show logged h j) ≡ false
no_float file k show logged h j =
    rw (evidence logged h j.judgement, text file, least j.bounds, order show j.judgement, tries j.judgement) refl
