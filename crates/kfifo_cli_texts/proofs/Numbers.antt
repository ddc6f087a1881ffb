-- Numbers on the command line, in std's words.
use Rattle.std.proofs.Common.{ℕ, ◌<◌, ◌≤◌, ◌^◌, List, length, arith, Result, Ok, Err, MatchOption}
use Rattle.std.proofs.lemmas.Str.Parse.{parse_digits, digits_value_short}
use Rattle.std.specs.Result.{OkIff, result_ok}
use Rattle.std.specs.Str.Parse.{digits_value, ParsesUnsigned}
use Rattle.kfifo_cli_requests.specs.Digits.{IsDigits}
use Rattle.kfifo_cli_requests.proofs.Digits.{own}
use Rattle.kfifo_cli_texts.specs.Words.{WritesNumber}

-- what `parse` gives for at most 10 digits is the number that they write
pub parsed : {E : Type 0} (text : List ℕ) (r : Result ℕ E) → ParsesUnsigned 64 10 text r → IsDigits text
    → length text ≤ 10
    → MatchOption (result_ok r) ((number : ℕ) → WritesNumber text number → ⊥) (WritesNumber text)
parsed text r h digits few = cases r (parse_digits own 64 text r h digits)
  where
    fits : digits_value 10 text < 2 ^ 64
    fits = omega (arith, digits_value_short own text 10 digits few)

    cases : {E : Type 0} (r : Result ℕ E)
        → OkIff r ((0 < length text) × (digits_value 10 text < 2 ^ 64)) (digits_value 10 text)
        → MatchOption (result_ok r) ((number : ℕ) → WritesNumber text number → ⊥) (WritesNumber text)
    cases (Ok n) h = record { some = omega (arith, h.0.0); few = few; digits = digits; value = h.1 }
    cases (Err e) h = λ number w. h (omega (arith, w.some), fits)
