-- What an option's text is read as.
use Rattle.std.proofs.Common.{◌≡◌, ℕ, ◌<◌, ◌≤◌, ◌^◌, List, length, arith, refl, Result, Option, Ok, Err, Some, None, ap}
use Rattle.std.proofs.lemmas.Str.Parse.{parse_digits}
use Rattle.std.specs.Str.Parse.{digits_value, ParsesUnsigned, ExplainsUnsignedError, HasUnsignedDigitsIfOk}
use Rattle.std.specs.declared.num.ParseIntError.{ParseIntError}
use Rattle.clap.specs.Words.{ReadsOne}
use Rattle.kfifo_cli_arguments.specs.Options.{GivesNumber}
use Rattle.kfifo_cli_requests.specs.Digits.{IsDigits}
use Rattle.kfifo_cli_requests.proofs.Digits.{own}

-- what `parse` says of an unsigned number of so many bits
abbrev ParsesTo : ℕ → List ℕ → Result ℕ ParseIntError → Type 0
ParsesTo bits t r = ParsesUnsigned bits 10 t r × ExplainsUnsignedError 10 t r × HasUnsignedDigitsIfOk t r

-- what an option's value is read as
reads : (bits : ℕ) (t : List ℕ) (r : Option ℕ) → ReadsOne (ParsesTo bits) t r → IsDigits t → 1 ≤ length t
    → digits_value 10 t < 2 ^ bits
    → r ≡ Some (digits_value 10 t)
reads bits t (Some v) h digits some fits = let r : Result ℕ ParseIntError = Ok v in
    ap (λ n. Some n) (parse_digits own bits t r h.0 digits).1
reads bits t None h digits some fits = let r : Result ℕ ParseIntError = Err h.0 in
    absurd (parse_digits own bits t r h.1.0 digits (omega (arith, some), fits))

-- what an option gives
pub given : (bits : ℕ) (text : Option (List ℕ)) (r : Option ℕ) → (text ≡ None → r ≡ None)
    → ((t : List ℕ) → text ≡ Some t → ReadsOne (ParsesTo bits) t r) → GivesNumber bits text r
given bits None r none value = none refl
given bits (Some t) r none value = λ digits some fits. reads bits t r (value t refl) digits some fits
