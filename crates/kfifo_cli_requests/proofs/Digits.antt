-- Texts of decimal digits, in std's words.
use Rattle.std.proofs.lemmas.Str.Parse.{IsNumeralModel, numerals_by_value, tells_by_index}
use Rattle.std.specs.Str.Parse.{digits_value}
use Rattle.kfifo_cli_requests.specs.Digits.{IsDigits}

pub own : IsNumeralModel IsDigits (digits_value 10)
own = numerals_by_value IsDigits tells_by_index
