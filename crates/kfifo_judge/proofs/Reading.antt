-- Records that are too long, of which a part has been read.
use Rattle.std.proofs.Common.{◌∙◌, ◌<◌, ◌++◌, ℕ, IfSome, List, Option, None, Some, length, arith, subst, sym}
use Rattle.std.proofs.Common.{length-append}
use Rattle.std.proofs.lemmas.List.{get_or_append_left}
use Rattle.std.specs.Io.KnownBytes.{Consumes}
use Rattle.kfifo_judge.specs.Inputs.{IsLongRecord, IsSpace}

-- a text whose beginning is such a record is one
longer : (front rest : List ℕ) → IsLongRecord front → IsLongRecord (front ++ rest)
longer front rest long =
    let there : long.0.place < length front = long.0.inside in (
      record {
        place = long.0.place;
        inside = omega (arith, length-append front rest, there);
        bracket = get_or_append_left front rest 0 long.0.place there ∙ long.0.bracket;
        spaces = λ n before.
            let inside : n < length front = omega (arith, before, there) in
            subst IsSpace (sym (get_or_append_left front rest 0 n inside)) (long.0.spaces n before);
      },
      omega (arith, length-append front rest, long.1),
    )

-- what begins with such a record is one, where it is known
pub long_read : (before after : Option (List ℕ)) (bytes : List ℕ) → Consumes before after bytes → IsLongRecord bytes
    → IfSome before IsLongRecord
long_read None after bytes came long = tt
long_read (Some xs) None bytes came long = absurd came
long_read (Some xs) (Some ys) bytes came long = subst IsLongRecord (sym came) (longer bytes ys long)
