-- A refusal is the same whatever would have been returned without it.
use Rattle.std.proofs.Common.{Err, Ok, IsErrOf, Result, ap}

abbrev from_err : {A E : Type 0} → E → Result A E → E
from_err other (Ok value) = other
from_err other (Err fault) = fault

pub err_of : {A B E : Type 0} (found fault : E) → IsErrOf {T = A} {E = E} (Err found) fault
    → IsErrOf {T = B} {E = E} (Err found) fault
err_of found fault is = ap Err (ap (from_err found) is)
