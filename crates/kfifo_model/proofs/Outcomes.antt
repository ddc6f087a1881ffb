-- From what the value of a result has to what follows from it.
use Rattle.std.proofs.Common.{Result, Ok, Err, IfOk}

-- what the value of a result has, where another fact gives it
pub ok_to : {T E : Type 0} (P Q : T → Type 0) → ((x : T) → P x → Q x) → (r : Result T E) → IfOk r P → IfOk r Q
ok_to P Q give (Ok x) h = give x h
ok_to P Q give (Err e) h = tt
