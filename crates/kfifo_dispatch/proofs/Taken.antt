-- What the iterator of a list has given.
use Rattle.std.proofs.Common.{◌≡◌, ◌∙◌, List, Option, None, length, sym}
use Rattle.std.proofs.lemmas.Iterator.Adapters.{YieldsList-from_vec}
use Rattle.std.proofs.lemmas.Iterator.Consumers.{YieldsList-end}
use Rattle.std.proofs.lemmas.List.{map-id}
use Rattle.std.specs.Iterator.{Yields}
use Rattle.std.specs.Vec.Iter.{into_iter_items, into_iter_len, into_iter_steps}
use Rattle.std.specs.declared.vec.IntoIter.{IntoIter}

-- it has given all where it gives nothing more
pub taken_all : {X A : Type 0} (all : List X) (s : IntoIter X A) (xs : List X) (t u : IntoIter X A) (r : Option X)
    → into_iter_items s ≡ all → into_iter_len s ≡ length all → Yields into_iter_steps s xs t → r ≡ None
    → into_iter_steps t r u → xs ≡ all
taken_all all s xs t u r items count y none step =
    sym (map-id xs) ∙ (YieldsList-end (YieldsList-from_vec {s = s} all items count) xs t y r u none step).0
