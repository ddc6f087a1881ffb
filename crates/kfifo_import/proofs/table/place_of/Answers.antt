use Rattle.std.proofs.Common.{◌≡◌, ◌<◌, ℕ, zero, suc, List, [], ◌∷◌, Some, length, arith}
use Rattle.csv.specs.Records.{field_at, fields_of}
use Rattle.kfifo_import.proofs.Header.{found_all}
use Rattle.kfifo_import.proofs.table.place_of.Goals as goal

-- a field is at a place within
within : (fields : List (List ℕ)) (place : ℕ) (text : List ℕ) → field_at fields place ≡ Some text
    → place < length fields
unfolding field_at
within [] place text e = absurd (cc)
within (f ∷ fields) zero text e = omega arith
within (f ∷ fields) (suc place) text e = let r = within fields place text e in omega arith

pub returns : goal.returns
returns c =
    let counted = c.len-place-end.ensures in
    let over = c.loop-place-test.false in
    let bound = c.loop-place.auto.place-end in
    found_all (fields_of c.args.header.now) c.args.name.now c.loop-place.place c.loop-place.found
    (λ k is. let inside = within (fields_of c.args.header.now) k c.args.name.now is in omega
    (arith, inside, counted, over, bound))
    c.loop-place.invariant
