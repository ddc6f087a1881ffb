use Rattle.std.proofs.Common.{ℕ, ◌≢◌, List, ap, arith, length, subst}
use Rattle.std.specs.List.{All}
use Rattle.std.proofs.lemmas.List.Sorted.{All-permutation, IsNonDecreasingBy-from_sort, IsPermutation-sym}
use Rattle.std.proofs.lemmas.List.Sorted.{length_permutation}
use Rattle.kfifo_import.proofs.Kept.{put_fewer}
use Rattle.kfifo_import.proofs.foreign.free_item.Goals as goal

pub first_missing-requires-clause-rise : goal.first_missing-requires-clause-rise
first_missing-requires-clause-rise c =
    rw c.as_slice.ensures.value
    (IsNonDecreasingBy-from_sort (λ (x : ℕ). x) c.sort_unstable.new.self.items c.sort_unstable.ensures.sorted)

pub first_missing-requires-clause-few : goal.first_missing-requires-clause-few
first_missing-requires-clause-few c =
    let lines = c.args.lines.now in
    let fewer = put_fewer lines c.requires.some in
    let few = c.requires.few in
    let put = ap (λ (xs : List ℕ). length xs) c.in_ok-items.ensures.0 in
    let moved = length_permutation c.in_ok-items.items.items c.sort_unstable.new.self.items
    c.sort_unstable.ensures.permutation in
    let same = ap (λ (xs : List ℕ). length xs) c.as_slice.ensures.value in
    omega (arith, fewer, few, put, moved, same)

pub returns : goal.returns
returns c =
    let free = c.first_missing.result in
    let M : List ℕ → Type 0 = λ xs. All (λ (x : ℕ). x ≢ free) xs in
    let sorted : M c.sort_unstable.new.self.items = subst M c.as_slice.ensures.value c.first_missing.ensures.missing in
    let moved = IsPermutation-sym c.in_ok-items.items.items c.sort_unstable.new.self.items
    c.sort_unstable.ensures.permutation in
    let put : M c.in_ok-items.items.items =
    All-permutation (λ (x : ℕ). x ≢ free) c.sort_unstable.new.self.items c.in_ok-items.items.items moved sorted in
    (c.first_missing.ensures.item, subst M c.in_ok-items.ensures.0 put)
