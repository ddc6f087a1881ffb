-- Handles by their kind.
use Rattle.std.proofs.Common.{◌≡◌, ◌<◌, arith, rules, ℕ, Option, Some, None, refl, sym, ap, ◌∙◌}
use Rattle.std.specs.Prelude.{◌==◌, true}
use Rattle.kfifo_c.specs.Behind.{Behind, Items, Values, Cells, Left, cells_in, items_in, kind_of, left_holds_of}
use Rattle.kfifo_c.specs.Behind.{left_in, starts_of, values_in}
use Rattle.kfifo_c.specs.CellLeft.{LeftSeated}
use Rattle.kfifo_c.specs.CellSeats.{CellSeated}
use Rattle.kfifo_c.specs.Seats.{Seated}
use Rattle.kfifo_c.specs.ValueSeats.{ValueSeated}

pub same_kind : (n m : ℕ) → (n == m) ≡ true → n ≡ m
same_kind n m e = search (rules, e)

pub is_kind : (n m : ℕ) → n ≡ m → (n == m) ≡ true
is_kind n m e = search (rules, e)

-- a handle from which a scan may begin somewhere has a seat of items
pub items_from : (o : Option Behind) → ¬ (starts_of o ≡ 0) → (x : Seated) × (o ≡ Some (Items x))
items_from None some = absurd (some refl)
items_from (Some (Items x)) some = (x, refl)
items_from (Some (Values x)) some = absurd (some refl)
items_from (Some (Cells x)) some = absurd (some refl)
items_from (Some (Left x)) some = absurd (some refl)

pub items_at : (o : Option Behind) (start : ℕ) → start < starts_of o → (x : Seated) × (o ≡ Some (Items x))
items_at o start below = items_from o (λ none. omega arith)

-- and one from which it may begin nowhere has none
pub no_items : (o : Option Behind) → starts_of o ≡ 0 → (x : Seated) → o ≡ Some (Items x) → ⊥
no_items o none x is = let slots = x.queue.opened.shape.some_slot in let k = sym (ap starts_of is) ∙ none in
    omega (arith, slots, k)

pub no_items_in : (o : Option Behind) → starts_of o ≡ 0 → items_in o ≡ None
no_items_in None none = refl
no_items_in (Some (Items x)) none = let slots = x.queue.opened.shape.some_slot in absurd (omega (arith, slots, none))
no_items_in (Some (Values x)) none = refl
no_items_in (Some (Cells x)) none = refl
no_items_in (Some (Left x)) none = refl

-- a handle of another kind has no seat of this kind
pub no_seat : {S : Type 0} (kind : S → Behind) (own : ℕ) → ((x : S) → kind_of (Some (kind x)) ≡ own)
    → (o : Option Behind)
    → ¬ (kind_of o ≡ own) → (x : S) → o ≡ Some (kind x) → ⊥
no_seat kind own is o other x there = other (ap kind_of there ∙ is x)

-- one of each kind, read as a handle of that kind
pub items_not : (o : Option Behind) → ¬ (kind_of o ≡ 1) → items_in o ≡ None
items_not None other = refl
items_not (Some (Items x)) other = absurd (other refl)
items_not (Some (Values x)) other = refl
items_not (Some (Cells x)) other = refl
items_not (Some (Left x)) other = refl

pub values_not : (o : Option Behind) → ¬ (kind_of o ≡ 2) → values_in o ≡ None
values_not None other = refl
values_not (Some (Items x)) other = refl
values_not (Some (Values x)) other = absurd (other refl)
values_not (Some (Cells x)) other = refl
values_not (Some (Left x)) other = refl

pub cells_not : (o : Option Behind) → ¬ (kind_of o ≡ 3) → cells_in o ≡ None
cells_not None other = refl
cells_not (Some (Items x)) other = refl
cells_not (Some (Values x)) other = refl
cells_not (Some (Cells x)) other = absurd (other refl)
cells_not (Some (Left x)) other = refl

-- and one that has a seat of a kind is of that kind
pub items_kind : (o : Option Behind) (x : Seated) → items_in o ≡ Some x → kind_of o ≡ 1
items_kind None x is = search (rules, is)
items_kind (Some (Items y)) x is = refl
items_kind (Some (Values y)) x is = search (rules, is)
items_kind (Some (Cells y)) x is = search (rules, is)
items_kind (Some (Left y)) x is = search (rules, is)

pub values_kind : (o : Option Behind) (x : ValueSeated) → values_in o ≡ Some x → kind_of o ≡ 2
values_kind None x is = search (rules, is)
values_kind (Some (Items y)) x is = search (rules, is)
values_kind (Some (Values y)) x is = refl
values_kind (Some (Cells y)) x is = search (rules, is)
values_kind (Some (Left y)) x is = search (rules, is)

pub cells_kind : (o : Option Behind) (x : CellSeated) → cells_in o ≡ Some x → kind_of o ≡ 3
cells_kind None x is = search (rules, is)
cells_kind (Some (Items y)) x is = search (rules, is)
cells_kind (Some (Values y)) x is = search (rules, is)
cells_kind (Some (Cells y)) x is = refl
cells_kind (Some (Left y)) x is = search (rules, is)

-- what is held of a closed queue of cells
pub left_found : (o : Option Behind) → ¬ (left_holds_of o ≡ 0) → (x : LeftSeated) × (o ≡ Some (Left x))
left_found None some = absurd (some refl)
left_found (Some (Items x)) some = absurd (some refl)
left_found (Some (Values x)) some = absurd (some refl)
left_found (Some (Cells x)) some = absurd (some refl)
left_found (Some (Left x)) some = (x, refl)

pub no_left : (o : Option Behind) → left_holds_of o ≡ 0 → left_in o ≡ None
no_left None none = refl
no_left (Some (Items x)) none = refl
no_left (Some (Values x)) none = refl
no_left (Some (Cells x)) none = refl
no_left (Some (Left x)) none = absurd (omega (arith, none))
