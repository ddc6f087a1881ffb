-- Lists of handles, and what is behind them.
use Rattle.std.proofs.Common.{◌≡◌, ◌<◌, ◌+◌, arith, take, sym, ap, ◌∙◌, map, reverse, length, ℕ, zero, suc, List, []}
use Rattle.std.proofs.Common.{◌∷◌, ◌++◌, Option, Some, None, get_or, refl, true, rules, All}
use Rattle.std.specs.Prelude.{Bool, ◌==◌, ◌&&◌}
use Rattle.std.specs.List.{list_all}
use Rattle.std.proofs.lemmas.List.{append_assoc, take_all, take_more, take_more_set, map-append, length-map, length-set}
use Rattle.std.proofs.Math.ListN.{set, get_or-map as get_or_map}
use Rattle.std.proofs.Math.Seq.{map-set_same}
use Rattle.kfifo_c.specs.AllHandles.{seats_in}
use Rattle.kfifo_c.specs.Behind.{Behind, Items, Values, Cells, cells_found, cells_in, items_found, items_in, kind_of}
use Rattle.kfifo_c.specs.Behind.{values_found, values_in}
use Rattle.kfifo_c.specs.CellSeats.{CellSeated}
use Rattle.kfifo_c.specs.Handles.{IsClosed, WereClosed, all_fields, behind, fields_of}
use Rattle.kfifo_c.specs.Seats.{Seated}
use Rattle.kfifo_c.specs.ValueSeats.{ValueSeated}
use Rattle.kfifo_c.specs.declared.handle.Handle.{Handle}
use Rattle.kfifo_c.proofs.ByKind.{cells_kind, is_kind, items_kind, same_kind, values_kind}
use Rattle.kfifo_c.proofs.Passes.{reverse_mapped}

-- a kind of handles: how a seat of the kind stands behind one, its number, and how a handle is read as one of the kind
pub record Kind (S : Type 0) : Type 0 where
  pub seat : S → Behind
  pub own : ℕ
  pub read : Option Behind → Option S
  pub found : (o : Option Behind) → kind_of o ≡ own → (s : S) × (o ≡ Some (seat s))
  pub reads : (s : S) → read (Some (seat s)) ≡ Some s
  pub kinds : (o : Option Behind) (s : S) → read o ≡ Some s → kind_of o ≡ own

abbrev pub items : Kind Seated
items = record { seat = Items; own = 1; read = items_in; found = items_found; reads = λ s. refl; kinds = items_kind }

abbrev pub values : Kind ValueSeated
values = record {
  seat = Values;
  own = 2;
  read = values_in;
  found = values_found;
  reads = λ s. refl;
  kinds = values_kind;
}

abbrev pub cells : Kind CellSeated
cells = record { seat = Cells; own = 3; read = cells_in; found = cells_found; reads = λ s. refl; kinds = cells_kind }

-- a handle gets back what was behind it
pub put_back : (hs : List Handle) (i : ℕ) (h d : Handle) → h.held.value ≡ (get_or hs i d).held.value
    → behind (set hs i h) ≡ behind hs
put_back hs i h d e = map-set_same (λ handle. handle.held.value) hs i h d e

-- and the fields stay as they were
pub same_fields : (hs : List Handle) (i : ℕ) (h d : Handle) → fields_of h ≡ fields_of (get_or hs i d)
    → all_fields (set hs i h) ≡ all_fields hs
same_fields hs i h d e = map-set_same (λ handle. fields_of handle) hs i h d e

-- a seat that is taken from the end of a list and put behind the next handle
pub put_more : {S B : Type 0} (kind : S → Behind) (f : B → S) (hs : List Handle) (i : ℕ) (h : Handle) (rest : List B)
    (b : B) (all : List (Option Behind)) → i < length hs → h.held.value ≡ Some (kind (f b))
    → behind (take i hs) ++ map (λ s. Some (kind s)) (reverse (map f (rest ++ b ∷ []))) ≡ all
    → behind (take (i + 1) (set hs i h)) ++ map (λ s. Some (kind s)) (reverse (map f rest)) ≡ all
put_more {S} {B} kind f hs i h rest b all below is e =
    let left : List (Option Behind) = map (λ s. Some (kind s)) (reverse (map f rest)) in
    ap (λ (l : List Handle). behind l ++ left) (take_more_set hs i h below)
    ∙ ap (λ (l : List (Option Behind)). l ++ left) (map-append (λ handle. handle.held.value) (take i hs) (h ∷ []))
    ∙ append_assoc (behind (take i hs)) (h.held.value ∷ []) left
    ∙ ap (λ (o : Option Behind). behind (take i hs) ++ (o ∷ left)) is
    ∙ ap (λ (l : List S). behind (take i hs) ++ map (λ s. Some (kind s)) l) (sym (reverse_mapped f rest b)) ∙ e

module _ {S : Type 0} (k : Kind S) where
  -- handles with seats of the kind, read
  pub read_seats : (ss : List S) → map k.read (map (λ s. Some (k.seat s)) ss) ≡ map Some ss
  read_seats [] = refl
  read_seats (s ∷ ss) = ap (λ o. o ∷ map k.read (map (λ x. Some (k.seat x)) ss)) (k.reads s)
      ∙ ap (λ l. Some s ∷ l) (read_seats ss)

  -- the next handle of a list
  pub next_behind : (hs : List Handle) (i : ℕ) (d : Handle) (o : Option S) → i < length hs
      → k.read (get_or hs i d).held.value ≡ o
      → take (i + 1) (map k.read (behind hs)) ≡ take i (map k.read (behind hs)) ++ o ∷ []
  next_behind hs i d o below is =
      let all = map k.read (behind hs) in
      let many : length all ≡ length hs = length-map (behind hs) k.read ∙ length-map hs (λ handle. handle.held.value) in
      take_more all i (k.read d.held.value) (omega (arith, many, below))
      ∙ ap (λ (x : Option S). take i all ++ x ∷ []) (get_or_map k.read (behind hs) i d.held.value
      ∙ ap k.read (get_or_map (λ handle. handle.held.value) hs i d) ∙ is)

  -- the test of all handles: what is behind them are seats of the kind
  pub each_open : (hs : List Handle) → list_all (λ handle. handle.kind == k.own) hs ≡ true
      → (ss : List S) × (behind hs ≡ map (λ s. Some (k.seat s)) ss)
  each_open [] e = ([], refl)
  each_open (h ∷ hs) e =
      let each : ((h.kind == k.own) ≡ true) × (list_all (λ handle. handle.kind == k.own) hs ≡ true) =
      search (rules, e) in
      let here = k.found h.held.value (sym h.kind_is ∙ same_kind h.kind k.own each.0) in
      let there = each_open hs each.1 in
      (here.0 ∷ there.0, ap (λ o. o ∷ behind hs) here.1 ∙ ap (λ l. Some (k.seat here.0) ∷ l) there.1)

  pub all_pass : (hs : List Handle) (ss : List S) → map k.read (behind hs) ≡ map Some ss
      → list_all (λ handle. handle.kind == k.own) hs ≡ true
  all_pass [] ss e = refl
  all_pass (h ∷ hs) [] e = search (rules, e)
  all_pass (h ∷ hs) (s ∷ ss) e =
      let each : (k.read h.held.value ≡ Some s) × (map k.read (behind hs) ≡ map Some ss) = search (rules, e) in
      ap (λ (b : Bool). b && list_all (λ handle. handle.kind == k.own) hs)
      (is_kind h.kind k.own (h.kind_is ∙ k.kinds h.held.value s each.0))
      ∙ all_pass hs ss each.1

  -- a handle of those that pass the test
  pub open_at : (hs : List Handle) (i : ℕ) (d : Handle) → list_all (λ handle. handle.kind == k.own) hs ≡ true
      → i < length hs → (s : S) × ((get_or hs i d).held.value ≡ Some (k.seat s))
  open_at [] i d e below = absurd (omega arith)
  open_at (h ∷ hs) zero d e below =
      let each : ((h.kind == k.own) ≡ true) × (list_all (λ handle. handle.kind == k.own) hs ≡ true) =
      search (rules, e) in
      k.found h.held.value (sym h.kind_is ∙ same_kind h.kind k.own each.0)
  open_at (h ∷ hs) (suc i) d e below =
      let each : ((h.kind == k.own) ≡ true) × (list_all (λ handle. handle.kind == k.own) hs ≡ true) =
      search (rules, e) in
      open_at hs i d each.1 (omega arith)

  -- the first of handles that pass the test
  take_pass : (hs : List Handle) (i : ℕ) → list_all (λ handle. handle.kind == k.own) hs ≡ true
      → list_all (λ handle. handle.kind == k.own) (take i hs) ≡ true
  take_pass [] zero e = refl
  take_pass [] (suc i) e = refl
  take_pass (h ∷ hs) zero e = refl
  take_pass (h ∷ hs) (suc i) e =
      let each : ((h.kind == k.own) ≡ true) × (list_all (λ handle. handle.kind == k.own) hs ≡ true) =
      search (rules, e) in
      ap (λ (b : Bool). b && list_all (λ handle. handle.kind == k.own) (take i hs)) each.0 ∙ take_pass hs i each.1

  -- what is behind handles, one handle more
  behind_more : (hs : List Handle) (ss : List S) (h : Handle) (s : S) → behind hs ≡ map (λ x. Some (k.seat x)) ss
      → h.held.value ≡ Some (k.seat s) → behind (hs ++ h ∷ []) ≡ map (λ x. Some (k.seat x)) (ss ++ s ∷ [])
  behind_more hs ss h s are is =
      map-append (λ handle. handle.held.value) hs (h ∷ [])
      ∙ ap (λ (l : List (Option Behind)). l ++ h.held.value ∷ []) are
      ∙ ap (λ (o : Option Behind). map (λ x. Some (k.seat x)) ss ++ o ∷ []) is
      ∙ sym (map-append (λ x. Some (k.seat x)) ss (s ∷ []))

  -- the last of these handles, before and after a change of its seat
  pub record Last (hs : List Handle) (i : ℕ) (h : Handle) (was is : S) : Type 0 where
    pub others : List S
    pub before : behind hs ≡ map (λ s. Some (k.seat s)) (others ++ was ∷ [])
    pub after : behind (set hs i h) ≡ map (λ s. Some (k.seat s)) (others ++ is ∷ [])
    pub count : length (behind (set hs i h)) ≡ length hs

  pub last_step : (hs : List Handle) (i : ℕ) (h d : Handle) (was is : S)
      → list_all (λ handle. handle.kind == k.own) hs ≡ true → i + 1 ≡ length hs
      → (get_or hs i d).held.value ≡ Some (k.seat was)
      → h.held.value ≡ Some (k.seat is) → Last hs i h was is
  last_step hs i h d was is pass whole there here =
      let below : i < length hs = omega arith in
      let many = length-set hs i h in
      let front = each_open (take i hs) (take_pass hs i pass) in
      let old : hs ≡ take i hs ++ get_or hs i d ∷ [] = sym (take_all (i + 1) hs (omega arith))
      ∙ take_more hs i d below in
      let new : set hs i h ≡ take i hs ++ h ∷ [] = sym (take_all (i + 1) (set hs i h) (omega arith))
      ∙ take_more_set hs i h below in
      record {
        others = front.0;
        before = ap behind old ∙ behind_more (take i hs) front.0 (get_or hs i d) was front.1 there;
        after = ap behind new ∙ behind_more (take i hs) front.0 h is front.1 here;
        count = length-map (set hs i h) (λ handle. handle.held.value) ∙ many;
      }

  -- handles that were all open are all closed
  kind_at : (olds : List Handle) (ss : List S) (i : ℕ) (d : Handle) → map k.read (behind olds) ≡ map Some ss
      → i < length olds
      → (get_or olds i d).kind ≡ k.own
  kind_at [] ss i d e below = absurd (omega arith)
  kind_at (h ∷ olds) [] i d e below = search (rules, e)
  kind_at (h ∷ olds) (s ∷ ss) zero d e below =
      let each : (k.read h.held.value ≡ Some s) × (map k.read (behind olds) ≡ map Some ss) = search (rules, e) in
      h.kind_is ∙ k.kinds h.held.value s each.0
  kind_at (h ∷ olds) (s ∷ ss) (suc i) d e below =
      let each : (k.read h.held.value ≡ Some s) × (map k.read (behind olds) ≡ map Some ss) = search (rules, e) in
      kind_at olds ss i d each.1 (omega arith)

  pub all_closed : (olds news : List Handle) (ss : List S) → map k.read (behind olds) ≡ map Some ss
      → WereClosed k.own olds news
      → All IsClosed news
  all_closed olds news ss are closed = λ i d below.
      let same = closed.0 in let under : i < length olds = omega (arith, below, same) in
      (closed.1 i d under).0 (kind_at olds ss i d are under)

-- the seats of a list
module _ {S : Type 0} where
  pub seats_more : (os : List (Option S)) (s : S) → seats_in (os ++ Some s ∷ []) ≡ seats_in os ++ s ∷ []
  seats_more [] s = refl
  seats_more (None ∷ os) s = seats_more os s
  seats_more (Some x ∷ os) s = ap (λ l. x ∷ l) (seats_more os s)

  pub seats_same : (os : List (Option S)) → seats_in (os ++ None ∷ []) ≡ seats_in os
  seats_same [] = refl
  seats_same (None ∷ os) = seats_same os
  seats_same (Some x ∷ os) = ap (λ l. x ∷ l) (seats_same os)

  pub seats_of : (ss : List S) → seats_in (map Some ss) ≡ ss
  seats_of [] = refl
  seats_of (s ∷ ss) = ap (λ l. s ∷ l) (seats_of ss)

  -- a list has one last element
  abbrev last_or : S → List S → S
  last_or d [] = d
  last_or d (x ∷ xs) = last_or x xs

  last_is : (d : S) (xs : List S) (x : S) → last_or d (xs ++ x ∷ []) ≡ x
  last_is d [] x = refl
  last_is d (y ∷ xs) x = last_is y xs x

  pub one_last : (a b : List S) (x y : S) → a ++ x ∷ [] ≡ b ++ y ∷ [] → x ≡ y
  one_last a b x y e = sym (last_is x a x) ∙ ap (last_or x) e ∙ last_is x b y
