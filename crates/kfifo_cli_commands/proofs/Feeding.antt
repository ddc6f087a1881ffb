-- Groups of picks that were fed one after the other.
use Rattle.std.proofs.Common.{◌≡◌, ℕ, suc, ◌+◌, ◌-◌, ◌<◌, ◌≤◌, List, [], ◌∷◌, ◌++◌, length, get_or, take, drop}
use Rattle.std.proofs.Common.{replicate, sym, ap, subst, ◌∙◌, arith, add-one}
use Rattle.std.proofs.lemmas.List.{append_assoc, get_or-append-add, get_or_append_left, length-append, length-replicate}
use Rattle.std.proofs.lemmas.List.{replicate-append-replicate, append-nil, take-append-drop, take-append-le}
use Rattle.std.proofs.lemmas.List.Concat.{flat_map-append, length-flat_map}
use Rattle.std.proofs.Math.Seq.{drop-cons, take-append-add, take-suc}
use Rattle.kfifo_cli_commands.proofs.Types.{Begin, Group, Shape}
use Rattle.kfifo_replay.specs.declared.fault.ReplayFault.{ReplayFault}
use Rattle.kfifo_replay.specs.declared.fault.ReplayFault.TheVariants.{BadPick}
use Rattle.kfifo_replay.specs.Player.{IsRefused, Player, StandsFor, Stops, StopsAt}
use Rattle.kfifo_cli_texts.specs.Picks.{behind, count_of, picks_of}

-- what stands past the end of a list of groups
abbrev pub no_group : Group
no_group = record { thread = 0; count = 0 }

-- the picks of a group
abbrev pub own_of : Group → List ℕ
own_of group = replicate group.count group.thread

-- the groups are those before a place, the one there, and those behind it
cut : (groups : List Group) (i : ℕ) (d : Group) → i < length groups
    → picks_of groups ≡ picks_of (take i groups) ++ (own_of (get_or groups i d) ++ picks_of (drop (suc i) groups))
cut groups i d inside =
    let whole : take i groups ++ get_or groups i d ∷ drop (suc i) groups ≡ groups =
    ap (λ (more : List Group). take i groups ++ more) (sym (drop-cons groups i d inside)) ∙ take-append-drop i groups in
    ap picks_of (sym whole) ∙ flat_map-append own_of (take i groups) (get_or groups i d ∷ drop (suc i) groups)

-- one more group was fed
pub one_more : (groups : List Group) (i : ℕ) (d : Group) (earlier : List ℕ) → i < length groups
    → (earlier ++ picks_of (take i groups)) ++ own_of (get_or groups i d) ≡ earlier ++ picks_of (take (i + 1) groups)
one_more groups i d earlier inside =
    let next : take (i + 1) groups ≡ take i groups ++ get_or groups i d ∷ [] =
    rw add-one (take-suc groups i d inside) in
    let picks : picks_of (take (i + 1) groups) ≡ picks_of (take i groups) ++ picks_of (get_or groups i d ∷ []) =
    ap picks_of next ∙ flat_map-append own_of (take i groups) (get_or groups i d ∷ []) in
    let alone : picks_of (get_or groups i d ∷ []) ≡ own_of (get_or groups i d) = simp append-nil in
    append_assoc earlier (picks_of (take i groups)) (own_of (get_or groups i d))
    ∙ ap (λ (xs : List ℕ). earlier ++ xs) (sym (picks ∙ ap (λ (xs : List ℕ). picks_of (take i groups) ++ xs) alone))

-- as many picks as their counts say
length_of : (groups : List Group) → length (picks_of groups) ≡ count_of groups
length_of groups = length-flat_map own_of groups ∙ simp length-replicate

-- picks that stop within their own part stop within the whole
stops_within : (shape : Shape) (scripts : List (List Begin)) (earlier before own after : List ℕ) (place : ℕ)
    (p : Player)
    → StopsAt shape scripts (earlier ++ before) own place p
    → StopsAt shape scripts earlier (before ++ (own ++ after)) (length before + place) p
stops_within shape scripts earlier before own after place p at =
    let inside = at.within in
    let below : place ≤ length own = omega (arith, inside) in
    let taken : take (length before + place) (before ++ (own ++ after)) ≡ before ++ take place own =
    take-append-add before (own ++ after) place
    ∙ ap (λ (xs : List ℕ). before ++ xs) (take-append-le place own after below) in
    let picks : (earlier ++ before) ++ take place own ≡ earlier
    ++ take (length before + place) (before ++ (own ++ after)) =
    append_assoc earlier before (take place own) ∙ ap (λ (xs : List ℕ). earlier ++ xs) (sym taken) in
    let next : get_or own place 0 ≡ get_or (before ++ (own ++ after)) (length before + place) 0 =
    sym (get_or-append-add before (own ++ after) place 0 ∙ get_or_append_left own after 0 place inside) in
    record {
      within = let one = length-append before (own ++ after) in let two = length-append own after in
          omega (arith, one, two, inside);
      refused = subst (IsRefused shape scripts (earlier ++ take (length before + place) (before ++ (own ++ after))))
          next (subst (λ (xs : List ℕ). IsRefused shape scripts xs (get_or own place 0)) picks at.refused);
      stands = subst (λ (xs : List ℕ). StandsFor shape scripts xs p) picks at.stands;
    }

-- a group that stops stops the groups
pub stops_on : (shape : Shape) (scripts : List (List Begin)) (earlier : List ℕ) (groups : List Group) (i : ℕ)
    (d : Group) (fault : ReplayFault) (p : Player) → i < length groups
    → Stops shape scripts (earlier ++ picks_of (take i groups)) (own_of (get_or groups i d)) fault p
    → Stops shape scripts earlier (picks_of groups) (behind (count_of (take i groups)) fault) p
stops_on shape scripts earlier groups i d fault p inside stops =
    let before = picks_of (take i groups) in
    let sized : length before ≡ count_of (take i groups) = length_of (take i groups) in
    let at : StopsAt shape scripts earlier (before ++ (own_of (get_or groups i d) ++ picks_of (drop (suc i) groups)))
    (length before + stops.0) p =
    stops_within shape scripts earlier before (own_of (get_or groups i d)) (picks_of (drop (suc i) groups)) stops.0 p
    stops.2 in
    let whole : StopsAt shape scripts earlier (picks_of groups) (length before + stops.0) p =
    subst (λ (xs : List ℕ). StopsAt shape scripts earlier xs (length before + stops.0) p) (sym (cut groups i d inside))
    at in (
      count_of (take i groups) + stops.0,
      ap (behind (count_of (take i groups))) stops.1,
      subst (λ n. StopsAt shape scripts earlier (picks_of groups) (n + stops.0) p) sized whole,
    )

-- a piece of a group behind earlier ones was fed
pub piece_more : (earlier : List ℕ) (fed piece thread : ℕ)
    → (earlier ++ replicate fed thread) ++ replicate piece thread ≡ earlier ++ replicate (fed + piece) thread
piece_more earlier fed piece thread =
    append_assoc earlier (replicate fed thread) (replicate piece thread)
    ∙ ap (λ (xs : List ℕ). earlier ++ xs) (replicate-append-replicate fed piece thread)

-- a piece that stops stops its group
pub piece_stops : (shape : Shape) (scripts : List (List Begin)) (earlier : List ℕ) (fed piece count thread : ℕ)
    (fault : ReplayFault) (p : Player) → fed + piece ≤ count
    → Stops shape scripts (earlier ++ replicate fed thread) (replicate piece thread) fault p
    → Stops shape scripts earlier (replicate count thread) (behind fed fault) p
piece_stops shape scripts earlier fed piece count thread fault p within stops =
    let rest = count - (fed + piece) in
    let counts : fed + (piece + rest) ≡ count = omega (arith, within) in
    let whole : replicate fed thread ++ (replicate piece thread ++ replicate rest thread) ≡ replicate count thread =
    ap (λ (xs : List ℕ). replicate fed thread ++ xs) (replicate-append-replicate piece rest thread)
    ∙ (replicate-append-replicate fed (piece + rest) thread ∙ ap (λ n. replicate n thread) counts) in
    let at : StopsAt shape scripts earlier (replicate count thread) (length (replicate fed thread) + stops.0) p =
    subst (λ (xs : List ℕ). StopsAt shape scripts earlier xs (length (replicate fed thread) + stops.0) p) whole
    (stops_within shape scripts earlier (replicate fed thread) (replicate piece thread) (replicate rest thread) stops.0
    p stops.2) in (
      fed + stops.0,
      ap (behind fed) stops.1,
      subst (λ n. StopsAt shape scripts earlier (replicate count thread) (n + stops.0) p)
          (length-replicate fed thread) at,
    )

-- the place of a pick that is refused is within its group
pub place_within : (shape : Shape) (scripts : List (List Begin)) (earlier : List ℕ) (group : Group)
    (fault : ReplayFault) (p : Player) (place : ℕ) → Stops shape scripts earlier (own_of group) fault p
    → fault ≡ BadPick place → place < group.count
place_within shape scripts earlier group fault p place stops is =
    let same : BadPick stops.0 ≡ BadPick place = sym stops.1 ∙ is in
    let places : stops.0 ≡ place = cc in
    let inside = stops.2.within in
    let size = length-replicate group.count group.thread in
    omega (arith, places, inside, size)
