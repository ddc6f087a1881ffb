-- The slots of a segment that a scan looks at, in the two rows in which they stand side by side.
use Rattle.std.proofs.Common.{◌≡◌, ◌≢◌, ℕ, ◌+◌, ◌-◌, ◌*◌, ◌%◌, ◌^◌, ◌<◌, ◌≤◌, ap, subst, ◌∙◌, sym, refl, arith, Option}
use Rattle.std.proofs.Common.{Bool, true, false, cond, eq-eqb, ne_eqb}
use Rattle.std.specs.Prelude.{◌==◌}
use Rattle.std.proofs.lemmas.Bool.Decides.{nat_tests}
use Rattle.std.proofs.Math.Nat.{mod-eq_of_lt, add-mod_left, mul-le-mul_right}
use Rattle.kfifo_live.proofs.Types.{Shape, View}
use Rattle.kfifo_words.specs.Ring.{slot_at}
use Rattle.kfifo_machine.specs.Program.{advance, scan_index}
use Rattle.kfifo_machine.specs.declared.place.Found.{Found}
use Rattle.kfifo_machine.specs.declared.place.Found.TheVariants.{Slot, Nothing}
use Rattle.kfifo_machine.specs.declared.place.Next.TheVariants.{Goes}
use Rattle.atomic_table.specs.declared.shared.Seat.{Seat}
use Rattle.kfifo_live.specs.declared.ring.Ring.{Ring}
use Rattle.kfifo_live.specs.Step.{Stands, Onward}
use Rattle.kfifo_live.specs.Scans.{Scan, Row, after_row}
use Rattle.kfifo_live.proofs.CompleteExecutions.{onward_here}

-- the indexes of a segment's slots are far below 2^32
pub below_all : (shape : Shape) (segment : ℕ) → segment < shape.n → slot_at shape.k segment 0 + shape.k < 2 ^ 32
below_all shape segment inside =
    let few : segment * shape.k ≤ 1024 * shape.k =
    mul-le-mul_right shape.k (let s = shape.few_segments in omega arith) in
    let k = shape.few_slots in
    omega arith

-- the slot at which a scan begins
pub starts_at : (shape : Shape) (segment start origin index : ℕ) → origin ≡ slot_at shape.k segment 0
    → index ≡ origin + start
    → start < shape.k → scan_index shape segment start 0 ≡ index
unfolding scan_index
starts_at shape segment start origin index at is within =
    let here : (start + 0) % shape.k ≡ start = ap (λ n. n % shape.k) (let e : start + 0 ≡ start = omega arith in e)
    ∙ mod-eq_of_lt within in
    omega (arith, at, is, here)

-- the slots behind it, as far as the end of the segment
pub upper_each : (shape : Shape) (segment start origin first count : ℕ) → origin ≡ slot_at shape.k segment 0
    → first ≡ (origin + start) + 1
    → start + 1 + count ≤ shape.k
    → (i : ℕ) → i < count → scan_index shape segment start (1 + i) ≡ first + i
unfolding scan_index
upper_each shape segment start origin first count at is fits i less =
    let here : (start + (1 + i)) % shape.k ≡ start + (1 + i) = mod-eq_of_lt (omega arith) in
    omega (arith, at, is, here)

abbrev pub upper_row : {shape : Shape} {stops : ℕ → Bool} {segment start limit : ℕ}
    → Scan shape stops segment start limit
    → (origin first count : ℕ) → origin ≡ slot_at shape.k segment 0 → first ≡ (origin + start) + 1 → segment < shape.n
    → start + 1 + count ≤ shape.k → 0 < count → 1 + count ≤ limit → Row shape stops first count
upper_row {shape} {stops} {segment} {start} {limit} scan origin first count at is inside fits some within = record {
  segment = segment;
  start = start;
  limit = limit;
  scan = scan;
  offset = 1;
  some = some;
  below = (let b = below_all shape segment inside in omega (arith, at, is, b));
  within = within;
  each = upper_each shape segment start origin first count at is fits;
}

-- the slots before the start, which come behind those
pub lower_each : (shape : Shape) (segment start first count offset : ℕ) → first ≡ slot_at shape.k segment 0
    → start + offset ≡ shape.k
    → count ≤ start → start < shape.k
    → (i : ℕ) → i < count → scan_index shape segment start (offset + i) ≡ first + i
unfolding scan_index
lower_each shape segment start first count offset at upper few below i less =
    let round : start + (offset + i) ≡ shape.k + i = omega arith in
    let here : (start + (offset + i)) % shape.k ≡ i = ap (λ n. n % shape.k) round ∙ add-mod_left shape.k i
    ∙ mod-eq_of_lt (omega arith) in
    omega (arith, at, here)

abbrev pub lower_row : {shape : Shape} {stops : ℕ → Bool} {segment start limit : ℕ}
    → Scan shape stops segment start limit
    → (first count offset : ℕ) → first ≡ slot_at shape.k segment 0 → segment < shape.n → start < shape.k
    → start + offset ≡ shape.k
    → 0 < count → offset + count ≡ limit → limit ≤ shape.k → Row shape stops first count
lower_row {shape} {stops} {segment} {start} {limit} scan first count offset at inside below upper some all few =
    record {
      segment = segment;
      start = start;
      limit = limit;
      scan = scan;
      offset = offset;
      some = some;
      below = (let b = below_all shape segment inside in omega (arith, at, b));
      within = omega arith;
      each = lower_each shape segment start first count offset at upper (omega arith) below;
    }

-- the slot of a row at an index
pub row_at : {shape : Shape} {stops : ℕ → Bool} {first count : ℕ} → (row : Row shape stops first count) → (index : ℕ)
    → first ≤ index
    → index < first + count
    → scan_index shape row.segment row.start (row.offset + (index - first)) ≡ index
row_at {shape} {stops} {first} {count} row index from inside =
    row.each (index - first) (omega arith) ∙ (let e : first + (index - first) ≡ index = omega arith in e)

-- a look at it: the slot is found
pub row_found : {shape : Shape} {stops : ℕ → Bool} {first count : ℕ} → (row : Row shape stops first count)
    → (index word : ℕ)
    → first ≤ index → index < first + count → stops word ≡ true
    → advance shape (row.scan.looking (row.offset + (index - first))) word ≡ after_row row (Slot index word)
row_found row index word from inside wanted =
    row.scan.is_scan.finds _ word wanted ∙ ap (λ n. row.scan.leads (Slot n word)) (row_at row index from inside)

-- or the scan goes on to the next one
pub row_goes_on : {shape : Shape} {stops : ℕ → Bool} {first count : ℕ} → (row : Row shape stops first count)
    → (index word : ℕ)
    → first ≤ index → index + 1 < first + count → stops word ≡ false
    → advance shape (row.scan.looking (row.offset + (index - first))) word
    ≡ Goes (row.scan.looking (row.offset + ((index + 1) - first)))
row_goes_on {shape} {stops} {first} {count} row index word from inside vain =
    let within = row.within in
    row.scan.is_scan.goes_on _ word vain (λ last. omega arith)
    ∙ ap (λ n. Goes (row.scan.looking n)) (let e : (row.offset + (index - first)) + 1
    ≡ row.offset + ((index + 1) - first) = omega arith in e)

-- or it was the last of the row
pub row_over : {shape : Shape} {stops : ℕ → Bool} {first count : ℕ} → (row : Row shape stops first count)
    → (index word : ℕ) → first ≤ index
    → index + 1 ≡ first + count → stops word ≡ false
    → advance shape (row.scan.looking (row.offset + (index - first))) word ≡ after_row row Nothing
row_over {shape} {stops} {first} {count} row index word from last vain = ends (row.offset + count == row.limit) refl
  where
    next : (row.offset + (index - first)) + 1 ≡ row.offset + count
    next = omega arith

    ends : (b : Bool) → (row.offset + count == row.limit) ≡ b
        → advance shape (row.scan.looking (row.offset + (index - first))) word
        ≡ cond b (row.scan.leads Nothing) (Goes (row.scan.looking (row.offset + count)))
    ends true is =
        row.scan.is_scan.is_over _ word vain
        (next ∙ (let e : row.offset + count ≡ row.limit = grind (arith, nat_tests) in e))
    ends false is = row.scan.is_scan.goes_on _ word vain
        (λ same. let e : row.offset + count ≢ row.limit = grind (arith, nat_tests) in e (sym next ∙ same))
        ∙ ap (λ n. Goes (row.scan.looking n)) next

-- where all slots were seen, the last row leads on
pub row_ends : {shape : Shape} {stops : ℕ → Bool} {first count : ℕ} → (row : Row shape stops first count)
    → row.offset + count ≡ row.limit
    → (found : Found) → after_row row found ≡ row.scan.leads found
row_ends row all (Slot index word) = refl
row_ends {shape} {stops} {first} {count} row all Nothing =
    ap (λ b. cond b (row.scan.leads Nothing) (Goes (row.scan.looking (row.offset + count))))
    (eq-eqb (row.offset + count) row.limit all)

-- and else the scan goes on behind it
pub row_left : {shape : Shape} {stops : ℕ → Bool} {first count : ℕ} → (row : Row shape stops first count)
    → row.offset + count < row.limit
    → after_row row Nothing ≡ Goes (row.scan.looking (row.offset + count))
row_left {shape} {stops} {first} {count} row less =
    ap (λ b. cond b (row.scan.leads Nothing) (Goes (row.scan.looking (row.offset + count))))
    (ne_eqb (row.offset + count) row.limit (λ same. omega arith))

-- before the first slot of a row the scan stands at it
pub onward_first : {T : Type 0} {ring : Ring T} {stops : ℕ → Bool} {seat : Seat (Option T) (View T)} {first count : ℕ}
    → (row : Row ring.shape.now stops first count) → Stands ring seat (row.scan.looking row.offset)
    → Onward ring seat (row.scan.looking (row.offset + (first - first))) seat
onward_first {T} {ring} {stops} {seat} {first} row stands =
    let e : row.offset ≡ row.offset + (first - first) = omega arith in
    onward_here (subst (λ (n : ℕ). Stands ring seat (row.scan.looking n)) e stands)
