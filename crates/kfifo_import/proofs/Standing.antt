-- A reader of rows takes a byte more, or a run of bytes.
use Rattle.std.proofs.Common.{ℕ, ◌∷◌, ◌++◌, ◌≡◌, ◌≢◌, ◌∙◌, ◌+◌, ◌-◌, ◌<◌, ◌≤◌, ◌==◌, ◌||◌, true, false, Bool, List, []}
use Rattle.std.proofs.Common.{None, Some, drop, take, length, refl, sym, ap, subst, arith, add-one, append_assoc}
use Rattle.std.proofs.Common.{append-nil, get_or, cond, drop-cons, get_or-drop, inl, inr, length-drop}
use Rattle.std.specs.Prelude.{◌⊎◌}
use Rattle.std.proofs.lemmas.Bool.{eqb-true}
use Rattle.std.proofs.lemmas.List.{drop-drop, take-append-drop, take_more}
use Rattle.std.proofs.lemmas.List.Sums.{sum_by-take-drop}
use Rattle.csv.specs.Machine.{next_record}
use Rattle.csv.specs.Reading.{default_config}
use Rattle.csv.specs.declared.parser.State.TheVariants as st
use Rattle.kfifo_import.specs.Rows.{behind_ends, first_row, line_feeds}
use Rattle.kfifo_import.specs.Spots.{ArePlain, IsMarked, MayBePlain, StandsAt, TakesTo, ends_field, ends_line}
use Rattle.kfifo_import.specs.Spots.{part}
use Rattle.kfifo_import.specs.declared.walk.RowReader.{RowReader}
use Rattle.kfifo_import.specs.declared.walk.Spot.{Spot}
use Rattle.kfifo_import.specs.declared.walk.Spot.TheVariants as spots

-- ---- the machine

-- between rows, the end of a line
skips : (fields : List (List ℕ)) (bytes : List ℕ) (c : ℕ) (left : List ℕ) → ends_line c ≡ true
    → next_record default_config st.StartRecord fields bytes (c ∷ left)
    ≡ next_record default_config st.StartRecord fields bytes left
unfolding next_record
skips fields bytes c left e = rw e refl

-- the first byte of a row is that of its first field
begins_field : (fields : List (List ℕ)) (bytes : List ℕ) (c : ℕ) (left : List ℕ) → ends_line c ≡ false
    → next_record default_config st.StartRecord fields bytes (c ∷ left)
    ≡ next_record default_config st.StartField fields bytes (c ∷ left)
unfolding next_record
begins_field fields bytes c left e = rw e refl

-- a first byte that is no quotation mark is as one further on
first_plain : (fields : List (List ℕ)) (bytes : List ℕ) (c : ℕ) (left : List ℕ) → (c == 34) ≡ false
    → next_record default_config st.StartField fields bytes (c ∷ left)
    ≡ next_record default_config st.InField fields bytes (c ∷ left)
unfolding next_record
first_plain fields bytes c left e = rw e refl

-- so is one behind a quotation mark
quote_plain : (fields : List (List ℕ)) (bytes : List ℕ) (c : ℕ) (left : List ℕ) → (c == 34) ≡ false
    → next_record default_config st.AfterQuote fields bytes (c ∷ left)
    ≡ next_record default_config st.InField fields bytes (c ∷ left)
unfolding next_record
quote_plain fields bytes c left e = rw e refl

one_plain : (fields : List (List ℕ)) (bytes : List ℕ) (c : ℕ) (left : List ℕ) → ends_field c ≡ false
    → next_record default_config st.InField fields bytes (c ∷ left)
    ≡ next_record default_config st.InField fields (bytes ++ c ∷ []) left
unfolding next_record
one_plain fields bytes c left e = by (c == 44) (c == 13) (c == 10) refl refl refl e
  where
    by : (x y z : Bool) → (c == 44) ≡ x → (c == 13) ≡ y → (c == 10) ≡ z → (x || (y || z)) ≡ false
        → next_record default_config st.InField fields bytes (c ∷ left)
        ≡ next_record default_config st.InField fields (bytes ++ c ∷ []) left
    by true y z p q r e = absurd (cc)
    by false true z p q r e = absurd (cc)
    by false false true p q r e = absurd (cc)
    by false false false p q r e = rw (p, q, r) refl

run_plain : (fields : List (List ℕ)) (bytes run left : List ℕ) → ArePlain run
    → next_record default_config st.InField fields bytes (run ++ left)
    ≡ next_record default_config st.InField fields (bytes ++ run) left
unfolding ArePlain
run_plain fields bytes [] left a = ap (λ b. next_record default_config st.InField fields b left)
    (sym (append-nil bytes))
run_plain fields bytes (c ∷ run) left a =
    one_plain fields bytes c (run ++ left) a.0
    ∙ run_plain fields (bytes ++ c ∷ []) run left a.1
    ∙ ap (λ b. next_record default_config st.InField fields b left) (append_assoc bytes (c ∷ []) run)

comma : (fields : List (List ℕ)) (bytes : List ℕ) (c : ℕ) (left : List ℕ) → (c == 44) ≡ true
    → next_record default_config st.InField fields bytes (c ∷ left)
    ≡ next_record default_config st.StartField (fields ++ bytes ∷ []) [] left
unfolding next_record
comma fields bytes c left e = rw e refl

over : (fields : List (List ℕ)) (bytes : List ℕ) (c : ℕ) (left : List ℕ) → (c == 44) ≡ false → ends_line c ≡ true
    → (s : _) × (next_record default_config st.InField fields bytes (c ∷ left) ≡ Some (fields ++ bytes ∷ [], s, left))
unfolding next_record
over fields bytes c left e line = by (c == 13) (c == 10) refl refl line
  where
    by : (y z : Bool) → (c == 13) ≡ y → (c == 10) ≡ z → (y || z) ≡ true
        → (s : _) × (next_record default_config st.InField fields bytes (c ∷ left)
        ≡ Some (fields ++ bytes ∷ [], s, left))
    by true z p q l = (st.AfterCr, rw (e, p) refl)
    by false true p q l = (st.StartRecord, rw (e, p, q) refl)
    by false false p q l = absurd (cc)

-- ---- lines

feeds_cons : (c : ℕ) (left : List ℕ) → line_feeds (c ∷ left) ≡ line_feeds (c ∷ []) + line_feeds left
feeds_cons c left = sym (sum_by-take-drop (λ byte. cond (byte == 10) 1 0) (c ∷ left) 1)

-- a byte that ends no field ends no line
no_feed : (c : ℕ) → ends_field c ≡ false → line_feeds (c ∷ []) ≡ 0
no_feed c e = by (c == 44) (c == 13) (c == 10) refl refl refl e
  where
    by : (x y z : Bool) → (c == 44) ≡ x → (c == 13) ≡ y → (c == 10) ≡ z → (x || (y || z)) ≡ false
        → line_feeds (c ∷ []) ≡ 0
    by true y z p q r e = absurd (cc)
    by false true z p q r e = absurd (cc)
    by false false true p q r e = absurd (cc)
    by false false false p q r e = rw r refl

-- nor does a quotation mark or a comma
other_feed : (c n : ℕ) → (c == n) ≡ true → n ≢ 10 → line_feeds (c ∷ []) ≡ 0
other_feed c n e other = by (c == 10) refl
  where
    by : (z : Bool) → (c == 10) ≡ z → line_feeds (c ∷ []) ≡ 0
    by true r = absurd (other (sym (eqb-true c n e) ∙ eqb-true c 10 r))
    by false r = rw r refl

run_feeds : (run left : List ℕ) → ArePlain run → line_feeds (run ++ left) ≡ line_feeds left
unfolding ArePlain
run_feeds [] left a = refl
run_feeds (c ∷ run) left a =
    let here = feeds_cons c (run ++ left) in
    let none = no_feed c a.0 in
    let more = run_feeds run left a.1 in
    omega (arith, here, none, more)

ends_front : (c : ℕ) (left : List ℕ) → ends_line c ≡ false → behind_ends (c ∷ left) ≡ c ∷ left
unfolding behind_ends
ends_front c left e = rw e refl

ends_more : (c : ℕ) (left : List ℕ) → ends_line c ≡ true → behind_ends (c ∷ left) ≡ behind_ends left
unfolding behind_ends
ends_more c left e = rw e refl

-- ---- a reader

-- nothing was taken
pub fresh : (text : List ℕ) → StandsAt spots.Row [] [] [] 1 1 text text text
fresh text = record { goes = refl; none = refl; first = omega arith; counts = omega arith; begins = refl }

-- the row behind one that has ended
pub goes_on : (fields : List (List ℕ)) (some bytes : List ℕ) (line front : ℕ) (text rest left : List ℕ)
    → StandsAt spots.Over fields some bytes line front text rest left
    → StandsAt spots.Row [] [] bytes line front text left left
goes_on fields some bytes line front text rest left s = record {
  goes = ap (λ b. next_record default_config st.StartRecord [] b left) (sym s.goes.2);
  none = refl;
  first = s.first;
  counts = s.counts;
  begins = refl;
}

-- a row begins
pub begins : (fields : List (List ℕ)) (some bytes : List ℕ) (line front c : ℕ) (text rest left : List ℕ)
    → ends_line c ≡ false
    → StandsAt spots.Row fields some bytes line front text rest (c ∷ left)
    → StandsAt spots.Field fields some bytes line line text rest (c ∷ left)
begins fields some bytes line front c text rest left e s =
    let counts = s.counts in
    let front : line_feeds (behind_ends rest) ≡ line_feeds (c ∷ left) =
    ap line_feeds (s.begins ∙ ends_front c left e) in
    record {
      goes = s.goes ∙ begins_field fields bytes c left e;
      none = s.none;
      first = s.first;
      counts = s.counts;
      begins = (s.first, omega (arith, counts, front));
    }

-- the end of an empty line
pub skipped : (fields : List (List ℕ)) (some bytes : List ℕ) (line front c : ℕ) (text rest left : List ℕ)
    → ends_line c ≡ true
    → StandsAt spots.Row fields some bytes line front text rest (c ∷ left)
    → StandsAt spots.Row fields some bytes (line + line_feeds (c ∷ [])) front text rest left
skipped fields some bytes line front c text rest left e s =
    let counts = s.counts in let first = s.first in let cons = feeds_cons c left in
    record {
      goes = s.goes ∙ skips fields bytes c left e;
      none = s.none;
      first = omega (arith, first);
      counts = omega (arith, counts, cons);
      begins = s.begins ∙ ends_more c left e;
    }

-- a quotation mark in front of a field
pub opened : (fields : List (List ℕ)) (some bytes : List ℕ) (line front c : ℕ) (text rest left : List ℕ)
    → (c == 34) ≡ true
    → StandsAt spots.Field fields some bytes line front text rest (c ∷ left)
    → StandsAt spots.Quoted fields some bytes line front text rest left
unfolding next_record
opened fields some bytes line front c text rest left e s =
    let counts = s.counts in let cons = feeds_cons c left in let none = other_feed c 34 e (λ k. absurd (cc)) in
    record {
      goes = s.goes ∙ rw e refl;
      none = s.none;
      first = s.first;
      counts = omega (arith, counts, cons, none);
      begins = s.begins;
    }

-- one that may be the last
pub quoted : (fields : List (List ℕ)) (some bytes : List ℕ) (line front c : ℕ) (text rest left : List ℕ)
    → (c == 34) ≡ true
    → StandsAt spots.Quoted fields some bytes line front text rest (c ∷ left)
    → StandsAt spots.Quote fields some bytes line front text rest left
unfolding next_record
quoted fields some bytes line front c text rest left e s =
    let counts = s.counts in let cons = feeds_cons c left in let none = other_feed c 34 e (λ k. absurd (cc)) in
    record {
      goes = s.goes ∙ rw e refl;
      none = s.none;
      first = s.first;
      counts = omega (arith, counts, cons, none);
      begins = s.begins;
    }

-- a byte between quotation marks
pub inside : (fields : List (List ℕ)) (some bytes : List ℕ) (line front c : ℕ) (text rest left : List ℕ)
    → (c == 34) ≡ false
    → StandsAt spots.Quoted fields some bytes line front text rest (c ∷ left)
    → StandsAt spots.Quoted fields some (bytes ++ c ∷ []) (line + line_feeds (c ∷ [])) front text rest left
unfolding next_record
inside fields some bytes line front c text rest left e s =
    let counts = s.counts in let first = s.first in let cons = feeds_cons c left in
    record {
      goes = s.goes ∙ rw e refl;
      none = s.none;
      first = omega (arith, first);
      counts = omega (arith, counts, cons);
      begins = s.begins;
    }

-- the second of two quotation marks
pub doubled : (fields : List (List ℕ)) (some bytes : List ℕ) (line front c : ℕ) (text rest left : List ℕ)
    → (c == 34) ≡ true
    → StandsAt spots.Quote fields some bytes line front text rest (c ∷ left)
    → StandsAt spots.Quoted fields some (bytes ++ c ∷ []) line front text rest left
unfolding next_record
doubled fields some bytes line front c text rest left e s =
    let counts = s.counts in let cons = feeds_cons c left in let none = other_feed c 34 e (λ k. absurd (cc)) in
    record {
      goes = s.goes ∙ rw e refl;
      none = s.none;
      first = s.first;
      counts = omega (arith, counts, cons, none);
      begins = s.begins;
    }

-- a byte of a field without quotation marks, or one that ends a field
pub settles : (spot : Spot) (fields : List (List ℕ)) (some bytes : List ℕ) (line front c : ℕ) (text rest left : List ℕ)
    → MayBePlain spot c
    → StandsAt spot fields some bytes line front text rest (c ∷ left)
    → StandsAt spots.Plain fields some bytes line front text rest (c ∷ left)
settles spots.Field fields some bytes line front c text rest left may s = record {
  goes = s.goes ∙ first_plain fields bytes c left may;
  none = s.none;
  first = s.first;
  counts = s.counts;
  begins = s.begins;
}
settles spots.Plain fields some bytes line front c text rest left may s = s
settles spots.Quote fields some bytes line front c text rest left may s = record {
  goes = s.goes ∙ quote_plain fields bytes c left may;
  none = s.none;
  first = s.first;
  counts = s.counts;
  begins = s.begins;
}
settles spots.Row fields some bytes line front c text rest left may s = absurd may
settles spots.Quoted fields some bytes line front c text rest left may s = absurd may
settles spots.Over fields some bytes line front c text rest left may s = absurd may

pub runs : (fields : List (List ℕ)) (some bytes : List ℕ) (line front : ℕ) (text rest run left : List ℕ) → ArePlain run
    → StandsAt spots.Plain fields some bytes line front text rest (run ++ left)
    → StandsAt spots.Plain fields some (bytes ++ run) line front text rest left
runs fields some bytes line front text rest run left a s = record {
  goes = s.goes ∙ run_plain fields bytes run left a;
  none = s.none;
  first = s.first;
  counts = ap (λ n. line + n) (sym (run_feeds run left a)) ∙ s.counts;
  begins = s.begins;
}

-- a comma
pub parts : (fields : List (List ℕ)) (some bytes : List ℕ) (line front c : ℕ) (text rest left : List ℕ)
    → (c == 44) ≡ true
    → StandsAt spots.Plain fields some bytes line front text rest (c ∷ left)
    → StandsAt spots.Field (fields ++ bytes ∷ []) [] [] line front text rest left
parts fields some bytes line front c text rest left e s =
    let counts = s.counts in let cons = feeds_cons c left in let none = other_feed c 44 e (λ k. absurd (cc)) in
    record {
      goes = s.goes ∙ comma fields bytes c left e;
      none = refl;
      first = s.first;
      counts = omega (arith, counts, cons, none);
      begins = s.begins;
    }

-- the end of the row
pub closes : (fields : List (List ℕ)) (some bytes : List ℕ) (line front c : ℕ) (text rest left : List ℕ)
    → (c == 44) ≡ false → ends_line c ≡ true
    → StandsAt spots.Plain fields some bytes line front text rest (c ∷ left)
    → StandsAt spots.Over (fields ++ bytes ∷ []) [] [] (line + line_feeds (c ∷ [])) front text rest left
closes fields some bytes line front c text rest left e end s =
    let counts = s.counts in let first = s.first in let cons = feeds_cons c left in
    let o = over fields bytes c left e end in
    record {
      goes = (o.0, s.goes ∙ o.1, refl);
      none = refl;
      first = omega (arith, first);
      counts = omega (arith, counts, cons);
      begins = s.begins;
    }

-- the end of the text
pub ends : (spot : Spot) (fields : List (List ℕ)) (some bytes : List ℕ) (line front : ℕ) (text rest : List ℕ)
    → spot ≢ spots.Row → spot ≢ spots.Over
    → StandsAt spot fields some bytes line front text rest []
    → StandsAt spots.Over (fields ++ bytes ∷ []) [] [] line front text rest []
unfolding next_record
ends spots.Row fields some bytes line front text rest other still s = absurd (other refl)
ends spots.Over fields some bytes line front text rest other still s = absurd (still refl)
ends spots.Field fields some bytes line front text rest other still s = record {
  goes = (st.StartRecord, s.goes, refl);
  none = refl;
  first = s.first;
  counts = s.counts;
  begins = s.begins;
}
ends spots.Plain fields some bytes line front text rest other still s = record {
  goes = (st.StartRecord, s.goes, refl);
  none = refl;
  first = s.first;
  counts = s.counts;
  begins = s.begins;
}
ends spots.Quoted fields some bytes line front text rest other still s = record {
  goes = (st.StartRecord, s.goes, refl);
  none = refl;
  first = s.first;
  counts = s.counts;
  begins = s.begins;
}
ends spots.Quote fields some bytes line front text rest other still s = record {
  goes = (st.StartRecord, s.goes, refl);
  none = refl;
  first = s.first;
  counts = s.counts;
  begins = s.begins;
}

-- between rows there is no row more
pub no_row : (fields : List (List ℕ)) (some bytes : List ℕ) (line front : ℕ) (text rest : List ℕ)
    → StandsAt spots.Row fields some bytes line front text rest [] → first_row rest ≡ None
unfolding next_record
no_row fields some bytes line front text rest s = s.goes

-- the same spot by another name
pub moved : (spot other : Spot) (fields : List (List ℕ)) (some bytes : List ℕ) (line front : ℕ)
    (text rest left : List ℕ) → spot ≡ other
    → StandsAt spot fields some bytes line front text rest left
    → StandsAt other fields some bytes line front text rest left
moved spot other fields some bytes line front text rest left is s =
    subst (λ x. StandsAt x fields some bytes line front text rest left) is s

-- a quotation mark that comes first stands in front of a field
pub first_marked : (spot : Spot) (c : ℕ) → IsMarked spot c → (spot ≡ spots.Field) ⊎ (spot ≡ spots.Plain)
    ⊎ (spot ≡ spots.Over)
    → (spot ≡ spots.Field) × ((c == 34) ≡ true)
first_marked spot c m (inl e) = (e, subst (λ x. IsMarked x c) e m)
first_marked spot c m (inr (inl e)) = absurd (subst (λ x. IsMarked x c) e m)
first_marked spot c m (inr (inr e)) = absurd (subst (λ x. IsMarked x c) e m)

-- ---- parts of a text

pub no_part : (text : List ℕ) (at : ℕ) → ArePlain (part text at at)
unfolding ArePlain
no_part text at = let none : at - at ≡ 0 = omega arith in rw none tt

plain_more : (run : List ℕ) (c : ℕ) → ArePlain run → ends_field c ≡ false → ArePlain (run ++ c ∷ [])
unfolding ArePlain
plain_more [] c a e = (e, tt)
plain_more (x ∷ run) c a e = (a.0, plain_more run c a.1 e)

part_more : (text : List ℕ) (at end : ℕ) → at ≤ end → end < length text
    → part text at (end + 1) ≡ part text at end ++ get_or text end 0 ∷ []
part_more text at end low high =
    let one : end + 1 - at ≡ (end - at) + 1 = omega arith in
    let there : at + (end - at) ≡ end = omega arith in
    let less : end - at < length (drop at text) = omega (arith, length-drop at text) in
    ap (λ n. take n (drop at text)) one ∙ take_more (drop at text) (end - at) 0 less
    ∙ ap (λ v. take (end - at) (drop at text) ++ v ∷ []) (get_or-drop at text (end - at) 0 ∙ ap (λ k. get_or text k 0)
    there)

pub longer_part : (text : List ℕ) (at end : ℕ) → at ≤ end → end < length text → ArePlain (part text at end)
    → ends_field (get_or text end 0) ≡ false → ArePlain (part text at (end + 1))
longer_part text at end low high a e =
    subst ArePlain (sym (part_more text at end low high)) (plain_more (part text at end) (get_or text end 0) a e)

part_split : (text more : List ℕ) (at end : ℕ) → at ≤ end → drop at text ++ more ≡ part text at end
    ++ (drop end text ++ more)
part_split text more at end low =
    let there : at + (end - at) ≡ end = omega arith in
    ap (λ t. t ++ more) (sym (take-append-drop (end - at) (drop at text)))
    ∙ append_assoc (part text at end) (drop (end - at) (drop at text)) more
    ∙ ap (λ t. part text at end ++ (t ++ more)) (drop-drop (end - at) at text ∙ ap (λ n. drop n text) there)

pub next_byte : (text more : List ℕ) (at : ℕ) → at < length text → drop at text ++ more ≡ get_or text at 0
    ∷ (drop (at + 1) text ++ more)
next_byte text more at lt = rw (add-one, drop-cons text at 0 lt) refl

-- a run of bytes without quotation marks
pub run_at : (spot : Spot) (fields : List (List ℕ)) (some bytes : List ℕ) (line front : ℕ)
    (text more whole rest : List ℕ) (at end : ℕ)
    → at < length text → at ≤ end → MayBePlain spot (get_or text at 0) → ArePlain (part text at end)
    → StandsAt spot fields some bytes line front whole rest (drop at text ++ more)
    → StandsAt spots.Plain fields some (bytes ++ part text at end) line front whole rest (drop end text ++ more)
run_at spot fields some bytes line front text more whole rest at end lt low may a s =
    let first = next_byte text more at lt in
    let here : StandsAt spots.Plain fields some bytes line front whole rest
    (get_or text at 0 ∷ (drop (at + 1) text ++ more)) =
    settles spot fields some bytes line front (get_or text at 0) whole rest (drop (at + 1) text ++ more) may
    (subst (λ l. StandsAt spot fields some bytes line front whole rest l) first s) in
    runs fields some bytes line front whole rest (part text at end) (drop end text ++ more) a
    (subst (λ l. StandsAt spots.Plain fields some bytes line front whole rest l)
    (sym first ∙ part_split text more at end low) here)

-- one part and then the next
pub takes_on : (first second third : RowReader) (text : List ℕ) (at here end : ℕ) → TakesTo first second text at here
    → TakesTo second third text here end → TakesTo first third text at end
takes_on first second third text at here end a b = record {
  some = (let x = a.some in let y = b.some in omega (arith, x, y));
  within = b.within;
  taken = λ more whole rest s. b.taken more whole rest (a.taken more whole rest s);
}

-- what ends a field and is no comma ends a line
pub separated : (c : ℕ) → (c == 44) ≡ false → ends_field c ≡ true → ends_line c ≡ true
separated c other e = rw other at e
