-- What a row that has ended does to what was read of a text.
use Rattle.std.proofs.Common.{ℕ, ◌≡◌, ◌≢◌, ◌∙◌, ◌≤◌, List, [], ◌∷◌, Option, Some, None}
use Rattle.std.proofs.Common.{length, length-append, ap, inl, inr, refl, sym, arith}
use Rattle.kfifo_import.specs.declared.log.ImportFault.{ImportFault}
use Rattle.kfifo_import.specs.declared.log.ImportFault.TheVariants as faults
use Rattle.kfifo_import.specs.declared.log.Line.{Line}
use Rattle.kfifo_import.specs.declared.table.Columns.{Columns}
use Rattle.kfifo_import.specs.declared.walk.Spot.TheVariants as spots
use Rattle.kfifo_import.specs.declared.wrong.WrongField.{WrongField}
use Rattle.kfifo_import.specs.Rows.{IsNextRow, first_row, line_of}
use Rattle.kfifo_import.specs.Spots.{StandsAt}
use Rattle.kfifo_import.specs.Tables.{Holds, IsTextFault}
use Rattle.kfifo_import.specs.Taking.{IsNotTaken, IsWrongIn, Takes, row_at}
use Rattle.kfifo_import.specs.Wrong.{TellsWrong}

-- a row that has ended is the next one, and its line is that in which it began
pub next_row : (fields : List (List ℕ)) (some bytes : List ℕ) (line front : ℕ) (text rest left : List ℕ)
    → StandsAt spots.Over fields some bytes line front text rest left
    → (next : IsNextRow text rest (row_at front fields)) × (next.0.2 ≡ left)
next_row fields some bytes line front text rest left s =
    let begins = s.begins in
    let number : front ≡ line_of text rest = omega (arith, begins) in
    (((fields, s.goes.0, left), s.goes.1, number, refl), refl)

-- a row that is not as wide as the header is the first with a fault
pub too_wide : (most : ℕ) (text rest : List ℕ) (columns : Option Columns) (lines : List Line) (wide : Option ℕ)
    (number width : ℕ) (fields : List (List ℕ))
    → IsNextRow text rest (row_at number fields) → wide ≡ Some width → length fields ≢ width
    → Holds text columns lines wide rest
    → IsTextFault most text (faults.Csv number)
too_wide most text rest None lines wide number width fields next is other h = absurd (cc (is, h.2))
too_wide most text rest (Some columns) lines wide number width fields next is other h =
    let same : width ≡ h.0 = cc (is, h.1) in
    inr (record {
      columns = columns;
      width = h.0;
      lines = lines;
      rest = rest;
      read = h.2;
      row = row_at number fields;
      next = next;
      is = (refl, λ e. other (e ∙ sym same));
    })

-- a text whose first row never begins has no header
pub no_header : (most : ℕ) (text rest : List ℕ) (lines : List Line) (wide : Option ℕ) → first_row rest ≡ None
    → Holds text None lines wide rest
    → IsTextFault most text (faults.Csv 1)
no_header most text rest lines wide none h = inl (inr (ap first_row (sym h.0) ∙ none, refl))

-- ---- one row

-- a row that is not taken is the first with a fault
pub not_taken : (most : ℕ) (text rest : List ℕ) (columns : Option Columns) (lines : List Line) (wide : Option ℕ)
    (number : ℕ) (fields : List (List ℕ)) (fault : ImportFault)
    → IsNextRow text rest (row_at number fields) → ((width : ℕ) → wide ≡ Some width → length fields ≡ width)
    → length lines ≤ most
    → Holds text columns lines wide rest → IsNotTaken most columns lines number fields fault
    → IsTextFault most text fault
not_taken most text rest columns lines wide number fields faults.Memory next same few h f = tt
not_taken most text rest None lines wide number fields (faults.Csv n) next same few h f =
    inl (inl (
      row_at number fields,
      (next.0, ap first_row (sym h.0) ∙ next.1, next.2 ∙ ap (line_of text) h.0, next.3),
      f.0,
      f.1,
    ))
not_taken most text rest (Some columns) lines wide number fields faults.TooMany next same few h f = record {
  columns = columns;
  width = h.0;
  lines = lines;
  rest = rest;
  read = h.2;
  row = row_at number fields;
  next = next;
  is = (same h.0 h.1, omega (arith, few, f));
}
not_taken most text rest (Some columns) lines wide number fields (faults.NotACall n) next same few h f = record {
  columns = columns;
  width = h.0;
  lines = lines;
  rest = rest;
  read = h.2;
  row = row_at number fields;
  next = next;
  is = (f.0, same h.0 h.1, f.1, f.2);
}
not_taken most text rest None lines wide number fields faults.TooMany next same few h f = absurd f
not_taken most text rest None lines wide number fields (faults.NotACall n) next same few h f = absurd f
not_taken most text rest None lines wide number fields (faults.NumberOutOfRange n) next same few h f = absurd f
not_taken most text rest None lines wide number fields (faults.WrongAnswer n) next same few h f = absurd f
not_taken most text rest None lines wide number fields (faults.EndsEarly n) next same few h f = absurd f
not_taken most text rest None lines wide number fields (faults.Overlap n) next same few h f = absurd f
not_taken most text rest (Some columns) lines wide number fields (faults.Csv n) next same few h f = absurd f
not_taken most text rest (Some columns) lines wide number fields (faults.NumberOutOfRange n) next same few h f =
    absurd f
not_taken most text rest (Some columns) lines wide number fields (faults.WrongAnswer n) next same few h f = absurd f
not_taken most text rest (Some columns) lines wide number fields (faults.EndsEarly n) next same few h f = absurd f
not_taken most text rest (Some columns) lines wide number fields (faults.Overlap n) next same few h f = absurd f

-- what is told of a row that is not taken is told of the text
pub wrong_told : (most : ℕ) (text rest : List ℕ) (columns : Option Columns) (lines : List Line) (wide : Option ℕ)
    (number : ℕ) (fields : List (List ℕ)) (wrong : Option WrongField) (fault : ImportFault)
    → IsNextRow text rest (row_at number fields) → ((width : ℕ) → wide ≡ Some width → length fields ≡ width)
    → Holds text columns lines wide rest → IsNotTaken most columns lines number fields fault
    → IsWrongIn columns number fields wrong fault
    → TellsWrong text wrong fault
wrong_told most text rest columns lines wide number fields None fault next same h t w = tt
wrong_told most text rest (Some columns) lines wide number fields (Some wrong) (faults.NotACall n) next same h t w = (
  w.0 ∙ sym t.0,
  (
    columns,
    row_at number fields,
    record { width = h.0; lines = lines; rest = rest; read = h.2; next = next; is_wide = same h.0 h.1 },
    w.0,
    w.1,
  ),
)
wrong_told most text rest (Some columns) lines wide number fields (Some wrong) faults.Memory next same h t w = absurd w
wrong_told most text rest (Some columns) lines wide number fields (Some wrong) (faults.Csv n) next same h t w = absurd w
wrong_told most text rest (Some columns) lines wide number fields (Some wrong) faults.TooMany next same h t w = absurd w
wrong_told most text rest (Some columns) lines wide number fields (Some wrong) (faults.NumberOutOfRange n) next same h t
    w = absurd w
wrong_told most text rest (Some columns) lines wide number fields (Some wrong) (faults.WrongAnswer n) next same h t w =
    absurd w
wrong_told most text rest (Some columns) lines wide number fields (Some wrong) (faults.EndsEarly n) next same h t w =
    absurd w
wrong_told most text rest (Some columns) lines wide number fields (Some wrong) (faults.Overlap n) next same h t w =
    absurd w
wrong_told most text rest None lines wide number fields (Some wrong) fault next same h t w = absurd w

-- a row more is none too many
pub takes_few : (most : ℕ) (columns after : Option Columns) (lines more : List Line) (number : ℕ)
    (fields : List (List ℕ))
    → Takes most columns lines number fields after more → length lines ≤ most → length more ≤ most
takes_few most None None lines more number fields t few = absurd t
takes_few most None (Some columns) lines more number fields t few = rw t.1 few
takes_few most (Some columns) after lines more number fields t few = let k = length-append lines (t.2 ∷ []) in
    let less = t.1 in
    rw t.4 (omega (arith, k, less))
