-- A table that was read as far as a row is read as far as the next one.
use Rattle.std.proofs.Common.{◌++◌, ◌∷◌, [], ◌≡◌, ℕ, List, Option, Some, None, length, refl, sym, subst, ◌∙◌, ap}
use Rattle.kfifo_import.specs.declared.log.Line.{Line}
use Rattle.kfifo_import.specs.declared.table.Columns.{Columns}
use Rattle.kfifo_import.specs.Fields.{HasColumns}
use Rattle.kfifo_import.specs.Rows.{AreRows, IsNextRow, Row, first_row, line_of}
use Rattle.kfifo_import.specs.Tables.{AreLines, HasRead, Holds, IsLineOf}
use Rattle.kfifo_import.specs.Taking.{Takes, row_at}

-- one more row
rows_more : (text from rest : List ℕ) (rows : List Row) (row : Row) (next : IsNextRow text rest row)
    → AreRows text from rows rest
    → AreRows text from (rows ++ row ∷ []) next.0.2
unfolding AreRows
rows_more text from rest [] row next a = rw a (next, refl)
rows_more text from rest (r ∷ rows) row next a = (a.0, rows_more text a.0.0.2 rest rows row next a.1)

-- one more line
line_more : (columns : Columns) (width : ℕ) (rows : List Row) (lines : List Line) (row : Row) (line : Line)
    → AreLines columns width rows lines → IsLineOf columns width row line
    → AreLines columns width (rows ++ row ∷ []) (lines ++ line ∷ [])
line_more columns width [] [] row line a c = (c, tt)
line_more columns width [] (l ∷ lines) row line a c = absurd a
line_more columns width (r ∷ rows) [] row line a c = absurd a
line_more columns width (r ∷ rows) (l ∷ lines) row line a c = (a.0, line_more columns width rows lines row line a.1 c)

-- the header
takes_header : (text : List ℕ) (columns : Columns) (row : Row) (next : IsNextRow text text row)
    → HasColumns row.fields columns
    → HasRead text columns (length row.fields) [] next.0.2
unfolding AreRows
takes_header text columns row next has = record {
  header = row;
  rows = [];
  are_rows = (next, refl);
  is_wide = refl;
  has_columns = has;
  are_lines = tt;
}

-- a line
takes_line : (text rest : List ℕ) (columns : Columns) (width : ℕ) (lines : List Line) (row : Row) (line : Line)
    (next : IsNextRow text rest row) → HasRead text columns width lines rest
    → IsLineOf columns width row line → HasRead text columns width (lines ++ line ∷ []) next.0.2
takes_line text rest columns width lines row line next h c = record {
  header = h.header;
  rows = h.rows ++ row ∷ [];
  are_rows = rows_more text text rest (h.header ∷ h.rows) row next h.are_rows;
  is_wide = h.is_wide;
  has_columns = h.has_columns;
  are_lines = line_more columns width h.rows lines row line h.are_lines c;
}

-- a row that is taken, as wide as a row must be
pub takes_row : (most : ℕ) (text rest : List ℕ) (columns after : Option Columns) (lines more : List Line)
    (wide : Option ℕ) (number : ℕ) (fields : List (List ℕ))
    (next : IsNextRow text rest (row_at number fields)) → ((width : ℕ) → wide ≡ Some width → length fields ≡ width)
    → Holds text columns lines wide rest
    → Takes most columns lines number fields after more → Holds text after more (Some (length fields)) next.0.2
takes_row most text rest None None lines more wide number fields next same h t = absurd t
takes_row most text rest None (Some columns) lines more wide number fields next same h t =
    let here : IsNextRow text text (row_at number fields) =
    (next.0, ap first_row (sym h.0) ∙ next.1, next.2 ∙ ap (line_of text) h.0, next.3) in (
      length fields,
      refl,
      subst (λ (l : List Line). HasRead text columns (length fields) l next.0.2) (sym (t.1 ∙ h.1))
          (takes_header text columns (row_at number fields) here t.0),
    )
takes_row most text rest (Some columns) after lines more wide number fields next same h t =
    let w : length fields ≡ h.0 = same h.0 h.1 in
    let line : IsLineOf columns h.0 (row_at number fields) t.2 =
    subst (λ (n : ℕ). IsLineOf columns n (row_at number fields) t.2) w t.3 in
    rw (t.0, t.4) (h.0, ap Some w, takes_line text rest columns h.0 lines (row_at number fields) t.2 next h.2 line)
