-- A reader of logs between two rows, and between two pieces.
use Rattle.std.proofs.Common.{ℕ, ◌≡◌, ◌≢◌, ◌<◌, ◌≤◌, ◌∙◌, List, [], ◌∷◌, ◌++◌, Option, Some, None}
use Rattle.std.proofs.Common.{Bool, Global, true, false, ap, append-nil, length, option_map, refl, sym, subst, arith}
use Rattle.std.specs.Prelude.{OnOk, Vec, Err, IfErr, IfOk, IsSome, Ok, Result}
use Rattle.std.specs.Result.{IsErrAnd}
use Rattle.csv.specs.Records.{fields_of}
use Rattle.csv.specs.Reading.{is_bom, strip_bom}
use Rattle.kfifo_import.specs.declared.log.ImportFault.{ImportFault}
use Rattle.kfifo_import.specs.declared.log.ImportFault.TheVariants as faults
use Rattle.kfifo_import.specs.declared.log.Line.{Line}
use Rattle.kfifo_import.specs.declared.reader.LogReader.{LogReader}
use Rattle.kfifo_import.specs.declared.table.Columns.{Columns}
use Rattle.kfifo_import.specs.declared.walk.Spot.TheVariants as spots
use Rattle.kfifo_import.specs.declared.wrong.Refusal.{Refusal}
use Rattle.kfifo_import.specs.declared.wrong.WrongField.{WrongField}
use Rattle.kfifo_import.specs.Readers.{HasReadAll, Reads, ReadsBehind}
use Rattle.kfifo_import.specs.Rows.{IsNextRow, first_row}
use Rattle.kfifo_import.specs.Tables.{Holds, IsTextFault, ReadsLog}
use Rattle.kfifo_import.specs.Taking.{IsNotTaken, IsWrongIn, Takes, row_at}
use Rattle.kfifo_import.specs.Wrong.{TellsWrong}
use Rattle.kfifo_import.proofs.Readings.{next_row, not_taken, takes_few, too_wide, wrong_told}
use Rattle.kfifo_import.proofs.Rows.{takes_row}
use Rattle.kfifo_import.proofs.Marks.{unmarked_short}
use Rattle.kfifo_import.proofs.Standing.{moved, no_row}

module _ (r : LogReader) (text left : List ℕ) (over : r.row.spot ≡ spots.Over) (is : Reads r text left) where
  -- the row that has ended
  row_next : (next : IsNextRow text is.rest (row_at r.row.front (fields_of r.row.row))) × (next.0.2 ≡ left)
  row_next = next_row _ _ _ _ _ text is.rest left (moved _ _ _ _ _ _ _ text is.rest left over is.row)

  -- it has another width than the header
  pub refused_width : (wide : ℕ) → r.width ≡ Some wide → length (fields_of r.row.row) ≢ wide
      → IsTextFault r.most text (faults.Csv r.row.front)
  refused_width wide width other =
      too_wide r.most text is.rest r.table.columns r.table.lines.items r.width r.row.front wide (fields_of r.row.row)
      row_next.0 width other is.holds

  -- it is taken
  pub closed : (columns : Option Columns) (lines : List Line)
      → ((wide : ℕ) → r.width ≡ Some wide → length (fields_of r.row.row) ≡ wide)
      → Takes r.most r.table.columns r.table.lines.items r.row.front (fields_of r.row.row) columns lines
      → Holds text columns lines (Some (length (fields_of r.row.row))) left × (length lines ≤ r.most)
  closed columns lines width takes = (
    subst (λ rest. Holds text columns lines (Some (length (fields_of r.row.row))) rest) row_next.1
        (takes_row r.most text is.rest r.table.columns columns r.table.lines.items lines r.width r.row.front
        (fields_of r.row.row) row_next.0
        width is.holds takes),
    takes_few r.most r.table.columns columns r.table.lines.items lines r.row.front (fields_of r.row.row) takes is.few,
  )

  -- it is not taken
  pub refused : (fault : ImportFault) (wrong : Option WrongField)
      → ((wide : ℕ) → r.width ≡ Some wide → length (fields_of r.row.row) ≡ wide)
      → IsNotTaken r.most r.table.columns r.table.lines.items r.row.front (fields_of r.row.row) fault
      → IsWrongIn r.table.columns r.row.front (fields_of r.row.row) wrong fault
      → IsTextFault r.most text fault × TellsWrong text wrong fault
  refused fault wrong width not tells = (
    not_taken r.most text is.rest r.table.columns r.table.lines.items r.width r.row.front (fields_of r.row.row) fault
        row_next.0 width is.few is.holds not,
    wrong_told r.most text is.rest r.table.columns r.table.lines.items r.width r.row.front (fields_of r.row.row) wrong
        fault row_next.0 width is.holds not tells,
  )

-- where no row has begun at the end of the text, none comes
pub read_all : (r : LogReader) (text : List ℕ) → r.row.spot ≡ spots.Row → Reads r text [] → HasReadAll r text
read_all r text between is = record {
  rest = is.rest;
  holds = is.holds;
  few = is.few;
  ended = no_row _ _ _ _ _ text is.rest (moved _ _ _ _ _ _ _ text is.rest [] between is.row);
}

-- the lines of a text that was read, or that it has no header
pub lines_read : (text : List ℕ) (columns : Option Columns) (lines : List Line) (wide : Option ℕ) (rest : List ℕ)
    → IsSome columns
    → Holds (strip_bom text) columns lines wide rest → first_row rest ≡ None → ReadsLog text lines
lines_read text None lines wide rest some h none = absurd (cc)
lines_read text (Some columns) lines wide rest some h none =
    record { columns = columns; width = h.0; rest = rest; read = h.2; ended = none }

-- ---- the bytes that may be a mark

-- a text goes on behind its mark
pub behind_mark : (head left : List ℕ) → 3 ≤ length head → strip_bom (head ++ left) ≡ strip_bom head ++ left
unfolding strip_bom
behind_mark (a ∷ b ∷ c ∷ rest) left l = by (is_bom a b c) refl
  where
    by : (x : Bool) → is_bom a b c ≡ x → strip_bom ((a ∷ b ∷ c ∷ rest) ++ left) ≡ strip_bom (a ∷ b ∷ c ∷ rest) ++ left
    by true p = rw p refl
    by false p = rw p refl
behind_mark [] left l = absurd (omega arith)
behind_mark (a ∷ []) left l = absurd (omega arith)
behind_mark (a ∷ b ∷ []) left l = absurd (omega arith)

-- a refusal is handed on as it is
pub handed : {A : Type 0} (result : Result A Refusal) (given : Refusal) (Says : Refusal → Type 0)
    → IsErrAnd result (λ refusal. refusal ≡ given)
    → Says given → IfErr result Says
handed (Ok x) given Says is says = absurd is
handed (Err refusal) given Says is says = subst Says (sym is) says

-- what is held back is no matter of the rows
pub aside : (r : LogReader) (head : Option (Vec ℕ Global)) (text left : List ℕ) → Reads r text left
    → Reads (record r { head = head }) text left
aside r head text left is = record { rest = is.rest; row = is.row; holds = is.holds; few = is.few }

-- nothing is held back
pub reading_plain : {H : Type 0} (bytes : H → List ℕ) (head : Option H) (r : LogReader) (text left : List ℕ)
    → head ≡ None
    → ReadsBehind (option_map bytes head) r text left → Reads r (strip_bom text) left
reading_plain bytes head r text left none is = subst (λ h. ReadsBehind (option_map bytes h) r text left) none is

pub plain_reading : {H : Type 0} (bytes : H → List ℕ) (head : Option H) (r : LogReader) (text left : List ℕ)
    → head ≡ None
    → Reads r (strip_bom text) left → ReadsBehind (option_map bytes head) r text left
plain_reading bytes head r text left none is = subst (λ h. ReadsBehind (option_map bytes h) r text left) (sym none) is

-- a result that is Ok, or a refusal, as the callee has it
pub then_ok : {A : Type 0} (result : Result A Refusal) (P Q : Type 0) → OnOk result P → (P → Q) → OnOk result Q
then_ok (Ok x) P Q says f = f says
then_ok (Err e) P Q says f = tt

pub then_both : {A : Type 0} (result : Result A Refusal) (P R Q : Type 0) → OnOk result P → OnOk result R → (P → R → Q)
    → OnOk result Q
then_both (Ok x) P R Q says more f = f says more
then_both (Err e) P R Q says more f = tt

pub then_err : {A : Type 0} (result : Result A Refusal) (P Q : Refusal → Type 0) → IfErr result P
    → ((refusal : Refusal) → P refusal → Q refusal)
    → IfErr result Q
then_err (Ok x) P Q says f = tt
then_err (Err e) P Q says f = f e says

-- a text so short has no mark
pub short_text : (text head : List ℕ) → text ≡ head ++ [] → length head < 3 → strip_bom text ≡ head ++ []
short_text text head is short =
    let same : text ≡ head = is ∙ append-nil head in
    sym (unmarked_short text (subst (λ t. length t < 3) (sym same) short)) ∙ is

-- some bytes are held back
pub reading_head : {H : Type 0} (bytes : H → List ℕ) (given : Option H) (head : H) (r : LogReader) (text left : List ℕ)
    → given ≡ Some head
    → ReadsBehind (option_map bytes given) r text left
    → (text ≡ bytes head ++ left) × (length (bytes head) < 3) × ((any : List ℕ) → Reads r any any)
reading_head bytes given head r text left some is = subst (λ h. ReadsBehind (option_map bytes h) r text left) some is

-- they are long enough to have a mark in front of them, or none
pub marked_text : (r : LogReader) (text head left : List ℕ) → text ≡ head ++ left → 3 ≤ length head
    → ((any : List ℕ) → Reads r any any)
    → Reads r (strip_bom text) (strip_bom head ++ left)
marked_text r text head left is long fresh =
    subst (λ t. Reads r t (strip_bom head ++ left)) (sym (ap strip_bom is ∙ behind_mark head left long))
    (fresh (strip_bom head ++ left))

-- they are all of the text
pub all_held : (r : LogReader) (other : Option (Vec ℕ Global)) (text head : List ℕ)
    → (text ≡ head ++ []) × (length head < 3) × ((any : List ℕ) → Reads r any any)
    → Reads (record r { head = other }) (strip_bom text) (head ++ [])
all_held r other text head held =
    aside r other (strip_bom text) (head ++ [])
    (subst (λ t. Reads r t (head ++ [])) (sym (short_text text head held.0 held.1)) (held.2 (head ++ [])))

-- a text behind its mark, at its beginning
pub begun : (r : LogReader) (text given : List ℕ) → given ≡ text → ((any : List ℕ) → Reads r any any)
    → Reads r text (given ++ [])
begun r text given is fresh = subst (λ left. Reads r text left) (sym (append-nil given ∙ is)) (fresh text)

-- a result that holds of what was read
pub then_lines : {A : Type 0} (result : Result A Refusal) (P Q : A → Type 0) → IfOk result P → ((x : A) → P x → Q x)
    → IfOk result Q
then_lines (Ok x) P Q says f = f x says
then_lines (Err e) P Q says f = tt
