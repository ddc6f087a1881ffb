-- Lines in which no call got an item that no call can put: they are to be judged as they are. Where one did,
-- fewer items are asked to be put than there are lines.
use Rattle.std.proofs.Common.{ℕ, ◌≡◌, ◌<◌, ◌≤◌, true, false, List, [], ◌∷◌, Option, Some, None, arith, cond, length}
use Rattle.std.proofs.Common.{map, option_map, unwrap_or, refl, ap, ◌∙◌, inl, inr, length-append}
use Rattle.std.specs.List.{list_any}
use Rattle.std.proofs.lemmas.Bool.{false≢true, not-false, or_cases, or_parts}
use Rattle.kfifo_model.specs.declared.calls.Answer.{Answer}
use Rattle.kfifo_model.specs.declared.calls.Answer.TheVariants.{Done, Full, Got, Empty, Busy, Worn}
use Rattle.kfifo_model.specs.declared.calls.End.{End}
use Rattle.kfifo_model.specs.declared.calls.Op.{Op}
use Rattle.kfifo_model.specs.declared.calls.Op.TheVariants.{Enqueue, Dequeue}
use Rattle.kfifo_import.specs.declared.log.Line.{Line}
use Rattle.kfifo_import.specs.Foreign.{answer_with, end_with, is_foreign, is_foreign_answer, is_puttable, items_asked}
use Rattle.kfifo_import.specs.Foreign.{items_put, line_with}

same_answer : (free : ℕ) (op : Op) (a : Answer) → is_foreign_answer op a ≡ false → answer_with free op a ≡ a
same_answer free (Enqueue y) a e = refl
same_answer free Dequeue (Got x) e = ap (λ t. Got (cond t x free)) (not-false (is_puttable x) e)
same_answer free Dequeue Done e = refl
same_answer free Dequeue Full e = refl
same_answer free Dequeue Empty e = refl
same_answer free Dequeue Busy e = refl
same_answer free Dequeue Worn e = refl

same_end : (free : ℕ) (op : Op) (o : Option End)
    → unwrap_or (option_map (λ end. is_foreign_answer op end.answer) o) false ≡ false
    → option_map (end_with free op) o ≡ o
same_end free op (Some end) e = ap (λ a. Some (record {
  last = end.last;
  answer = a;
})) (same_answer free op end.answer e)
same_end free op None e = refl

same_line : (free : ℕ) (line : Line) → is_foreign line ≡ false → line_with free line ≡ line
same_line free line e =
    ap (λ o. record {
      number = line.number;
      call = record { thread = line.call.thread; op = line.call.op; first = line.call.first; end = o };
      item = line.item;
    }) (same_end free line.call.op line.call.end e)

pub same_lines : (free : ℕ) (lines : List Line) → list_any is_foreign lines ≡ false → map (line_with free) lines ≡ lines
same_lines free [] e = refl
same_lines free (line ∷ lines) e =
    let parts = or_parts (is_foreign line) (list_any is_foreign lines) e in
    ap (λ x. x ∷ map (line_with free) lines) (same_line free line parts.0)
    ∙ ap (λ xs. line ∷ xs) (same_lines free lines parts.1)

asked_few : (op : Op) → length (items_asked op) ≤ 1
asked_few (Enqueue x) = omega arith
asked_few Dequeue = omega arith

-- a line whose call got such an item is asked to put none
asked_none : (op : Op) (o : Option End) → unwrap_or (option_map (λ end. is_foreign_answer op end.answer) o) false ≡ true
    → length (items_asked op) ≡ 0
asked_none (Enqueue x) (Some end) e = absurd (false≢true e)
asked_none (Enqueue x) None e = absurd (false≢true e)
asked_none Dequeue o e = refl

put_few : (lines : List Line) → length (items_put lines) ≤ length lines
put_few [] = omega arith
put_few (line ∷ lines) =
    let one = asked_few line.call.op in
    let on = put_few lines in
    let sum = length-append (items_asked line.call.op) (items_put lines) in
    omega (arith, one, on, sum)

pub put_fewer : (lines : List Line) → list_any is_foreign lines ≡ true → length (items_put lines) < length lines
put_fewer [] e = absurd (false≢true e)
put_fewer (line ∷ lines) e =
    let sum = length-append (items_asked line.call.op) (items_put lines) in
    elim (or_cases (is_foreign line) (list_any is_foreign lines) e) [
      | inl here ↦ (
          let none = asked_none line.call.op line.call.end here in
          let few = put_few lines in
          omega (arith, none, few, sum)
          )
      | inr later ↦ (
          let one = asked_few line.call.op in
          let on = put_fewer lines later in
          omega (arith, one, on, sum)
          )
    ]
