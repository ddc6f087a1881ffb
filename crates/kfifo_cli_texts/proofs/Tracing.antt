-- A trace has one line more.
use Rattle.std.proofs.Common.{◌≡◌, ◌∙◌, ℕ, suc, ◌+◌, ◌<◌, List, [], ◌∷◌, ◌++◌, length, take, get_or, append_assoc, sym}
use Rattle.std.proofs.Common.{ap, arith, add-one}
use Rattle.std.proofs.lemmas.List.{append-nil, length-take-le}
use Rattle.std.proofs.Math.Seq.{take-suc}
use Rattle.kfifo_replay.specs.declared.steps.Step.{Step}
use Rattle.kfifo_cli_texts.specs.TraceLines.{step_line, trace_lines}

-- the line of a step behind others
one_more : (k first : ℕ) (steps : List Step) (s : Step)
    → trace_lines k first (steps ++ s ∷ []) ≡ trace_lines k first steps ++ step_line k (first + length steps) s
one_more k first [] s =
    let here : first ≡ first + 0 = omega arith in
    append-nil (step_line k first s) ∙ ap (λ n. step_line k n s) here
one_more k first (x ∷ steps) s =
    let places : (first + 1) + length steps ≡ first + suc (length steps) = omega arith in
    ap (λ t. step_line k first x ++ t) (one_more k (first + 1) steps s)
    ∙ (sym (append_assoc (step_line k first x) (trace_lines k (first + 1) steps)
    (step_line k ((first + 1) + length steps) s))
    ∙ ap (λ n. (step_line k first x ++ trace_lines k (first + 1) steps) ++ step_line k n s) places)

-- the line of the next step is added to a text
pub next_line : (k : ℕ) (steps : List Step) (i : ℕ) (s : Step) (start before after : List ℕ) → i < length steps
    → s ≡ get_or steps i s
    → before ≡ start ++ trace_lines k 0 (take i steps) → after ≡ before ++ step_line k i s
    → after ≡ start ++ trace_lines k 0 (take (i + 1) steps)
next_line k steps i s start before after inside is earlier now =
    let taken : length (take i steps) ≡ i = length-take-le i steps (omega (arith, inside)) in
    let size : 0 + length (take i steps) ≡ i = omega (arith, taken) in
    let next : take (i + 1) steps ≡ take i steps ++ s ∷ [] =
    rw add-one (take-suc steps i s inside ∙ ap (λ x. take i steps ++ x ∷ []) (sym is)) in
    let lines : trace_lines k 0 (take (i + 1) steps) ≡ trace_lines k 0 (take i steps) ++ step_line k i s =
    ap (trace_lines k 0) next
    ∙ (one_more k 0 (take i steps) s ∙ ap (λ n. trace_lines k 0 (take i steps) ++ step_line k n s) size) in
    now ∙ (ap (λ t. t ++ step_line k i s) earlier
    ∙ (append_assoc start (trace_lines k 0 (take i steps)) (step_line k i s) ∙ ap (λ t. start ++ t) (sym lines)))
