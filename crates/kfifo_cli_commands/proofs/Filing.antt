-- Several files, judged one after the other.
use Rattle.std.proofs.Common.{◌≡◌, ◌∙◌, ◌+◌, ◌<◌, ℕ, List, [], ◌∷◌, ◌++◌, Result, Ok, Err, IfErr, MatchResult, ap}
use Rattle.std.proofs.Common.{arith, get_or, length, map, refl, subst, append_assoc, append-nil, cond, drop, inl, sym}
use Rattle.std.proofs.Common.{take}
use Rattle.std.proofs.lemmas.Fn.{FoldsTo-push}
use Rattle.std.proofs.lemmas.List.{map-append, take-append-drop, take_more}
use Rattle.std.specs.List.{FoldsTo}
use denote.Ref.{Bor}
use Rattle.kfifo_judge.specs.Reports.{fault_report}
use Rattle.kfifo_judge.specs.declared.outcome.Outcome.TheVariants.{Answered, Unordered, Undecided}
use Rattle.kfifo_cli_texts.specs.Faults.{fault_text}
use Rattle.kfifo_cli_texts.specs.declared.fault.Fault.TheVariants.{Memory}
use Rattle.kfifo_cli_requests.specs.declared.requests.JudgeFilesOptions.{JudgeFilesOptions}
use Rattle.kfifo_cli_commands.specs.declared.commands.judge_files.Pending.{Pending}
use Rattle.kfifo_cli_commands.specs.declared.tally.Found.{Found}
use Rattle.kfifo_cli_commands.specs.declared.tally.Found.TheVariants.{Judged, Unjudged}
use Rattle.kfifo_cli_commands.specs.declared.tally.Tally.{Tally}
use Rattle.kfifo_cli_commands.specs.FileVerdicts.{AreJudged, ArePending, IsFileLine, JudgesOne, fault_said, named_line}
use Rattle.kfifo_cli_commands.specs.Tallies.{IsBelow, none, tallied}

-- these are lines of the first files, and how many of those had which verdict
abbrev pub FirstJudged : JudgeFilesOptions → List Pending → List ℕ → Tally → Type 0
FirstJudged options first lines tally =
    FoldsTo (JudgesOne options) ([], none) (map (λ file. file.name.now) first) (lines, tally)

-- one file more
pub judged_more : (options : JudgeFilesOptions) (pending : List Pending) (n : ℕ) (d : Pending) (lines line : List ℕ)
    (tally : Tally) (found : Found) → n < length pending → FirstJudged options (take n pending) lines tally
    → IsFileLine options (get_or pending n d).name.now found line
    → FirstJudged options (take (n + 1) pending) (lines ++ line) (tallied tally found)
judged_more options pending n d lines line tally found inside judged said =
    let name_of : Pending → List ℕ = λ file. file.name.now in
    let name : List ℕ = name_of (get_or pending n d) in
    let grown = FoldsTo-push (JudgesOne options) ([], none) (map name_of (take n pending)) (lines, tally) name
    (lines ++ line, tallied tally found) judged (found, line, said, refl) in
    let same : map name_of (take (n + 1) pending) ≡ map name_of (take n pending) ++ name ∷ [] =
    ap (map name_of) (take_more pending n d inside) ∙ map-append name_of (take n pending) (get_or pending n d ∷ []) in
    subst (λ (ns : List (List ℕ)). FoldsTo (JudgesOne options) ([], none) ns (lines ++ line, tallied tally found))
    (sym same) grown

-- what is taken over some items and then over others
folds_append : {P A : Type 0} (R : P → A → P → Type 0) (p : P) (xs ys : List A) (q u : P) → FoldsTo R p xs q
    → FoldsTo R q ys u
    → FoldsTo R p (xs ++ ys) u
folds_append R p [] ys q u same h = subst (λ k. FoldsTo R k ys u) (sym same) h
folds_append R p (x ∷ xs) ys q u y h = (y.0, y.1, folds_append R y.0 xs ys q u y.2 h)

-- a line that a file of this name may have
abbrev some_line : JudgeFilesOptions → List ℕ → List ℕ
some_line options name = cond options.json (fault_report name (fault_text Memory) [])
    (named_line name (fault_said (fault_text Memory) []))

-- whatever lines the first files have, the others may have lines behind them
rest_judged : (options : JudgeFilesOptions) (names : List (List ℕ)) (lines : List ℕ) (tally : Tally)
    → (more : List ℕ) × (all : Tally) × FoldsTo (JudgesOne options) (lines, tally) names (lines ++ more, all)
rest_judged options [] lines tally = ([], tally, ap (λ (ls : List ℕ). (ls, tally)) (sym (append-nil lines)))
rest_judged options (name ∷ names) lines tally =
    let line = some_line options name in
    let next = tallied tally (Unjudged Memory) in
    let rest = rest_judged options names (lines ++ line) next in (
      line ++ rest.0,
      rest.1,
      (
        (lines ++ line, next),
        (Unjudged Memory, line, (inl refl, ([], refl)), refl),
        subst (λ (ls : List ℕ). FoldsTo (JudgesOne options) (lines ++ line, next) names (ls, rest.1))
            (append_assoc lines line rest.0) rest.2,
      ),
    )

-- lines of the first files are the beginning of lines that all may have
pub all_judged : (options : JudgeFilesOptions) (pending : List Pending) (n : ℕ) (lines : List ℕ) (tally : Tally)
    → ArePending options pending → FirstJudged options (take n pending) lines tally
    → (more : List ℕ) × (all : Tally) × AreJudged options options.files.now (lines ++ more) all
all_judged options pending n lines tally named judged =
    let name_of : Pending → List ℕ = λ file. file.name.now in
    let rest = rest_judged options (map name_of (drop n pending)) lines tally in
    let whole = sym (map-append name_of (take n pending) (drop n pending))
    ∙ ap (map name_of) (take-append-drop n pending) ∙ named.0 in (
      rest.0,
      rest.1,
      subst (λ (ns : List (List ℕ)). FoldsTo (JudgesOne options) ([], none) ns (lines ++ rest.0, rest.1)) whole
          (folds_append (JudgesOne options) ([], none) _ _ (lines, tally) (lines ++ rest.0, rest.1) judged rest.2),
    )

-- it is counted once
pub below_more : (most : ℕ) (t : Tally) (found : Found) → IsBelow most t → IsBelow (most + 1) (tallied t found)
below_more most t (Judged Answered) below =
    (omega (arith, below.0), omega (arith, below.1), omega (arith, below.2), omega (arith, below.3))
below_more most t (Judged Unordered) below =
    (omega (arith, below.0), omega (arith, below.1), omega (arith, below.2), omega (arith, below.3))
below_more most t (Judged Undecided) below =
    (omega (arith, below.0), omega (arith, below.1), omega (arith, below.2), omega (arith, below.3))
below_more most t (Unjudged fault) below =
    (omega (arith, below.0), omega (arith, below.1), omega (arith, below.2), omega (arith, below.3))

-- what the fault of a result has, where another fact gives it
pub err_of : {T E : Type 0} (P : T → Type 0) (Q R : E → Type 0) → ((e : E) → Q e → R e) → (r : Result T E)
    → MatchResult r P Q → IfErr r R
err_of P Q R give (Ok x) h = tt
err_of P Q R give (Err e) h = give e h

-- one name more
pub names_more : (pending : List Pending) (names : List (Bor (List ℕ))) (n : ℕ) (d : Bor (List ℕ)) (file : Pending)
    → n < length names → map (λ f. f.name.now) pending ≡ map (λ name. name.now) (take n names)
    → file.name ≡ get_or names n d
    → map (λ f. f.name.now) (pending ++ file ∷ []) ≡ map (λ name. name.now) (take (n + 1) names)
names_more pending names n d file inside same is =
    let name_of : Pending → List ℕ = λ f. f.name.now in
    let now : Bor (List ℕ) → List ℕ = λ name. name.now in
    map-append name_of pending (file ∷ [])
    ∙ (ap (λ (ns : List (List ℕ)). ns ++ now file.name ∷ []) same
    ∙ (ap (λ (name : Bor (List ℕ)). map now (take n names) ++ now name ∷ []) is
    ∙ (sym (map-append now (take n names) (get_or names n d ∷ [])) ∙ ap (map now) (sym (take_more names n d inside)))))
