-- What `judge` says of a history.
use Rattle.std.specs.Prelude.{ℕ, ◌≡◌, Bool, true, false, List, [], ◌++◌, Option, None, codes, cond, decimal, eqb}
use Rattle.std.specs.Prelude.{length, string_bytes}
use Rattle.kfifo_model.specs.declared.calls.Call.{Call}
use Rattle.kfifo_model.specs.Ranks.{ranks_of}
use Rattle.kfifo_verdict.specs.declared.verdicts.Bounds.{Bounds}
use Rattle.kfifo_verdict.specs.declared.verdicts.Evidence.{Evidence}
use Rattle.kfifo_verdict.specs.declared.verdicts.Judgement.{Judgement}
use Rattle.kfifo_verdict.specs.declared.verdicts.Judgement.TheVariants.{Legal, NoOrder, Undecided}
use Rattle.kfifo_verdict.specs.declared.verdicts.GivenUp.{GivenUp}
use Rattle.kfifo_verdict.specs.declared.verdicts.GivenUp.TheVariants.{TriesRanOut, NothingLeft}
use Rattle.kfifo_verdict.specs.Judging.{IsJudgement, tries_made}
use Rattle.kfifo_verdict.specs.Remainder.{items_left}
use Rattle.kfifo_model.specs.declared.logged.LoggedCall.{LoggedCall}
use Rattle.kfifo_model.specs.RecordTexts.{line}
use Rattle.kfifo_judge.specs.declared.judgement.Judged.{Judged}
use Rattle.kfifo_judge.specs.declared.outcome.Outcome.{Outcome}
use Rattle.kfifo_judge.specs.declared.outcome.Outcome.TheVariants as outcomes
use Rattle.kfifo_judge.specs.Bounds.{FollowsReason}
use Rattle.kfifo_judge.specs.Numbers.{greatest, numbers_line}
use Rattle.kfifo_judge.specs.Reasons.{counted, reason_lines}
use Rattle.kfifo_judge.specs.Repeats.{IsRepeatNote}

-- a verdict and the k that it is about
abbrev pub about : List ℕ → ℕ → List ℕ
about verdict k = line (verdict ++ (codes " for k = " ++ decimal k))

-- the greatest rank of an order
abbrev pub worst_line : ℕ → List ℕ
worst_line worst = line (codes "worst rank " ++ decimal worst)

-- the order, where it is to be shown
abbrev pub shown_line : Bool → List ℕ → List ℕ
shown_line true order = numbers_line (codes "order ") order
shown_line false order = []

-- how many calls there are, and how many items are left at the end
abbrev pub counts_line : List Call → List ℕ
counts_line h = codes "calls " ++ decimal (length h) ++ line (codes ", items left " ++ decimal (items_left h))

abbrev pub legal_text : ℕ → Bool → List Call → List ℕ → List ℕ
legal_text k show h order = about (codes "legal") k ++ worst_line (greatest (ranks_of k h order))
    ++ shown_line show order ++ counts_line h

-- the evidence with the calls that it names, the counts, and what follows them, with these bounds
abbrev pub IsNoOrderText : ℕ → List LoggedCall → List Call → Evidence → List ℕ → Option Bounds → Type 0
IsNoOrderText k logged h found text bounds =
    (rest : List ℕ) × FollowsReason logged h found rest bounds
    × (text ≡ about (codes "no order") k ++ reason_lines logged h found ++ counts_line h ++ rest)

-- why the search stopped
abbrev pub stuck_words : GivenUp → List ℕ
stuck_words (TriesRanOut tries) = codes "the tries ran out"
stuck_words (NothingLeft tries) = codes "nothing is left to try"

abbrev pub tries_words : ℕ → List ℕ
tries_words count = cond (eqb count 1) (codes "try") (codes "tries")

-- why the search stopped, and after how many tries
abbrev pub stuck_text : GivenUp → List ℕ
stuck_text stuck = stuck_words stuck
    ++ counted (codes " after ") (tries_made stuck) (codes " " ++ tries_words (tries_made stuck))

-- why the search stopped, and whether items repeat
abbrev pub IsUndecidedText : ℕ → List Call → GivenUp → List ℕ → Type 0
IsUndecidedText k h stuck text =
    (note : List ℕ) × IsRepeatNote h note × (text ≡ about (codes "undecided") k ++ line (stuck_text stuck ++ note))

-- the text says this verdict, and these bounds of the least k where evidence is about one k alone
abbrev pub IsJudgementText : ℕ → Bool → List LoggedCall → List Call → Judgement → List ℕ → Option Bounds → Type 0
IsJudgementText k show logged h (Legal order) text bounds = (text ≡ legal_text k show h order.items) × (bounds ≡ None)
IsJudgementText k show logged h (NoOrder found) text bounds = IsNoOrderText k logged h found text bounds
IsJudgementText k show logged h (Undecided stuck) text bounds = IsUndecidedText k h stuck text × (bounds ≡ None)

-- This is a verdict on a history, told in a text, with the bounds that the text says and the items that are left.
pub record IsJudged (k : ℕ) (show : Bool) (logged : List LoggedCall) (h : List Call) (j : Judged) : Type 0 where
  pub judged : IsJudgement k h j.judgement
  pub told : IsJudgementText k show logged h j.judgement (string_bytes j.text) j.bounds
  pub left : j.left ≡ items_left h

abbrev pub outcome : Judgement → Outcome
outcome (Legal order) = outcomes.Answered
outcome (NoOrder found) = outcomes.Unordered
outcome (Undecided stuck) = outcomes.Undecided

-- This is the text and the outcome for a history: what is to be said of a verdict on it, the order shown or not.
pub record IsJudgeAnswer (k : ℕ) (show : Bool) (logged : List LoggedCall) (h : List Call) (text : List ℕ)
    (said : Outcome) : Type 0 where
  pub judgement : Judgement
  pub judged : IsJudgement k h judgement
  pub bounds : Option Bounds
  pub told : IsJudgementText k show logged h judgement text bounds
  pub ended : said ≡ outcome judgement
