-- What the commands `run` and `check` come to.
use Rattle.std.proofs.Common.{◌≡◌, ℕ, ◌+◌, List, Option, Some, None, ap, sym, subst, refl, inl, inr, ◌⊎◌}
use Rattle.kfifo_model.specs.declared.calls.Call.{Call}
use Rattle.kfifo_model.specs.declared.orders.Verdict.{Verdict}
use Rattle.kfifo_model.specs.declared.orders.Verdict.TheVariants as verdicts
use Rattle.kfifo_judge.specs.declared.outcome.Outcome.{Outcome}
use Rattle.kfifo_judge.specs.Check.{IsCheckAnswer, IsChecked, verdict_outcome}
use Rattle.kfifo_cli_commands.specs.declared.status.Status.TheVariants.{Answered, Unordered}
use Rattle.kfifo_cli_commands.specs.Statuses.{outcome_status}
use Rattle.kfifo_cli_commands.proofs.Types.{Fault, Shape}
use Rattle.kfifo_cli_texts.specs.declared.fault.Fault.TheVariants.{Word, Memory}
use Rattle.kfifo_cli_requests.specs.declared.requests.RunOptions.{RunOptions}
use Rattle.kfifo_cli_commands.specs.Runs.{IsRunRefusal}
use Rattle.kfifo_cli_requests.specs.Sizes.{IsShapeOf}
use Rattle.kfifo_cli_texts.specs.Words.{IsFirstUnread}

-- the fault of the words is one of the command
pub word_refused : (options : RunOptions) (shape : Shape) (k : ℕ) (fault : Fault) → IsShapeOf options.sizes shape
    → k ≡ shape.k
    → (fault ≡ Memory)
    ⊎ ((place : ℕ) × (fault ≡ Word (place + 1)) × IsFirstUnread k options.turns options.words.now place)
    → IsRunRefusal options fault
word_refused options shape k fault shaped same (inl is) = subst (λ f. IsRunRefusal options f) (sym is) tt
word_refused options shape k fault shaped same (inr w) = subst (λ f. IsRunRefusal options f) (sym w.1) record {
  shape = shape;
  shape_given = shaped;
  place = w.0;
  number_is = refl;
  unread = subst (λ n. IsFirstUnread n options.turns options.words.now w.0) same w.2;
}

said_of : (verdict : Verdict) → (outcome_status (verdict_outcome verdict) ≡ Answered)
    ⊎ (outcome_status (verdict_outcome verdict) ≡ Unordered)
said_of verdicts.Legal = inl refl
said_of verdicts.Repeats = inr refl
said_of verdicts.NotACall = inr refl
said_of verdicts.LeavesOut = inr refl
said_of verdicts.BreaksBefore = inr refl
said_of (verdicts.NotARun place) = inr refl

answer_status : (k : ℕ) (order : Option (List ℕ)) (h : List Call) (text : List ℕ) (said : Outcome)
    → IsCheckAnswer k order h text said
    → (outcome_status said ≡ Answered) ⊎ (outcome_status said ≡ Unordered)
answer_status k None h text said answer = elim answer.1 [
  | inl has ↦ inl (ap outcome_status has.2)
  | inr not ↦ inr (ap outcome_status not.2)
]
answer_status k (Some order) h text said answer =
    subst (λ s. (outcome_status s ≡ Answered) ⊎ (outcome_status s ≡ Unordered)) (sym answer.3) (said_of answer.0)

-- `check` answers that there is an order, or that there is none
pub checked_status : (k : ℕ) (order : Option (List ℕ)) (bytes text : List ℕ) (said : Outcome)
    → IsChecked k order bytes text said
    → (outcome_status said ≡ Answered) ⊎ (outcome_status said ≡ Unordered)
checked_status k order bytes text said checked = answer_status k order checked.calls text said checked.answer
