use Rattle.std.proofs.Common.{ℕ, ◌≡◌, List, Some, subst}
use Rattle.serde_json.specs.Read.{read}
use Rattle.serde_json.specs.View.{view}
use Rattle.kfifo_judge.proofs.record.read_record.Goals as goal

pub returns : goal.returns
returns c =
    let P : List ℕ → Type 0 = λ t. read t ≡ Some (view c.in-Ok-from_str.value) in (
      view c.in-Ok-from_str.value,
      (c.in-Ok.ensures.cases.1, subst P c.in-Ok.ensures.cases.0 c.in-Ok-from_str.ensures.ok),
      c.in-Err-read_history.ensures,
    )
