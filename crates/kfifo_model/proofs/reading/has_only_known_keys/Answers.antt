use Rattle.std.proofs.Common.{sym, ◌∙◌}
use Rattle.serde_json.specs.View.{view, members_view}
use Rattle.kfifo_model.proofs.RecordLemmas.{keys_known, known_object}
use Rattle.kfifo_model.proofs.reading.has_only_known_keys.Goals as goal

pub returns-in-Some : goal.returns-in-Some
returns-in-Some c =
    c.are_known.ensures ∙ (keys_known c.in-Some.members.now.entries
    ∙ sym (known_object (view c.args.value.now) (members_view c.in-Some.members.now.entries) c.in-Some.ensures))
