use Rattle.std.proofs.Common.{◌≡◌, ◌∙◌, ◌<◌, ◌≤◌, ◌⊎◌, ℕ, List, ap, length, rules, subst, sym, Err}
use Rattle.std.proofs.lemmas.List.{length-map}
use Rattle.kfifo_cli_commands.proofs.Types.{Begin}
use Rattle.kfifo_live.specs.Gates.{SaysNothing}
use Rattle.kfifo_record.specs.Repeats.{all_repeated}
use Rattle.kfifo_record.specs.Scripts.{AreScripts, IsRecord, longest, scripts_in}
use Rattle.kfifo_cli_texts.specs.declared.fault.Fault.TheVariants.{Open}
use Rattle.kfifo_cli_commands.specs.RealRuns.{IsQueueFault, IsRealRunRefusal}
use Rattle.kfifo_cli_commands.proofs.RealRunning.{are_scripts, gives, over_refused, queue_fault, queue_refused}
use Rattle.kfifo_cli_commands.proofs.RealRunning.{unread_refused}
use Rattle.kfifo_cli_commands.proofs.commands.record.answer.Goals as goal

pub returns-in_err-once-clause-err : goal.returns-in_err-once-clause-err
returns-in_err-once-clause-err g c =
    let refusal : IsRealRunRefusal c.args.options c.in_err-once.field-0.0 =
    unread_refused c.args.options c.in_ok-shape.shape c.in_ok-shape.ensures.ok c.k.result c.k.ensures
    c.in_err-once.field-0.0
    c.in_err-once.ensures.fault in
    search (rules, refusal)

pub returns-in_err-scripts-clause-err : goal.returns-in_err-scripts-clause-err
returns-in_err-scripts-clause-err g c =
    let own = scripts_in c.in_ok-once.once.items in
    let refusal : IsRealRunRefusal c.args.options c.in_err-scripts.field-0.0 =
    over_refused c.args.options c.in_ok-shape.shape c.in_ok-shape.ensures.ok c.k.result c.k.ensures own
    c.in_ok-once.ensures.scripts
    c.in_err-scripts.field-0.0
    (rw (← c.as_slice.ensures.value) c.in_err-scripts.ensures.err) in
    search (rules, refusal)

pub record_scripts-requires-after_bounds : goal.record_scripts-requires-after_bounds
record_scripts-requires-after_bounds g c κs within =
    let own = scripts_in c.in_ok-once.once.items in
    let shape = c.in_ok-shape.shape in
    let all : AreScripts shape own = are_scripts c.args.options shape c.in_ok-shape.ensures.ok c.k.result
    c.k.ensures own
    c.in_ok-once.ensures.scripts c.args.options.some_turns in
    let once : AreScripts shape (scripts_in c.as_slice.result.now) =
    subst (λ s. AreScripts shape (scripts_in s)) (sym c.as_slice.ensures.value) all in
    subst (λ s. AreScripts shape (scripts_in s)) (sym c.as_slice-2.ensures.value)
    (c.in_ok-scripts.ensures.range shape once)

pub returns-in_err-history-clause-err : goal.returns-in_err-history-clause-err
returns-in_err-history-clause-err g c =
    let own = scripts_in c.in_ok-once.once.items in
    let made = c.as_slice-2.result.now in
    let count = c.args.options.repeat in
    let same : scripts_in made ≡ all_repeated count own =
    ap (λ s. scripts_in s) c.as_slice-2.ensures.value ∙ c.in_ok-scripts.ensures.ok
    ∙ ap (λ s. all_repeated count (scripts_in s)) c.as_slice.ensures.value in
    let long : length made ≡ length (scripts_in made) = sym (length-map made (λ s. s.items)) in
    let fault = c.in_err-history.field-0.0 in
    let queue : IsQueueFault (scripts_in made) fault = queue_fault (scripts_in made) fault
    (λ is. subst (λ (n : ℕ). (n ≡ 0) ⊎ (64 < n)) long (c.in_err-history.ensures.threads.0 (ap Err is)))
    (λ is. subst (λ (n : ℕ). (0 < n) × (n ≤ 64) × (1024 < longest (scripts_in made))) long
    (c.in_err-history.ensures.calls.0 (ap Err is)))
    (λ is. c.in_err-history.ensures.tokens (ap Err is)) in
    let refusal : IsRealRunRefusal c.args.options (Open fault) =
    queue_refused c.args.options c.in_ok-shape.shape c.in_ok-shape.ensures.ok c.k.result c.k.ensures own
    c.in_ok-once.ensures.scripts fault
    (subst (λ (s : List (List Begin)). IsQueueFault s fault) same queue) in
    search (rules, refusal)

pub returns-clause-ok : goal.returns-clause-ok
returns-clause-ok g c =
    let own = scripts_in c.in_ok-once.once.items in
    let count = c.args.options.repeat in
    let same : scripts_in c.as_slice-2.result.now ≡ all_repeated count own =
    ap (λ s. scripts_in s) c.as_slice-2.ensures.value ∙ c.in_ok-scripts.ensures.ok
    ∙ ap (λ s. all_repeated count (scripts_in s)) c.as_slice.ensures.value in
    record {
      shape = c.in_ok-shape.shape;
      scripts = own;
      given = gives c.args.options c.in_ok-shape.shape c.in_ok-shape.ensures.ok c.k.result c.k.ensures own
          c.in_ok-once.ensures.scripts;
      history = c.in_ok-history.history;
      recorded = subst (λ (s : List (List Begin)). IsRecord SaysNothing c.in_ok-shape.shape s c.in_ok-history.history)
          same c.in_ok-history.ensures.ok;
      text_is = c.in_ok-text.ensures.line;
      read_back = c.in_ok-text.ensures.read_back;
    }
