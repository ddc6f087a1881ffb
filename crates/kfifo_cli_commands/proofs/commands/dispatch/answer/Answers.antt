use Rattle.std.proofs.Common.{◌∙◌, ℕ, ap, rules, subst, Err, flat_map}
use Rattle.kfifo_dispatch.specs.Working.{HasRun}
use Rattle.kfifo_live.specs.Gates.{SaysNothing}
use Rattle.kfifo_cli_texts.specs.declared.fault.Fault.TheVariants.{Dispatch}
use Rattle.kfifo_cli_commands.specs.Dispatches.{IsDispatchRefusal, IsTasksFault}
use Rattle.kfifo_cli_texts.specs.Tasks.{finished_line}
use Rattle.kfifo_cli_commands.proofs.Dispatching.{admitted, tasks_fault, tasks_refused, unread_task}
use Rattle.kfifo_cli_commands.proofs.commands.dispatch.answer.Goals as goal

pub returns-in_err-tasks-clause-err : goal.returns-in_err-tasks-clause-err
returns-in_err-tasks-clause-err g c =
    let refusal : IsDispatchRefusal c.args.options c.in_err-tasks.field-0.0 =
    unread_task c.args.options c.in_ok-shape.shape c.in_ok-shape.ensures.ok c.in_err-tasks.field-0.0
    c.in_err-tasks.ensures.fault in
    search (rules, refusal)

pub returns-in_err-list-clause-err : goal.returns-in_err-list-clause-err
returns-in_err-list-clause-err g c =
    let tasks = c.as_slice.result.now in
    let fault = c.in_err-list.field-0.0 in
    let cause : IsTasksFault tasks c.args.options.workers fault = tasks_fault tasks c.args.options.workers fault
    (λ is. c.in_err-list.ensures.many.0 (ap Err is))
    (λ is. c.in_err-list.ensures.repeated.0 (ap Err is))
    (λ is. c.in_err-list.ensures.workers.0 (ap Err is)) in
    let refusal : IsDispatchRefusal c.args.options (Dispatch fault) =
    tasks_refused c.args.options c.in_ok-shape.shape c.in_ok-shape.ensures.ok tasks
    (rw c.as_slice.ensures.value c.in_ok-tasks.ensures.tasks) fault cause in
    search (rules, refusal)

pub returns-clause-ok : goal.returns-clause-ok
returns-clause-ok g c =
    let tasks = c.as_slice.result.now in record {
      shape = c.in_ok-shape.shape;
      tasks = tasks;
      given = record {
        shape_given = c.in_ok-shape.ensures.ok;
        tasks_given = rw c.as_slice.ensures.value c.in_ok-tasks.ensures.tasks;
      };
      admitted = admitted tasks c.args.options.workers
          (λ h. let bad = c.in_ok-list.ensures.many.1 h in cc)
          (λ h. let bad = c.in_ok-list.ensures.repeated.1 h in cc)
          (λ h. let bad = c.in_ok-list.ensures.workers.1 h in cc);
      list = c.in_ok-list.list.items;
      list_is = c.in_ok-list.ensures.ok;
      run = subst (λ (seed : ℕ). HasRun SaysNothing SaysNothing c.in_ok-shape.shape c.args.options.workers seed tasks)
          c.from-seed.ensures c.in_ok-list.ensures.run;
      text_is = c.in_ok-text.ensures ∙ ap (flat_map finished_line) c.as_slice-2.ensures.value;
    }
