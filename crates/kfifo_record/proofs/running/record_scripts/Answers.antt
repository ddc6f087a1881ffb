-- From the passes that came back to the record.
use Rattle.std.proofs.Common.{◌≡◌, ◌<◌, ◌≤◌, ◌⊎◌, ℕ, ap, length, subst, Err}
use Rattle.std.proofs.lemmas.List.{length-map}
use Rattle.kfifo_record.specs.Scripts.{longest, scripts_in}
use Rattle.kfifo_record.proofs.Ran.{all_of_queue, complete_for, few_calls, recorded}
use Rattle.kfifo_record.proofs.running.record_scripts.Goals as goal

pub gather-requires : goal.gather-requires
gather-requires g c = all_of_queue (g.G.Gate.passed c.args.gate.now) c.args.shape (scripts_in c.args.scripts.now) _ _ _
    c.in_ok-queue.ensures.ok c.in_ok-passes.ensures

pub unreachable-requires : goal.unreachable-requires
unreachable-requires g c =
    c.in-Err-MissingPass.ensures.missing.0 (ap Err c.in-Err-MissingPass.field-0-is)
    (complete_for (g.G.Gate.passed c.args.gate.now) c.args.shape (scripts_in c.args.scripts.now) _ _ _
    c.in_ok-queue.ensures.ok c.in_ok-passes.ensures)

pub returns-in-Ok-clause-ok : goal.returns-in-Ok-clause-ok
returns-in-Ok-clause-ok g c = recorded (g.G.Gate.passed c.args.gate.now) c.args.shape (scripts_in c.args.scripts.now) _
    _ _ _ c.in_ok-queue.ensures.ok c.in_ok-passes.ensures c.in-Ok.ensures.ok

pub returns-in-Ok-clause-few : goal.returns-in-Ok-clause-few
returns-in-Ok-clause-few g c =
    let e = c.in_ok-queue.ensures in
    let scripts = scripts_in c.args.scripts.now in
    let count : length scripts ≡ length c.args.scripts.now = length-map c.args.scripts.now (λ script. script.items) in
    few_calls (g.G.Gate.passed c.args.gate.now) c.args.shape scripts _ _ _ c.in-Ok.history e.ok c.in_ok-passes.ensures
    c.in-Ok.ensures.ok
    (λ out. absurd (let h = e.threads.1 (subst (λ (n : ℕ). (n ≡ 0) ⊎ (64 < n)) count out) in cc))
    (λ out. absurd (let h = e.calls.1 (subst (λ (n : ℕ). (0 < n) × (n ≤ 64) × (1024 < longest scripts)) count out)
    in cc))
