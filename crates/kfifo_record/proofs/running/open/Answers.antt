-- Each pass may run the script of its thread.
use Rattle.std.proofs.Common.{◌≡◌, ◌<◌, ◌≤◌, ◌⊎◌, ◌^◌, ◌-◌, ◌∙◌, ℕ, ap, sym, inl, inr, arith, length, max, min}
use Rattle.std.proofs.lemmas.Bool.{cases_lt}
use Rattle.std.proofs.lemmas.List.{length-map}
use Rattle.kfifo_live.specs.Schedule.{stamped_opening}
use Rattle.kfifo_live.specs.Pass.{new_passes}
use Rattle.kfifo_live.specs.Stamps.{new_logs}
use Rattle.kfifo_record.specs.Scripts.{IsOpenFor, longest, scripts_in}
use Rattle.kfifo_record.proofs.Ran.{may_run}
use Rattle.kfifo_record.proofs.running.open.Goals as goal

few_threads : (n t : ℕ) → t ≡ min n (2 ^ 32 - 1) → ((t ≡ 0) ⊎ (64 < t) → ⊥) → (0 < t) × (t ≤ 64) × (t ≡ n)
few_threads n t is no_fault = elim (cases_lt 64 t) [
  | inl over ↦ absurd (no_fault (inr over))
  | inr few ↦ elim (cases_lt 0 t) [
    | inl some ↦ (some, few, omega (arith, is, few))
    | inr none_left ↦ absurd (no_fault (inl (omega (arith, none_left))))
  ]
]

few_calls : (most calls : ℕ) → calls ≡ min (max most 1) (2 ^ 32 - 1) → ((calls ≡ 0) ⊎ (1024 < calls) → ⊥)
    → (calls ≡ max 1 most)
    × (most ≤ 1024)
few_calls most calls is no_fault = elim (cases_lt 1024 calls) [
  | inl over ↦ absurd (no_fault (inr over))
  | inr few ↦ (omega (arith, is, few), omega (arith, is, few))
]

pub returns-clause-may_run : goal.returns-clause-may_run
returns-clause-may_run c =
    let scripts = scripts_in c.args.scripts.now in
    let q = c.in_ok-queue.queue in
    let ps = c.in_ok-queue.passes.items in
    let e = c.in_ok-queue.ensures in
    let most = c.max.ensures ∙ ap (λ (n : ℕ). max n 1) c.count_longest.ensures in
    let room = c.capped-calls.ensures ∙ ap (λ (n : ℕ). min n (2 ^ 32 - 1)) most in
    let threads = few_threads (length c.args.scripts.now) c.capped-threads.result c.capped-threads.ensures
    (λ out. absurd (let h = e.threads.1 out in cc)) in
    let calls = few_calls (longest scripts) c.capped-calls.result room
    (λ out. absurd (let h = e.calls.1 (threads.0, threads.1, out) in cc)) in
    let count : c.capped-threads.result ≡ length scripts = threads.2
    ∙ sym (length-map c.args.scripts.now (λ script. script.items)) in
    let opened : IsOpenFor c.args.shape scripts q ps = record {
      opened = e.ok.0 ∙ (λ i. stamped_opening c.args.shape (count i) (calls.0 i));
      passes_are = e.ok.1 ∙ ap (λ (n : ℕ). new_logs (new_passes q 0 n)) count;
    } in
    may_run c.args.shape scripts q ps opened c.requires calls.1
