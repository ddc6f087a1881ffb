-- The three scans of the two calls.
use Rattle.std.proofs.Common.{◌≡◌, ℕ, sym, ap, arith}
use Rattle.std.specs.Prelude.{◌==◌, if◌then◌else◌}
use Rattle.std.proofs.lemmas.Bool.Decides.{nat_tests}
use Rattle.kfifo_words.specs.Words.{version_of, head_of, tail_of}
use Rattle.kfifo_model.specs.declared.calls.Answer.TheVariants.{Worn}
use Rattle.kfifo_machine.specs.declared.place.EnqueuePhase.TheVariants as E
use Rattle.kfifo_machine.specs.declared.place.DequeuePhase.TheVariants as D
use Rattle.kfifo_machine.specs.declared.place.Found.{Found}
use Rattle.kfifo_machine.specs.declared.place.Found.TheVariants.{Slot, Nothing}
use Rattle.kfifo_live.proofs.Types.{Next}
use Rattle.kfifo_machine.specs.declared.place.Next.TheVariants.{Goes, Answers}
use Rattle.kfifo_machine.specs.Program.{scan_index}
use Rattle.kfifo_live.specs.declared.enqueue.Enqueue.{Enqueue}
use Rattle.kfifo_live.specs.declared.dequeue.Dequeue.{Dequeue}
use Rattle.kfifo_live.specs.Rounds.{enqueue_at, dequeue_at}
use Rattle.kfifo_machine.specs.declared.place.Access.TheVariants.{Load}
use Rattle.kfifo_live.specs.Scans.{IsScan, Scan, is_empty, is_filled}

-- an enqueue looks for an empty slot of the tail's segment
pub tail_is_scan : {T : Type 0} (call : Enqueue T) (ends segment limit : ℕ) → segment ≡ tail_of ends
    → limit ≡ call.ring.shape.now.probes
    → IsScan call.ring.shape.now is_empty segment call.start limit (λ seen. enqueue_at call (E.ScanTail ends seen))
    (λ found. Goes (enqueue_at call (E.Recheck ends found)))
tail_is_scan call ends segment limit at all = record {
  looks = λ seen. ap (λ s. Load (scan_index call.ring.shape.now s call.start seen)) (sym at);
  finds = λ seen word stops. grind (arith, nat_tests);
  is_over = λ seen word vain last. grind (arith, nat_tests);
  goes_on = λ seen word vain more. grind (arith, nat_tests);
}

abbrev pub tail_scan : {T : Type 0} (call : Enqueue T) (ends segment limit : ℕ) → segment ≡ tail_of ends
    → limit ≡ call.ring.shape.now.probes → Scan call.ring.shape.now is_empty segment call.start limit
tail_scan call ends segment limit at all = record {
  looking = λ seen. enqueue_at call (E.ScanTail ends seen);
  leads = λ found. Goes (enqueue_at call (E.Recheck ends found));
  is_scan = tail_is_scan call ends segment limit at all;
}

-- where the ring may be full, it looks for a filled slot of the head's segment
abbrev pub after_full_scan : {T : Type 0} → Enqueue T → ℕ → Found → Next
after_full_scan call ends (Slot index word) = Goes (enqueue_at call (E.ConfirmFull ends))
after_full_scan call ends Nothing = if version_of ends == call.ring.shape.now.last then Answers Worn else Goes
    (enqueue_at call (E.MoveHead ends))

pub full_is_scan : {T : Type 0} (call : Enqueue T) (ends segment limit : ℕ) → segment ≡ head_of ends
    → limit ≡ call.ring.shape.now.k
    → IsScan call.ring.shape.now is_filled segment 0 limit (λ seen. enqueue_at call (E.ScanHead ends seen))
    (after_full_scan call ends)
full_is_scan call ends segment limit at all = record {
  looks = λ seen. ap (λ s. Load (scan_index call.ring.shape.now s 0 seen)) (sym at);
  finds = λ seen word stops. grind (arith, nat_tests);
  is_over = λ seen word vain last. grind (arith, nat_tests);
  goes_on = λ seen word vain more. grind (arith, nat_tests);
}

abbrev pub full_scan : {T : Type 0} (call : Enqueue T) (ends segment limit : ℕ) → segment ≡ head_of ends
    → limit ≡ call.ring.shape.now.k
    → Scan call.ring.shape.now is_filled segment 0 limit
full_scan call ends segment limit at all = record {
  looking = λ seen. enqueue_at call (E.ScanHead ends seen);
  leads = after_full_scan call ends;
  is_scan = full_is_scan call ends segment limit at all;
}

-- a dequeue looks for a filled slot of the head's segment
pub head_is_scan : {T : Type 0} (call : Dequeue T) (ends segment limit : ℕ) → segment ≡ head_of ends
    → limit ≡ call.ring.shape.now.k
    → IsScan call.ring.shape.now is_filled segment call.start limit (λ seen. dequeue_at call (D.ScanHead ends seen))
    (λ found. Goes (dequeue_at call (D.Recheck ends found)))
head_is_scan call ends segment limit at all = record {
  looks = λ seen. ap (λ s. Load (scan_index call.ring.shape.now s call.start seen)) (sym at);
  finds = λ seen word stops. grind (arith, nat_tests);
  is_over = λ seen word vain last. grind (arith, nat_tests);
  goes_on = λ seen word vain more. grind (arith, nat_tests);
}

abbrev pub head_scan : {T : Type 0} (call : Dequeue T) (ends segment limit : ℕ) → segment ≡ head_of ends
    → limit ≡ call.ring.shape.now.k
    → Scan call.ring.shape.now is_filled segment call.start limit
head_scan call ends segment limit at all = record {
  looking = λ seen. dequeue_at call (D.ScanHead ends seen);
  leads = λ found. Goes (dequeue_at call (D.Recheck ends found));
  is_scan = head_is_scan call ends segment limit at all;
}
