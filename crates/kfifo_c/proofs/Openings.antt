-- What the openings of queues by their capacity return, from what the renewing queue refuses.
use Rattle.std.proofs.Common.{◌≡◌, ◌<◌, ◌≤◌, ◌*◌, ⊎_elim, ℕ, Bool, Err, List, Ok, Result, arith, ap, inl, inr, length}
use Rattle.std.proofs.Common.{refl, rules, subst, sym, ◌∙◌}
use Rattle.kfifo_live.specs.Capacities.{HasRoom, segments_for, tokens_for}
use Rattle.kfifo_live.specs.Refusals.{IsOutOf}
use Rattle.kfifo_live.specs.declared.fault.OpenFault.TheVariants.{CallsOutOfRange, Memory, ThreadsOutOfRange}
use Rattle.kfifo_live.specs.declared.fault.OpenFault.TheVariants.{TokensOutOfRange}
use Rattle.kfifo_live.specs.declared.tokens.sizes.Sizes.{Sizes}
use Rattle.kfifo_renewing.proofs.Refusing.{err_of}
use Rattle.kfifo_renewing.specs.Renewing.{Generations, HasBadGenerations, HaveOne, OpensFor}
use Rattle.kfifo_renewing.specs.Renewing.{generations_for, opening_with, sizes_again}
use Rattle.kfifo_renewing.specs.declared.fault.RenewFault.{RenewFault}
use Rattle.kfifo_renewing.specs.declared.fault.RenewFault.TheVariants.{GenerationsOutOfRange, Open, ReserveOutOfRange}
use Rattle.kfifo_renewing.specs.declared.queue.Renewals.{Renewals}
use Rattle.kfifo_c.specs.Openings.{BadGenerations, IsAnswer, RefusesBad, renew_number}

module _ {A : Type 0} where
  abbrev fault_in : RenewFault → Result A RenewFault → RenewFault
  fault_in other (Ok value) = other
  fault_in other (Err fault) = fault

  no_fault : (value : A) (fault : RenewFault) → Ok value ≡ Err fault → ⊥
  no_fault value fault is = search (rules, is)

-- an opening that was refused, or that lacked memory afterwards, or that came to something else
module _ {A B : Type 0} (s : Sizes) (r : Renewals) where
  pub refuses_same : (fault : RenewFault) → RefusesBad {A = A} s r (Err fault) → RefusesBad {A = B} s r (Err fault)
  refuses_same fault same = (
    (λ is. same.0.0 (err_of fault ReserveOutOfRange is), λ why. err_of fault ReserveOutOfRange (same.0.1 why)),
    (
      λ is. same.1.0 (err_of fault (Open ThreadsOutOfRange) is),
      λ why. err_of fault (Open ThreadsOutOfRange)
          (same.1.1 why),
    ),
    (
      λ is. same.2.0 (err_of fault (Open TokensOutOfRange) is),
      λ why. err_of fault (Open TokensOutOfRange)
          (same.2.1 why),
    ),
    λ most. (
      λ is. (same.3 most).0 (err_of fault (GenerationsOutOfRange most) is),
      λ why. err_of fault (GenerationsOutOfRange most) ((same.3 most).1 why),
    ),
  )

  pub refuses_none : (value : A) (made : B) → RefusesBad s r (Ok value) → RefusesBad s r (Ok made)
  refuses_none value made same = (
    (λ is. absurd (no_fault made _ is), λ why. absurd (no_fault value _ (same.0.1 why))),
    (λ is. absurd (no_fault made _ is), λ why. absurd (no_fault value _ (same.1.1 why))),
    (λ is. absurd (no_fault made _ is), λ why. absurd (no_fault value _ (same.2.1 why))),
    λ most. (λ is. absurd (no_fault made _ is), λ why. absurd (no_fault value _ ((same.3 most).1 why))),
  )

  pub refuses_memory : (value : A) → RefusesBad s r (Ok value) → RefusesBad {A = B} s r (Err (Open Memory))
  refuses_memory value same = (
    (λ is. search (rules, is), λ why. absurd (no_fault value _ (same.0.1 why))),
    (λ is. search (rules, is), λ why. absurd (no_fault value _ (same.1.1 why))),
    (λ is. search (rules, is), λ why. absurd (no_fault value _ (same.2.1 why))),
    λ most. (λ is. search (rules, is), λ why. absurd (no_fault value _ ((same.3 most).1 why))),
  )

pub never_done : (fault : RenewFault) → renew_number fault ≡ 0 → ⊥
never_done (Open ThreadsOutOfRange) is = omega (arith, is)
never_done (Open TokensOutOfRange) is = omega (arith, is)
never_done (Open Memory) is = omega (arith, is)
never_done (Open CallsOutOfRange) is = omega (arith, is)
never_done ReserveOutOfRange is = omega (arith, is)
never_done (GenerationsOutOfRange most) is = omega (arith, is)

-- what was found of sizes for a capacity
abbrev pub AreFor : ℕ → ℕ → ℕ → ℕ → Sizes → Type 0
AreFor k capacity threads last s = (s.threads ≡ threads) × (s.tokens ≡ tokens_for capacity threads) × (s.shape.k ≡ k)
    × (s.shape.n ≡ segments_for (threads * tokens_for capacity threads) k) × (s.shape.last ≡ last)
    × (s.shape.probes ≡ k)

module _ (s : Sizes) (r : Renewals) (k capacity threads last : ℕ) (are : AreFor k capacity threads last s)
    (room : HasRoom capacity s) (few : threads ≤ 64) where
  some_thread : 0 < s.threads
  some_thread = omega (arith, room.enough, room.few_more)

  few_threads : s.threads ≤ 64
  few_threads = omega (arith, are.0, few)

  some_tokens : 0 < s.tokens
  some_tokens = omega (arith, are.1)

  out_of_range : r.reserve < s.shape.last → BadGenerations threads r.generations
      → HasBadGenerations (generations_for threads) s r
  out_of_range below bad = (
    below,
    record { threads = (some_thread, few_threads); tokens = (some_tokens, room.at_most) },
    ap generations_for (sym are.0),
    bad,
  )

  memory_left : {A : Type 0} (fault : RenewFault) → RefusesBad {A = A} s r (Err fault) → r.reserve < s.shape.last
      → ¬ BadGenerations threads r.generations → renew_number fault ≡ 7
  memory_left (Open ThreadsOutOfRange) refuses below good =
      absurd (⊎_elim (λ none. omega (arith, none, some_thread)) (λ many. omega (arith, many, few_threads))
      (refuses.1.0 refl).1)
  memory_left (Open TokensOutOfRange) refuses below good =
      absurd (⊎_elim (λ none. omega (arith, none, some_tokens)) (λ many. omega (arith, many, room.at_most))
      (refuses.2.0 refl).3)
  memory_left (Open Memory) refuses below good = refl
  memory_left (Open CallsOutOfRange) refuses below good = refl
  memory_left ReserveOutOfRange refuses below good = absurd (omega (arith, refuses.0.0 refl, below))
  memory_left (GenerationsOutOfRange most) refuses below good =
      let why = (refuses.3 most).0 refl in
      absurd (good (subst (λ (m : ℕ). IsOutOf m r.generations) (why.2 ∙ ap generations_for are.0) why.3))

  -- what an opening returns that was not refused
  pub answer_done : {A : Type 0} (value : A) → RefusesBad s r (Ok value)
      → IsAnswer last r.reserve threads r.generations 0
  answer_done value refuses = record {
    bad_reserve = λ bad. absurd (no_fault value _ (refuses.0.1 (omega (arith, bad, are.4))));
    bad_generations = λ below bad. absurd (no_fault value _ ((refuses.3 (generations_for threads)).1
        (out_of_range (omega (arith, below, are.4)) bad)));
    memory = λ below good. inl refl;
  }

  -- and one that was
  pub answer_refused : {A : Type 0} (fault : RenewFault) (number : ℕ) → number ≡ renew_number fault
      → RefusesBad {A = A} s r (Err fault)
      → IsAnswer last r.reserve threads r.generations number
  answer_refused fault number is refuses = record {
    bad_reserve = λ bad. is ∙ ap (λ e. renew_number (fault_in fault e)) (refuses.0.1 (omega (arith, bad, are.4)));
    bad_generations = λ below bad. is
        ∙ ap (λ e. renew_number (fault_in fault e)) ((refuses.3 (generations_for threads)).1
        (out_of_range (omega (arith, below, are.4)) bad));
    memory = λ below good. inr (is ∙ memory_left fault refuses (omega (arith, below, are.4)) good);
  }

  -- the handles of a queue of these sizes
  pub opens_for : {T : Type 0} (bare : Bool) (handles : List (Generations T))
      → HaveOne (opening_with bare (sizes_again s)) handles
      → length handles ≡ s.threads → OpensFor bare k capacity last threads handles
  opens_for bare handles have count = record {
    sizes = s;
    k_is = are.2;
    segments_are = are.3;
    last_is = are.4;
    probes_are = are.5;
    threads_are = are.0;
    tokens_are = are.1;
    room = room;
    have_one = have;
    count = count ∙ are.0;
  }
