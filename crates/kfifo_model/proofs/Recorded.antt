-- Who reads the record of a history has that history.
use Rattle.std.proofs.Common.{◌≡◌, ℕ, ◌<◌, ◌≤◌, ◌^◌, true, false, List, [], ◌∷◌, Option, Some, None, Ok, codes, length}
use Rattle.std.proofs.Common.{map, refl, sym, ap, subst, arith}
use Rattle.std.specs.Prelude.{nat_lt}
use Rattle.std.proofs.lemmas.Bool.Decides.{nat_tests}
use Rattle.std.proofs.lemmas.Grind.{common_steps}
use Rattle.std.proofs.lemmas.List.{length-map}
use Rattle.serde_json.specs.Data.{Data, depth, items_depth}
use Rattle.serde_json.specs.View.{items_of}
use Rattle.serde_json.specs.Written.{has_float, items_have_float}
use Rattle.kfifo_model.specs.declared.calls.Op.{Op}
use Rattle.kfifo_model.specs.declared.calls.Op.TheVariants as O
use Rattle.kfifo_model.specs.declared.calls.Answer.{Answer}
use Rattle.kfifo_model.specs.declared.calls.Answer.TheVariants as A
use Rattle.kfifo_model.specs.declared.calls.End.{End}
use Rattle.kfifo_model.specs.declared.calls.Call.{Call}
use Rattle.kfifo_model.specs.declared.spellings.OpWord.{OpWord}
use Rattle.kfifo_model.specs.declared.spellings.OpWord.TheVariants.{Enq, Deq}
use Rattle.kfifo_model.specs.declared.spellings.AnswerWord.{AnswerWord}
use Rattle.kfifo_model.specs.declared.spellings.AnswerWord.TheVariants as W
use Rattle.kfifo_model.specs.declared.reading.Ending.{Ending}
use Rattle.kfifo_model.specs.declared.reading.Entry.{Entry}
use Rattle.kfifo_model.specs.Histories.{call}
use Rattle.kfifo_model.proofs.RecordLemmas.{list_of-items_of}
use Rattle.kfifo_model.specs.Records.{IsRead, IsRecordOf, at}
use Rattle.kfifo_model.specs.Validity.{Answers, EndInRange, IsHistory, OpInRange}
use Rattle.kfifo_model.specs.RecordTexts.{call_value, record_value}

-- ---- the text has no float and is not deep

abbrev IsPlain : Data → Type 0
IsPlain d = (has_float d ≡ false) × (depth d ≡ 1)

plain_call : (c : Call) → IsPlain (call_value c)
plain_call c = cases c.op c.end
  where
    answers : (last : ℕ) (answer : Answer) → IsPlain
        (call_value (record {
          thread = c.thread;
          op = O.Dequeue;
          first = c.first;
          end = Some (record {
            last = last;
            answer = answer;
          });
        }))
    answers last A.Done = (refl, refl)
    answers last A.Full = (refl, refl)
    answers last (A.Got item) = (refl, refl)
    answers last A.Empty = (refl, refl)
    answers last A.Busy = (refl, refl)
    answers last A.Worn = (refl, refl)

    cases : (op : Op) (end : Option End) → IsPlain (call_value (record {
      thread = c.thread;
      op = op;
      first = c.first;
      end = end;
    }))
    cases (O.Enqueue item) None = (refl, refl)
    cases (O.Enqueue item) (Some end) = (refl, refl)
    cases O.Dequeue None = (refl, refl)
    cases O.Dequeue (Some end) = answers end.last end.answer

pub no_float : (calls : List Call) → items_have_float (items_of (map call_value calls)) ≡ false
no_float [] = refl
no_float (c ∷ calls) = rw ((plain_call c).0) (no_float calls)

pub few_levels : (calls : List Call) → items_depth (items_of (map call_value calls)) ≤ 1
few_levels [] = omega arith
few_levels (c ∷ calls) = let here = (plain_call c).1 in let rest = few_levels calls in omega (arith, here, rest)

-- ---- what an object says

lt_true : (a b : ℕ) → a < b → nat_lt a b ≡ true
lt_true a b h = grind (arith, nat_tests)

-- an end with this word
abbrev ended : ℕ → AnswerWord → Option Ending
ended last word = Some (record { last = last; answer = word })

module _ (thread first : ℕ) (small : thread < 64) where
  abbrev entry : OpWord → Option ℕ → Option Ending → Entry
  entry op item ending = record { thread = thread; op = op; item = item; first = first; ending = ending }

  -- the call of this thread that begins there
  abbrev made : Op → Option End → Call
  made op end = record { thread = thread; op = op; first = first; end = end }

  -- its object is read as the call
  abbrev Reads : Op → Option End → Type 0
  Reads op end = IsRead (call_value (made op end)) (Ok (made op end))

  module _ (item : ℕ) (some : 0 < item) (fits : item < 2 ^ 24) where
    put : (last : ℕ) (answer : Answer) → Answers (O.Enqueue item) (Some (record { last = last; answer = answer }))
        → Reads (O.Enqueue item) (Some (record { last = last; answer = answer }))
    put last A.Done own = (
      entry Enq (Some item) (ended last W.Done),
      record {
        keys = refl;
        thread = refl;
        op = refl;
        first = refl;
        item = refl;
        ending = (refl, codes "done", refl, refl);
        fits = refl;
      },
      rw (lt_true thread 64 small, lt_true 0 item some, lt_true item (2 ^ 24) fits) refl,
    )
    put last A.Full own = (
      entry Enq (Some item) (ended last W.Full),
      record {
        keys = refl;
        thread = refl;
        op = refl;
        first = refl;
        item = refl;
        ending = (refl, codes "full", refl, refl);
        fits = refl;
      },
      rw (lt_true thread 64 small, lt_true 0 item some, lt_true item (2 ^ 24) fits) refl,
    )
    put last A.Busy own = (
      entry Enq (Some item) (ended last W.Busy),
      record {
        keys = refl;
        thread = refl;
        op = refl;
        first = refl;
        item = refl;
        ending = (refl, codes "busy", refl, refl);
        fits = refl;
      },
      rw (lt_true thread 64 small, lt_true 0 item some, lt_true item (2 ^ 24) fits) refl,
    )
    put last A.Worn own = (
      entry Enq (Some item) (ended last W.Worn),
      record {
        keys = refl;
        thread = refl;
        op = refl;
        first = refl;
        item = refl;
        ending = (refl, codes "worn", refl, refl);
        fits = refl;
      },
      rw (lt_true thread 64 small, lt_true 0 item some, lt_true item (2 ^ 24) fits) refl,
    )
    put last (A.Got other) own = absurd (own refl)
    put last A.Empty own = absurd (own refl)

    unfinished : Reads (O.Enqueue item) None
    unfinished = (
      entry Enq (Some item) None,
      record { keys = refl; thread = refl; op = refl; first = refl; item = refl; ending = (refl, refl); fits = refl },
      rw (lt_true thread 64 small, lt_true 0 item some, lt_true item (2 ^ 24) fits) refl,
    )

    got : (last : ℕ) → Reads O.Dequeue (Some (record { last = last; answer = A.Got item }))
    got last = (
      entry Deq (Some item) (ended last W.Got),
      record {
        keys = refl;
        thread = refl;
        op = refl;
        first = refl;
        item = refl;
        ending = (refl, codes "got", refl, refl);
        fits = refl;
      },
      rw (lt_true thread 64 small, lt_true 0 item some, lt_true item (2 ^ 24) fits) refl,
    )

  taken : (last : ℕ) (answer : Answer) → Answers O.Dequeue (Some (record { last = last; answer = answer }))
      → EndInRange (Some (record { last = last; answer = answer }))
      → Reads O.Dequeue (Some (record { last = last; answer = answer }))
  taken last A.Done own ranged = absurd (own refl)
  taken last A.Full own ranged = absurd (own refl)
  taken last (A.Got item) own ranged = got item ranged.0 ranged.1 last
  taken last A.Empty own ranged = (
    entry Deq None (ended last W.Empty),
    record {
      keys = refl;
      thread = refl;
      op = refl;
      first = refl;
      item = refl;
      ending = (refl, codes "empty", refl, refl);
      fits = refl;
    },
    rw (lt_true thread 64 small) refl,
  )
  taken last A.Busy own ranged = (
    entry Deq None (ended last W.Busy),
    record {
      keys = refl;
      thread = refl;
      op = refl;
      first = refl;
      item = refl;
      ending = (refl, codes "busy", refl, refl);
      fits = refl;
    },
    rw (lt_true thread 64 small) refl,
  )
  taken last A.Worn own ranged = (
    entry Deq None (ended last W.Worn),
    record {
      keys = refl;
      thread = refl;
      op = refl;
      first = refl;
      item = refl;
      ending = (refl, codes "worn", refl, refl);
      fits = refl;
    },
    rw (lt_true thread 64 small) refl,
  )

  reads : (op : Op) (end : Option End) → OpInRange op → EndInRange end → Answers op end → Reads op end
  reads (O.Enqueue item) None op end own = unfinished item op.0 op.1
  reads (O.Enqueue item) (Some e) op end own = put item op.0 op.1 e.last e.answer own
  reads O.Dequeue None op end own = (
    entry Deq None None,
    record { keys = refl; thread = refl; op = refl; first = refl; item = refl; ending = (refl, refl); fits = refl },
    rw (lt_true thread 64 small) refl,
  )
  reads O.Dequeue (Some e) op end own = taken e.last e.answer own end

-- ---- the whole record

-- the member of a record is the object of its call
member_is : (calls : List Call) (n : ℕ) → n < length calls → at (map call_value calls) n ≡ call_value (call calls n)
member_is [] n inside = absurd (omega (arith, inside))
member_is (c ∷ calls) n inside = grind (arith, common_steps)

pub is_record : (calls : List Call) → IsHistory calls → length calls ≤ 65536 → IsRecordOf (record_value calls) calls
is_record calls valid few =
    let values = map call_value calls in
    let same = list_of-items_of values in
    let sized : length values ≡ length calls = length-map calls call_value in (
      values,
      ap Some same,
      omega (arith, sized, few),
      sym sized,
      λ n inside.
          let good = valid n inside in
          let c = call calls n in
          subst (λ d. IsRead d (Ok c)) (sym (member_is calls n inside))
          (reads c.thread c.first good.ranged.0 c.op c.end good.ranged.1 good.ranged.2 good.answers),
    )
