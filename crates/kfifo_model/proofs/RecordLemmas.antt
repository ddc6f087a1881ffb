-- The call that an object's entry says is in range and fits its operation; members that are read so far, and their
-- faults.
use Rattle.std.proofs.Common.{ℕ, ◌≡◌, ◌≢◌, ◌<◌, ◌≤◌, ◌^◌, ◌&&◌, Bool, true, false, cond, ltb, List, [], ◌∷◌, ◌++◌}
use Rattle.std.proofs.Common.{length, map, get_or, refl, sym, ◌∙◌, ap, subst, inl, inr, arith, Option, Some, None}
use Rattle.std.proofs.Common.{String, string_bytes}
use Rattle.std.specs.Result.{IfOk}
use Rattle.std.specs.declared.result.Result.{Result}
use Rattle.std.specs.declared.result.Result.TheVariants.{Ok, Err}
use Rattle.std.specs.declared.alloc.Global.{Global}
use Rattle.std.specs.List.{list_all}
use Rattle.std.proofs.lemmas.Bool.{cases_lt, and_parts, ltb-true, false≢true}
use Rattle.serde_json.specs.Data.{Data, null, boolean, number, string, array, object, Members}
use Rattle.serde_json.specs.Find.{as_object, as_array}
use Rattle.serde_json.specs.View.{view, items_of, items_view, members_of}
use Rattle.serde_json.specs.declared.value.Value.{Value}
use Rattle.kfifo_model.specs.declared.calls.Op.TheVariants as ops
use Rattle.kfifo_model.specs.declared.calls.Answer.{Answer}
use Rattle.kfifo_model.specs.declared.calls.Answer.TheVariants as answers
use Rattle.kfifo_model.proofs.Types.{Call}
use Rattle.kfifo_model.specs.declared.spellings.OpWord.{OpWord}
use Rattle.kfifo_model.specs.declared.spellings.OpWord.TheVariants.{Enq, Deq}
use Rattle.kfifo_model.specs.declared.spellings.AnswerWord.{AnswerWord}
use Rattle.kfifo_model.specs.declared.spellings.AnswerWord.TheVariants.{Done, Full, Got, Empty, Busy, Worn, Other}
use Rattle.kfifo_model.specs.declared.reading.Ending.{Ending}
use Rattle.kfifo_model.specs.declared.reading.Entry.{Entry}
use Rattle.kfifo_model.specs.declared.reading.Flaw.{Flaw}
use Rattle.kfifo_model.specs.declared.reading.Flaw.TheVariants as flaws
use Rattle.std.specs.Option.{option_map}
use Rattle.std.proofs.lemmas.List.{get_or-map, length-map}
use Rattle.std.proofs.Common.{length-append}
use Rattle.kfifo_model.specs.Histories.{call}
use Rattle.kfifo_model.specs.declared.history.RecordFault.{RecordFault}
use Rattle.kfifo_model.specs.declared.history.RecordFault.TheVariants as faults
use Rattle.kfifo_model.proofs.Watching.{before_last, the_last}
use Rattle.kfifo_model.specs.declared.effects.Effect.TheVariants.{Wrong}
use Rattle.kfifo_model.specs.Relaxed.{effect}
use Rattle.kfifo_model.specs.Validity.{IsHistory, IsItem, IsInRange, OpInRange, AnswerInRange, Answers}
use Rattle.kfifo_model.specs.Records.{IsReadFault, IsMemberFault, is_key, are_keys, has_known_keys, members, at}
use Rattle.kfifo_model.specs.Records.{AreRead, IsRead, IsReadTo, item_fits, is_item_number, is_in_range, answer_of}
use Rattle.kfifo_model.specs.Records.{op_of, ending_of, with_ending, call_of, list_of}

pub keys_known : (es : List (String Global × Value))
    → list_all (λ k. is_key (string_bytes k)) (map (λ e. e.0) es)
    ≡ are_keys (members_of (map (λ m. (m.0, view m.1)) es))
keys_known [] = refl
keys_known (e ∷ es) = ap (λ b. is_key (string_bytes e.0) && b) (keys_known es)

pub list_of-items_of : (ds : List Data) → list_of (items_of ds) ≡ ds
list_of-items_of [] = refl
list_of-items_of (d ∷ ds) = ap (λ t. d ∷ t) (list_of-items_of ds)

-- ---- the call that an entry says is one by itself

some_is : (a b : Answer) → Some a ≡ Some b → a ≡ b
some_is a b q = cc

ok_is : (a b : Call) → (let r : Result Call Flaw = Ok a in let t : Result Call Flaw = Ok b in r ≡ t) → a ≡ b
ok_is a b q = cc

item_in : (x : ℕ) → is_item_number (Some x) ≡ true → IsItem x
item_in x e = let p = and_parts (ltb 0 x) (ltb x (2 ^ 24)) e in (ltb-true 0 x p.0, ltb-true x (2 ^ 24) p.1)

op_in : (w : OpWord) (o : Option ℕ) → is_item_number o ≡ true → OpInRange (op_of w o)
op_in Enq (Some x) e = item_in x e
op_in Enq None e = tt
op_in Deq o e = tt

answer_in : (w : OpWord) (v : AnswerWord) (o : Option ℕ) (a : Answer) → is_item_number o ≡ true
    → answer_of w v o ≡ Some a → AnswerInRange a
answer_in Enq Done o a e q = let P : Answer → Type 0 = λ t. AnswerInRange t in subst P (some_is answers.Done a q) tt
answer_in Enq Full o a e q = let P : Answer → Type 0 = λ t. AnswerInRange t in subst P (some_is answers.Full a q) tt
answer_in Enq Got o a e q = absurd (cc)
answer_in Enq Empty o a e q = absurd (cc)
answer_in Enq Busy o a e q = let P : Answer → Type 0 = λ t. AnswerInRange t in subst P (some_is answers.Busy a q) tt
answer_in Enq Worn o a e q = let P : Answer → Type 0 = λ t. AnswerInRange t in subst P (some_is answers.Worn a q) tt
answer_in Enq Other o a e q = absurd (cc)
answer_in Deq Done o a e q = absurd (cc)
answer_in Deq Full o a e q = absurd (cc)
answer_in Deq Got (Some y) a e q = let P : Answer → Type 0 = λ t. AnswerInRange t in
    subst P (some_is (answers.Got y) a q) (item_in y e)
answer_in Deq Got None a e q = absurd (cc)
answer_in Deq Empty o a e q = let P : Answer → Type 0 = λ t. AnswerInRange t in subst P (some_is answers.Empty a q) tt
answer_in Deq Busy o a e q = let P : Answer → Type 0 = λ t. AnswerInRange t in subst P (some_is answers.Busy a q) tt
answer_in Deq Worn o a e q = let P : Answer → Type 0 = λ t. AnswerInRange t in subst P (some_is answers.Worn a q) tt
answer_in Deq Other o a e q = absurd (cc)

-- the answer is one of the operation's
answer_fits : (w : OpWord) (v : AnswerWord) (o : Option ℕ) (a : Answer) (last : ℕ)
    → item_fits w (Some (record { last = last; answer = v })) o ≡ true → answer_of w v o ≡ Some a
    → effect (op_of w o) a ≢ Wrong
answer_fits Enq Done (Some x) a last f q = let P : Answer → Type 0 = λ t. effect (ops.Enqueue x) t ≢ Wrong in
    subst P (some_is answers.Done a q) (λ n. cc)
answer_fits Enq Full (Some x) a last f q = let P : Answer → Type 0 = λ t. effect (ops.Enqueue x) t ≢ Wrong in
    subst P (some_is answers.Full a q) (λ n. cc)
answer_fits Enq Got o a last f q = absurd (cc)
answer_fits Enq Empty o a last f q = absurd (cc)
answer_fits Enq Busy (Some x) a last f q = let P : Answer → Type 0 = λ t. effect (ops.Enqueue x) t ≢ Wrong in
    subst P (some_is answers.Busy a q) (λ n. cc)
answer_fits Enq Worn (Some x) a last f q = let P : Answer → Type 0 = λ t. effect (ops.Enqueue x) t ≢ Wrong in
    subst P (some_is answers.Worn a q) (λ n. cc)
answer_fits Enq Other o a last f q = absurd (cc)
answer_fits Enq v None a last f q = absurd (false≢true f)
answer_fits Deq Done o a last f q = absurd (cc)
answer_fits Deq Full o a last f q = absurd (cc)
answer_fits Deq Got (Some y) a last f q = let P : Answer → Type 0 = λ t. effect ops.Dequeue t ≢ Wrong in
    subst P (some_is (answers.Got y) a q) (λ n. cc)
answer_fits Deq Got None a last f q = absurd (cc)
answer_fits Deq Empty o a last f q = let P : Answer → Type 0 = λ t. effect ops.Dequeue t ≢ Wrong in
    subst P (some_is answers.Empty a q) (λ n. cc)
answer_fits Deq Busy o a last f q = let P : Answer → Type 0 = λ t. effect ops.Dequeue t ≢ Wrong in
    subst P (some_is answers.Busy a q) (λ n. cc)
answer_fits Deq Worn o a last f q = let P : Answer → Type 0 = λ t. effect ops.Dequeue t ≢ Wrong in
    subst P (some_is answers.Worn a q) (λ n. cc)
answer_fits Deq Other o a last f q = absurd (cc)

-- what a call is by itself
abbrev IsValid : Call → Type 0
IsValid c = IsInRange c × Answers c.op c.end

valid_with : (e : Entry) (a : Option Answer) (x : Ending) (c : Call) → is_in_range e ≡ true
    → a ≡ answer_of e.op x.answer e.item
    → e.ending ≡ Some x → item_fits e.op (Some x) e.item ≡ true
    → with_ending e (option_map (λ b. Some (record { last = x.last; answer = b })) a) ≡ Ok c → IsValid c
valid_with e None x c r i is f q = absurd (cc)
valid_with e (Some a) x c r i is f q =
    let p = and_parts (ltb e.thread 64) (is_item_number e.item) r in
    subst IsValid (ok_is _ c q) (
      (ltb-true e.thread 64 p.0, op_in e.op e.item p.1, answer_in e.op x.answer e.item a p.1 (sym i)),
      answer_fits e.op x.answer e.item a x.last f (sym i),
    )

valid_end : (e : Entry) (o : Option Ending) (c : Call) → is_in_range e ≡ true → e.ending ≡ o
    → item_fits e.op o e.item ≡ true
    → with_ending e (ending_of e.op o e.item) ≡ Ok c → IsValid c
valid_end e None c r is f q =
    let p = and_parts (ltb e.thread 64) (is_item_number e.item) r in
    subst IsValid (ok_is _ c q) ((ltb-true e.thread 64 p.0, op_in e.op e.item p.1, tt), tt)
valid_end e (Some x) c r is f q = valid_with e (answer_of e.op x.answer e.item) x c r refl is f q

valid_if : (e : Entry) (b : Bool) (c : Call) → b ≡ is_in_range e → item_fits e.op e.ending e.item ≡ true
    → cond b (with_ending e (ending_of e.op e.ending e.item)) (Err flaws.NumberOutOfRange) ≡ Ok c → IsValid c
valid_if e true c r f q = valid_end e e.ending c (sym r) refl f q
valid_if e false c r f q = absurd (cc)

pub valid_call : (e : Entry) (c : Call) → item_fits e.op e.ending e.item ≡ true → call_of e ≡ Ok c → IsInRange c
    × Answers c.op c.end
valid_call e c f q = valid_if e (is_in_range e) c refl f q

pub valid_result : (e : Entry) (r : Result Call Flaw) → item_fits e.op e.ending e.item ≡ true → r ≡ call_of e
    → IfOk r (λ c. IsInRange c × Answers c.op c.end)
valid_result e (Ok c) f q = valid_call e c f (sym q)
valid_result e (Err x) f q = tt

pub known_object : (d : Data) (ms : Members) → Some ms ≡ as_object d → has_known_keys d ≡ are_keys ms
known_object null ms q = absurd (cc)
known_object (boolean b) ms q = absurd (cc)
known_object (number n) ms q = absurd (cc)
known_object (string s) ms q = absurd (cc)
known_object (array ds) ms q = absurd (cc)
known_object (object ns) ms q = let e : ns ≡ ms = cc in ap are_keys e

-- ---- the members of a record

pub members_array : (d : Data) (ds : List Data) → Some (items_of ds) ≡ as_array d → members d ≡ Some ds
members_array d ds q = ap (option_map list_of) (sym q) ∙ ap (λ t. Some t) (list_of-items_of ds)

-- one more call
pub read_more : (ds : List Data) (h : List Call) (c : Call) (n : ℕ) → length h ≡ n → AreRead ds h
    → IsRead (at ds n) (Ok c)
    → AreRead ds (h ++ c ∷ [])
read_more ds h c n len r i j lt =
    let P : Call → Type 0 = λ w. IsRead (at ds j) (Ok w) in
    elim (cases_lt j n) [
      | inl below ↦ (let lj : j < length h = omega arith in subst P (sym (before_last h c j lj)) (r j lj))
      | inr le ↦ (
          let e = length-append h (c ∷ []) in
          let same : j ≡ n = omega arith in
          let Q : ℕ → Type 0 = λ w. IsRead (at ds w) (Ok (call (h ++ c ∷ []) w)) in
          let S : Call → Type 0 = λ w. IsRead (at ds n) (Ok w) in
          subst Q (sym same) (subst S (sym (the_last h c n len)) i)
          )
    ]

-- a member, as the data that it is
pub read_at : (vs : List Value) (v : Value) (n : ℕ) (r : Result Call Flaw) → n < length vs → v ≡ get_or vs n v
    → IsRead (view v) r
    → IsRead (at (map view vs) n) r
read_at vs v n r lt e i =
    let P : Data → Type 0 = λ d. IsRead d r in
    subst P (sym (get_or-map view vs n v null lt ∙ ap view (sym e))) i

pub read_to : (vs : List Value) (h : List Call) (n : ℕ) → n < length vs → length h ≡ n → AreRead (map view vs) h
    → IsHistory h
    → IsReadTo (map view vs) n h
read_to vs h n lt len r v = record { inside = rw length-map lt; sized = len; read = r; valid = v }

pub is_array : (d : Data) (vs ws : List Value) → ws ≡ vs → Some (items_view vs) ≡ as_array d
    → members d ≡ Some (map view ws)
is_array d vs ws e q = members_array d (map view vs) q ∙ ap (λ t. Some (map view t)) (sym e)

pub too_many : (d : Data) (vs : List Value) → Some (items_view vs) ≡ as_array d → 65536 < length vs
    → IsReadFault d faults.TooMany
too_many d vs q lt = (map view vs, members_array d (map view vs) q, rw length-map lt)

pub member_fault : (d : Data) (ds : List Data) (f : RecordFault) → members d ≡ Some ds → length ds ≤ 65536
    → IsMemberFault ds f
    → IsReadFault d f
member_fault d ds faults.NotAList e le i = absurd i
member_fault d ds faults.TooMany e le i = absurd i
member_fault d ds (faults.NotACall n) e le i = (ds, e, le, i)
member_fault d ds (faults.NumberOutOfRange n) e le i = (ds, e, le, i)
member_fault d ds (faults.WrongAnswer n) e le i = (ds, e, le, i)
member_fault d ds (faults.EndsEarly n) e le i = (ds, e, le, i)
member_fault d ds (faults.OutOfOrder n) e le i = (ds, e, le, i)
member_fault d ds (faults.Overlap n) e le i = (ds, e, le, i)
member_fault d ds faults.Memory e le i = (ds, e, le, i)
