use Rattle.std.proofs.Common.{◌≡◌, ◌+◌, [], List, length, map, refl, sym, ◌∙◌, subst, arith, length-append}
use Rattle.std.specs.declared.result.Result.TheVariants.{Ok, Err}
use Rattle.std.proofs.lemmas.Bool.{false≢true}
use Rattle.std.proofs.lemmas.List.{length-map}
use Rattle.serde_json.specs.View.{view}
use Rattle.kfifo_model.proofs.Types.{Call}
use Rattle.kfifo_model.specs.declared.reading.Flaw.{Flaw}
use Rattle.kfifo_model.specs.declared.reading.Flaw.TheVariants.{NotACall, NumberOutOfRange, WrongAnswer}
use Rattle.kfifo_model.specs.Validity.{IsHistory}
use Rattle.kfifo_model.specs.Records.{IsRead, AreRead}
use Rattle.kfifo_model.proofs.Watching.{AreSoFar, Tests, none_so_far, fault_ends, fault_rises, fault_lets, more_valid}
use Rattle.kfifo_model.proofs.Watching.{more_noted}
use Rattle.kfifo_model.proofs.RecordLemmas.{read_more, read_at, read_to}
use Rattle.kfifo_model.proofs.reading.read_members.Goals as goal

pub loop-n-init : goal.loop-n-init
loop-n-init c =
    let none = c.in_ok-reserve_exact.ensures.items ∙ c.new-calls.ensures.items in
    let P : List Call → Type 0 = λ h. (length h ≡ 0) × IsHistory h × AreRead (map view c.args.members.now) h
    × AreSoFar h 0 c.new-so_far.result in
    let p = subst P (sym none) (
      refl,
      λ n lt. absurd (omega arith),
      λ n lt. absurd (omega arith),
      none_so_far [] c.new-so_far.result c.new-so_far.ensures.sized c.new-so_far.ensures.latest
          c.new-so_far.ensures.threads,
    ) in
    record { sized = p.0; valid = p.1; read = p.2; seen = p.3 }

pub returns-in-Err-NotACall : goal.returns-in-Err-NotACall
returns-in-Err-NotACall c =
    let P : Flaw → Type 0 = λ w. IsRead (view c.index-members-n.result) (Err w) in (
      c.loop-n.calls.items,
      read_to c.args.members.now c.loop-n.calls.items c.loop-n.n c.loop-n-test.true c.loop-n.invariant.sized
          c.loop-n.invariant.read c.loop-n.invariant.valid,
      read_at c.args.members.now c.index-members-n.result c.loop-n.n (Err NotACall) c.loop-n-test.true
          c.index-members-n.is (subst P c.in-Err-NotACall.field-0-is c.in-Err-NotACall.ensures.read),
    )

pub returns-in-Err-NumberOutOfRange : goal.returns-in-Err-NumberOutOfRange
returns-in-Err-NumberOutOfRange c =
    let P : Flaw → Type 0 = λ w. IsRead (view c.index-members-n.result) (Err w) in (
      c.loop-n.calls.items,
      read_to c.args.members.now c.loop-n.calls.items c.loop-n.n c.loop-n-test.true c.loop-n.invariant.sized
          c.loop-n.invariant.read c.loop-n.invariant.valid,
      read_at c.args.members.now c.index-members-n.result c.loop-n.n (Err NumberOutOfRange) c.loop-n-test.true
          c.index-members-n.is (subst P c.in-Err-NumberOutOfRange.field-0-is c.in-Err-NumberOutOfRange.ensures.read),
    )

pub returns-in-Err-WrongAnswer : goal.returns-in-Err-WrongAnswer
returns-in-Err-WrongAnswer c =
    let P : Flaw → Type 0 = λ w. IsRead (view c.index-members-n.result) (Err w) in (
      c.loop-n.calls.items,
      read_to c.args.members.now c.loop-n.calls.items c.loop-n.n c.loop-n-test.true c.loop-n.invariant.sized
          c.loop-n.invariant.read c.loop-n.invariant.valid,
      read_at c.args.members.now c.index-members-n.result c.loop-n.n (Err WrongAnswer) c.loop-n-test.true
          c.index-members-n.is (subst P c.in-Err-WrongAnswer.field-0-is c.in-Err-WrongAnswer.ensures.read),
    )

pub returns-then-not-ends_from : goal.returns-then-not-ends_from
returns-then-not-ends_from c = (
  c.loop-n.calls.items,
  c.in-Ok.call,
  read_to c.args.members.now c.loop-n.calls.items c.loop-n.n c.loop-n-test.true c.loop-n.invariant.sized
      c.loop-n.invariant.read c.loop-n.invariant.valid,
  read_at c.args.members.now c.index-members-n.result c.loop-n.n (Ok c.in-Ok.call) c.loop-n-test.true
      c.index-members-n.is c.in-Ok.ensures.read,
  fault_ends c.loop-n.calls.items c.in-Ok.call c.loop-n.n c.loop-n.invariant.sized c.loop-n.invariant.valid
      c.in-Ok.ensures.valid.0 c.in-Ok.ensures.valid.1 (λ e. false≢true (c.if-not-ends_from.ensures.1 e)),
)

pub returns-then-not-rises : goal.returns-then-not-rises
returns-then-not-rises c = (
  c.loop-n.calls.items,
  c.in-Ok.call,
  read_to c.args.members.now c.loop-n.calls.items c.loop-n.n c.loop-n-test.true c.loop-n.invariant.sized
      c.loop-n.invariant.read c.loop-n.invariant.valid,
  read_at c.args.members.now c.index-members-n.result c.loop-n.n (Ok c.in-Ok.call) c.loop-n-test.true
      c.index-members-n.is c.in-Ok.ensures.read,
  fault_rises c.loop-n.calls.items c.in-Ok.call c.loop-n.n c.loop-n.so_far c.loop-n.invariant.sized
      c.loop-n.invariant.valid
      c.loop-n.invariant.seen c.in-Ok.ensures.valid.0 c.in-Ok.ensures.valid.1 (c.if-not-ends_from.ensures.0 refl)
      (λ e. false≢true (c.if-not-rises.ensures.1 e)),
)

pub returns-then-not-lets : goal.returns-then-not-lets
returns-then-not-lets c = (
  c.loop-n.calls.items,
  c.in-Ok.call,
  read_to c.args.members.now c.loop-n.calls.items c.loop-n.n c.loop-n-test.true c.loop-n.invariant.sized
      c.loop-n.invariant.read c.loop-n.invariant.valid,
  read_at c.args.members.now c.index-members-n.result c.loop-n.n (Ok c.in-Ok.call) c.loop-n-test.true
      c.index-members-n.is c.in-Ok.ensures.read,
  fault_lets c.loop-n.calls.items c.in-Ok.call c.loop-n.n c.loop-n.so_far c.loop-n.invariant.sized
      c.loop-n.invariant.valid
      c.loop-n.invariant.seen c.in-Ok.ensures.valid.0 c.in-Ok.ensures.valid.1 (c.if-not-ends_from.ensures.0 refl)
      (c.if-not-rises.ensures.0 refl) (λ d e. false≢true ((c.if-not-lets.ensures d).1 e)),
)

pub loop-n-preserved : goal.loop-n-preserved
loop-n-preserved c =
    let tests : Tests c.loop-n.so_far c.in-Ok.call = record {
      ranged = c.in-Ok.ensures.valid.0;
      answers = c.in-Ok.ensures.valid.1;
      ends = c.if-not-ends_from.ensures.0 refl;
      rises = c.if-not-rises.ensures.0 refl;
      lets = λ d. (c.if-not-lets.ensures d).0 refl;
    } in
    let P : List Call → Type 0 = λ h. (length h ≡ c.loop-n.n + 1) × IsHistory h
    × AreRead (map view c.args.members.now) h
    × AreSoFar h (c.loop-n.n + 1) c.note.new.self in
    let p = subst P (sym c.in_ok-push.ensures.items) (
      simp length-append (let z = c.loop-n.invariant.sized in omega arith),
      more_valid c.loop-n.calls.items c.in-Ok.call c.loop-n.n c.loop-n.so_far c.loop-n.invariant.sized
          c.loop-n.invariant.valid c.loop-n.invariant.seen tests,
      read_more (map view c.args.members.now) c.loop-n.calls.items c.in-Ok.call c.loop-n.n c.loop-n.invariant.sized
          c.loop-n.invariant.read
          (read_at c.args.members.now c.index-members-n.result c.loop-n.n (Ok c.in-Ok.call) c.loop-n-test.true
          c.index-members-n.is
          c.in-Ok.ensures.read),
      more_noted c.loop-n.calls.items c.in-Ok.call c.loop-n.n c.loop-n.so_far c.note.new.self c.loop-n.invariant.sized
          c.loop-n.invariant.seen tests c.note.ensures.latest c.note.ensures.threads,
    ) in
    record { sized = p.0; valid = p.1; read = p.2; seen = p.3 }

pub returns : goal.returns
returns c = (
  rw length-map (let z = c.loop-n.invariant.sized in omega arith),
  c.loop-n.invariant.read,
  c.loop-n.invariant.valid,
)
