use Rattle.std.proofs.Common.{◌≤◌, List, length, map, sym, subst, arith}
use Rattle.std.proofs.lemmas.List.{length-map}
use Rattle.serde_json.specs.View.{view}
use Rattle.kfifo_model.proofs.Types.{Call}
use Rattle.kfifo_model.specs.Validity.{IsHistory}
use Rattle.kfifo_model.specs.Records.{IsRecordOf}
use Rattle.kfifo_model.proofs.RecordLemmas.{is_array, too_many, member_fault}
use Rattle.kfifo_model.proofs.reading.read_history.Goals as goal

pub returns-then-len-gt-MAX_CALLS : goal.returns-then-len-gt-MAX_CALLS
returns-then-len-gt-MAX_CALLS c =
    too_many (view c.args.json.now) c.in-Some.members.now.items c.in-Some.ensures (let e = c.len.ensures in omega arith)

pub returns-in-Ok : goal.returns-in-Ok
returns-in-Ok c =
    let P : List Call → Type 0 = λ h. IsRecordOf (view c.args.json.now) h × IsHistory h in
    let small : length c.deref.result.now ≤ 65536 =
    (let e = c.len.ensures in let f = c.deref.ensures.len in omega arith) in
    subst P (sym c.of_valid.ensures) (
      (
        map view c.deref.result.now,
        is_array (view c.args.json.now) c.in-Some.members.now.items c.deref.result.now c.deref.ensures.value
            c.in-Some.ensures,
        rw length-map small,
        c.in-Ok.ensures.0,
        c.in-Ok.ensures.1,
      ),
      c.in-Ok.ensures.2,
    )

pub returns-in-Err : goal.returns-in-Err
returns-in-Err c =
    let small : length c.deref.result.now ≤ 65536 =
    (let e = c.len.ensures in let f = c.deref.ensures.len in omega arith) in
    member_fault (view c.args.json.now) (map view c.deref.result.now) c.in-Err.fault
    (is_array (view c.args.json.now) c.in-Some.members.now.items c.deref.result.now c.deref.ensures.value
    c.in-Some.ensures)
    (rw length-map small) c.in-Err.ensures
