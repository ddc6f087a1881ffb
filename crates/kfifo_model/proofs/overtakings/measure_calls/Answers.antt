use Rattle.std.proofs.Common.{◌≡◌, ◌+◌, Bool, List, length, refl, sym, ◌∙◌, ap, subst, Some, None}
use Rattle.std.specs.List.{count_by, flat_map}
use Rattle.std.specs.BTreeMap.{get}
use Rattle.std.specs.Ordering.{nat_cmp}
use Rattle.kfifo_model.proofs.Types.{Call, Rival}
use Rattle.kfifo_model.specs.declared.overtakings.Overtaken.{Overtaken}
use Rattle.kfifo_model.specs.Histories.{call}
use Rattle.kfifo_model.specs.Rivals.{rivals_below, last_of, is_beaten}
use Rattle.kfifo_model.specs.Measures.{measured, done_item}
use Rattle.kfifo_model.proofs.Checking.{read}
use Rattle.kfifo_model.proofs.Counting.{count-permuted}
use Rattle.kfifo_model.proofs.Indexing.{measured_some, measured_none}
use Rattle.kfifo_model.proofs.overtakings.measure_calls.Goals as goal
use Rattle.kfifo_model.proofs.overtakings.measure_calls.Goals.{in-Some+in_ok-push, in_default}

pub loop-n-preserved : goal.loop-n-preserved
loop-n-preserved c =
    let h = c.args.calls.now in
    let n = c.loop-n.n in
    let same = read h n _ c.loop-n-test.true in
    let P : List Overtaken → Type 0 = λ t. t ≡ measured h (n + 1) in
    elim c.match-measure_call.branch [
      | in-Some+in_ok-push w ↦ (
          let o = w.in-Some.overtaken in
          let in_blocks = flat_map (λ (b : List Rival). b) c.deref-in-loop-n.result.now in
          let rivals = rivals_below h (λ x. get nat_cmp c.args.puts.now x) (length h) in
          let Q : Call → Type 0 = λ t. (done_item t.op t.end ≡ Some o.item)
          × (o.count ≡ count_by (λ r. is_beaten (last_of t.end) (get nat_cmp c.args.gots.now o.item) r) in_blocks) in
          let q = subst Q same (w.in-Some.ensures.1, w.in-Some.ensures.2) in
          let beaten : Rival → Bool = λ r. is_beaten (last_of (call h n).end) (get nat_cmp c.args.gots.now o.item) r in
          let sorted : in_blocks ≡ c.sort_by_key.new.self.items =
          ap (flat_map (λ (b : List Rival). b)) c.deref-in-loop-n.ensures.value ∙ c.in_ok-blocks.ensures
          ∙ c.deref.ensures.value in
          let same_count : count_by beaten in_blocks ≡ count_by beaten rivals =
          ap (count_by beaten) sorted ∙ count-permuted beaten c.in_ok-rivals.rivals.items c.sort_by_key.new.self.items
          c.sort_by_key.ensures.permutation ∙ ap (count_by beaten) c.in_ok-rivals.ensures in
          subst P (ap (λ v. v.items) (sym w.found-is))
          (measured_some h (λ x. get nat_cmp c.args.puts.now x) (λ x. get nat_cmp c.args.gots.now x) c.requires.puts
          c.requires.gots n
          rivals c.loop-n.found.items w.push.new.self.items o
          refl c.loop-n.invariant w.in-Some.ensures.0 q.0 (q.1 ∙ same_count) w.in_ok-push.ensures.items)
          )
      | in_default w ↦ (
          let Q : Call → Type 0 = λ t. done_item t.op t.end ≡ None in
          subst P (ap (λ v. v.items) (sym w.found-is))
          (measured_none h n c.loop-n.found.items c.loop-n.invariant (subst Q same w.in_default.ensures))
          )
    ]
