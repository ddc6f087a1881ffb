use Rattle.std.proofs.Common.{◌≡◌, ◌∙◌, ◌+◌, ◌++◌, ◌∷◌, [], length, get_or, ap, arith, rules, subst, sym}
use Rattle.std.proofs.lemmas.List.{get_or_default, get_or_read}
use Rattle.kfifo_model.specs.declared.calls.Call.{Call}
use Rattle.kfifo_model.specs.Histories.{call, no_call}
use Rattle.kfifo_import.specs.Stamping.{AreEndStamps, AreStampedTo, HaveEnded, first_at, restamped}
use Rattle.kfifo_import.proofs.Stamps.{all_stamped}
use Rattle.kfifo_import.proofs.Steps.{end_more, one_more, other_call}
use Rattle.kfifo_import.proofs.stamping.stamped.Goals as goal

pub loop-number-preserved : goal.loop-number-preserved
loop-number-preserved c =
    let calls = c.args.calls.now in
    let ends = c.as_slice-ends.result.now in
    let stamps = c.in_ok-stamps.stamps.items in
    let n = c.loop-number.number in
    let ended = c.ended_before-ended.result in
    let read : get_or calls n other_call ≡ call calls n =
    get_or_default calls n other_call no_call c.loop-number-test.true in
    let have : HaveEnded ends (first_at calls n) ended =
    subst (λ (x : Call). HaveEnded ends x.first ended) read c.ended_before-ended.ensures in
    let last : c.index.result.now ≡ get_or stamps n 0 =
    get_or_read stamps n c.index.result.now (omega (arith, c.in_ok-stamps.ensures.sized)) c.index.ensures 0 in
    let is : c.restamped.result ≡ restamped (call calls n) (n + ended) (get_or stamps n 0) =
    c.restamped.ensures
    ∙ (ap (λ x. restamped x (n + ended) c.index.result.now) read ∙ ap (restamped (call calls n) (n + ended))
    last) in
    let items : c.push.new.self.items ≡ c.loop-number.found.items ++ c.restamped.result ∷ [] = search rules in
    record {
      ended = end_more calls ends n ended c.requires.by_first have;
      found = subst (AreStampedTo calls ends stamps (n + 1)) (sym items)
          (one_more calls ends stamps n c.loop-number.found.items
          c.restamped.result c.loop-number.invariant.found (record { ended = ended; have_ended = have; is = is }));
    }

pub returns : goal.returns
returns c =
    let all : length c.args.calls.now ≡ c.loop-number.number = omega arith in
    let same = c.as_slice-ends.ensures.value in
    let stamps = c.in_ok-stamps.stamps.items in
    let stamped : AreEndStamps c.args.calls.now c.in_ok-ends.ends.items (length c.in_ok-ends.ends.items) stamps =
    rw same at c.in_ok-stamps.ensures in
    let found : AreStampedTo c.args.calls.now c.in_ok-ends.ends.items stamps c.loop-number.number
    c.loop-number.found.items =
    rw same at c.loop-number.invariant.found in
    all_stamped c.args.calls.now c.loop-number.found.items c.in_ok-ends.ends.items stamps c.loop-number.number all
    c.in_ok-ends.ensures stamped c.requires.by_first found
