use Rattle.std.proofs.Common.{◌≡◌, ◌<◌, length, ◌∙◌, arith}
use Rattle.std.proofs.lemmas.List.{get_or_default}
use Rattle.kfifo_verdict.specs.Finding.{no_stay}
use Rattle.kfifo_verdict.proofs.Staying.{longest_more, longest_all, longest_held}
use Rattle.kfifo_verdict.proofs.finding.longest_stays.Goals as goal

pub loop-n-preserved : goal.loop-n-preserved
loop-n-preserved c =
    let h = c.args.calls.now in
    let n = c.loop-n.n in
    let stays = c.in_ok-stays.stays.items in
    let b = c.in_ok-stays.ensures in
    let size = b.sized in
    let test = c.loop-n-test.true in
    let end = c.len-n-end.ensures in
    let here : n < length stays = omega (arith, test, end) in
    let inside : n < length h = omega (arith, here, size) in
    longest_more h c.args.presences.now stays c.loop-n.longest.items c.push.new.self.items c.loop-n.best
    c.index.result.now
    c.longer-best.result n c.requires.history b inside
    (c.index.ensures ∙ get_or_default stays n _ no_stay here) c.longer-best.ensures c.in_ok-push.ensures.items
    c.loop-n.invariant

pub returns-clause-stays : goal.returns-clause-stays
returns-clause-stays c =
    let size = c.in_ok-stays.ensures.sized in
    let end = c.len-n-end.ensures in
    let test = c.loop-n-test.false in
    let most = c.loop-n.auto.n-end in
    let all : c.loop-n.n ≡ length c.args.calls.now = omega (arith, size, end, test, most) in
    longest_all c.args.calls.now c.args.presences.now c.loop-n.longest.items c.loop-n.best c.loop-n.n
    c.requires.presences
    c.loop-n.invariant all

pub returns-clause-longest : goal.returns-clause-longest
returns-clause-longest c =
    let size = c.in_ok-stays.ensures.sized in
    let end = c.len-n-end.ensures in
    let test = c.loop-n-test.false in
    let most = c.loop-n.auto.n-end in
    let all : c.loop-n.n ≡ length c.args.calls.now = omega (arith, size, end, test, most) in
    longest_held c.args.calls.now c.args.presences.now c.loop-n.longest.items c.loop-n.best c.loop-n.n
    c.requires.presences
    c.loop-n.invariant all
