-- The entry says that the pass has left, as one more than had left before.
use Rattle.std.proofs.Common.{◌≡◌, ◌+◌, ◌*◌, ◌/◌, ◌<◌, ◌^◌, ◌==◌, ◌++◌, [], ◌∷◌, None, arith, length, sym, ap, ◌∙◌}
use Rattle.std.proofs.Common.{subst}
use Rattle.std.proofs.lemmas.Bool.Decides.{nat_tests}
use Rattle.std.proofs.lemmas.Nat.{div_below}
use prog.Atomic.{either}
use Rattle.logbook.specs.Pages.{Moves, step}
use Rattle.kfifo_renewing.specs.declared.change.Change.TheVariants as C
use Rattle.kfifo_renewing.specs.History.{IsKept, IsNextToLeave, Leaves, NextView, WasNewest, key_of, left_in, left_of}
use Rattle.kfifo_renewing.specs.History.{sight_of}
use Rattle.kfifo_renewing.proofs.Departing.{depart-moves, next-later}
use Rattle.kfifo_renewing.proofs.Histories.{prefix-trans, risen-from, was-later}
use Rattle.kfifo_renewing.proofs.Keeping.{moved, shown}
use Rattle.kfifo_renewing.proofs.history.Next.depart.Goals as goal

pub compare_exchange-found-requires : goal.compare_exchange-found-requires
compare_exchange-found-requires g c =
    let h = c.self.invariant in
    let offer = c.plain-offer.ensures in
    let book = ap (λ (v : NextView). v.book) c.self.view_is in
    let number = ap (λ (v : NextView). v.number) c.self.view_is in
    let old = c.args.history.now.log in
    let log = c.read-word.new.history.log in
    let more = c.read-word.ensures.later.1 in
    let n = c.self.inside.number in
    let w = c.read-word.result in
    let pen = c.no_pen-pen.result.nib in
    let t = sight_of c.args.part.now.handle.held.pass.pass in
    let up : w + 2 ^ 32 ≡ c.in-Some.new = omega (arith, c.in-Some.ensures) in
    let same : n ≡ c.args.part.now.number = number ∙ sym c.requires.number in (
      ap (λ w. w.tracked) h,
      c.read-word.ensures.later.0 ∙ c.requires.book ∙ sym book,
      c.no_pen-pen.ensures.0 ∙ c.read-word.ensures.later.0 ∙ c.requires.book ∙ sym book,
      offer.0,
      rw (ap (λ w. w.key) h, offer.1, offer.3) (subst (λ m. Moves IsKept shown moved (key_of n) (log, (pen, None))
          (λ k. either (k == w) m k)
          (Leaves (step (key_of n) w m (C.Left c.args.part.now.number t)) (log, (pen, None)))) up
          (subst (λ m. Moves IsKept shown moved (key_of n) (log, (pen, None)) (λ k. either (k == w) (w + 2 ^ 32) k)
          (Leaves (step (key_of n) w (w + 2 ^ 32) (C.Left m t)) (log, (pen, None)))) same
          (depart-moves log pen t n w
          (was-later old log n more (subst (WasNewest old) (sym number) c.requires.newest))
          (let over = c.requires.over in let rises = risen-from old log more c.read-word.ensures.finds.risen in
          omega (arith, over, rises, number))
          (next-later old log n c.args.count w t more (sym c.if-word-count.false)
          (subst (λ m. IsNextToLeave old m c.args.count t) (sym number) c.requires.together))))),
    )

pub returns-clause-few : goal.returns-clause-few
returns-clause-few g c same =
    let w = c.read-word.result in
    let small : w < 2 ^ 32 * 2 ^ 32 = omega (arith, c.in-Some.ensures) in
    let half : w / 2 ^ 32 < 2 ^ 32 = div_below w (2 ^ 32) (2 ^ 32) (omega arith) small in
    subst (λ k. k < 2 ^ 32) c.if-word-count.false half

pub returns-clause-left : goal.returns-clause-left
returns-clause-left g c won before begins many =
    let number = ap (λ (v : NextView). v.number) c.self.view_is in
    let t = sight_of c.args.part.now.handle.held.pass.pass in
    let log = c.read-word.new.history.log in
    let n = c.self.inside.number in
    let asked : C.Left c.args.part.now.number t ≡ C.Left n t =
    ap (λ m. C.Left m t) (c.requires.number ∙ sym number) in
    let same : c.compare_exchange-found.result ≡ c.read-word.result = grind (arith, nat_tests) in
    let as_many : length (left_of n before) ≡ left_in c.read-word.result =
    ap (λ m. length (left_of m before)) number ∙ many ∙ sym c.if-word-count.false in
    subst (λ m. left_of m c.compare_exchange-found.new.seen.log ≡ left_of m before ++ t ∷ []) number
    (c.compare_exchange-found.ensures.7 t n before (c.plain-offer.ensures.1 ∙ asked) (ap (λ w. w.key) c.self.invariant)
    same (prefix-trans before c.args.history.now.log log begins c.read-word.ensures.later.1) as_many)
