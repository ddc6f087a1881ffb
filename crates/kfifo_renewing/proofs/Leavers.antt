-- Passes that leave a generation join those that have left it.
use Rattle.std.proofs.Common.{◌≡◌, ◌+◌, ◌<◌, ◌++◌, ℕ, Bool, List, [], ◌∷◌, All, arith, length, length-append, map, refl}
use Rattle.std.proofs.Common.{sym, ap, ◌∙◌}
use Rattle.std.proofs.Common.{append_assoc, subst}
use Rattle.std.specs.List.{AllByRecursion, Contains}
use Rattle.std.proofs.lemmas.List.{append-nil, map-append}
use Rattle.kfifo_linear.specs.Seals.{SealedEmpty}
use Rattle.std.proofs.lemmas.List.Elements.{All-cons, All-nil, filter-append}
use mathlib.Core.List.{IsPrefix}
use Rattle.logbook.specs.Pages.{Book, Cell}
use Rattle.kfifo_machine.specs.Runs.{Begins, own}
use Rattle.kfifo_machine.specs.declared.event.Event.{Event}
use Rattle.kfifo_live.specs.Groups.{GroupView, LeaveNothing, Meets, threads_of}
use Rattle.kfifo_live.specs.Hands.{Gifts}
use Rattle.kfifo_live.specs.Pass.{HaveComeOut, IsPassOf, IsSealedEmpty, PassView, WasSealedEmpty, queue_of}
use Rattle.kfifo_live.specs.Payloads.{EndsIn, PayPassView}
use Rattle.kfifo_live.proofs.Groups.{begins-all, ends_more}
use Rattle.kfifo_renewing.specs.Departed.{HaveDeparted}
use Rattle.kfifo_renewing.specs.History.{AreInOne, HasRisen, IsGone, IsKept, IsMade, WasNewest, left_of, made_by}
use Rattle.kfifo_renewing.specs.History.{newest_of, queue_in, sight_of}
use Rattle.kfifo_renewing.specs.Joining.{HasSeenSealed, IsPart, IsPartIn, MayLeave, PartView, held_in}
use Rattle.kfifo_renewing.specs.Renewing.{HasLeft, Numbered}
use Rattle.kfifo_renewing.specs.declared.change.Change.{Change}
use Rattle.kfifo_renewing.specs.declared.change.Made.{Made}
use Rattle.kfifo_renewing.specs.declared.change.Sight.{Sight}
use Rattle.kfifo_renewing.specs.declared.change.Change.TheVariants as C
use Rattle.kfifo_renewing.proofs.Histories.{contains-later, gone-later, made-later, risen-from}
use Rattle.kfifo_renewing.proofs.Joining.{part-later}

-- what begins with something that begins with another begins with that
begins-on : (thread : ℕ) (xs ys zs : List Event) → Begins thread xs ys → Begins thread ys zs → Begins thread xs zs
begins-on thread xs ys zs b d = record {
  rest = b.rest ++ d.rest;
  goes_on = d.goes_on ∙ ap (λ l. l ++ d.rest) b.goes_on ∙ append_assoc xs b.rest d.rest;
  no_own = filter-append _ b.rest d.rest ∙ ap (λ l. l ++ own thread d.rest) b.no_own ∙ d.no_own;
}

-- a generation that was not the newest is not the newest as more of the history is seen
pub over-of : (cells : List Cell) (xs ys : List Change) (m n : ℕ) → m ≡ n → IsKept cells ys → IsPrefix xs ys
    → m < newest_of xs → n < newest_of ys
over-of cells xs ys m n at kept pre over =
    let up = risen-from xs ys pre kept.holds.risen in omega (arith, at, up, over)

-- a queue was sealed empty after a beginning of a schedule that goes on
sealed-on : (p q : PassView) → q.opened ≡ p.opened → Begins p.thread p.seen q.seen → WasSealedEmpty p → WasSealedEmpty q
sealed-on p q opened b s = record {
  first = s.first;
  begins = (
    s.begins.0 ++ b.rest,
    b.goes_on ∙ ap (λ l. l ++ b.rest) s.begins.1 ∙ append_assoc s.first s.begins.0 b.rest,
  );
  empty = subst (λ o. SealedEmpty o.shape o.threads s.first) (sym opened) s.empty;
}

-- what leaves a queue sealed empty is such a beginning itself
sealed-now : (p : PassView) → IsSealedEmpty p → WasSealedEmpty p
sealed-now p s = record { first = p.seen; begins = ([], sym (append-nil p.seen)); empty = s }

module _ {T : Type 0} where
  -- the generation of a part was the newest
  pub was-of : (cells : List Cell) (xs ys : List Change) (p : PartView T) (n : ℕ) → p.number ≡ n → IsKept cells ys
      → IsPrefix xs ys → IsPart xs p → WasNewest ys n
  was-of cells xs ys p n at kept pre part =
      subst (WasNewest ys) at (kept.holds.newest_there p.number p.place
      (contains-later xs ys (C.Placed p.number p.place) pre part.placed))

  -- a part may leave its generation as more of the history is seen
  pub may-later : (book mine : Book) (xs ys : List Change) (b : Bool) (p : PartView T) → mine ≡ book → IsPrefix xs ys
      → HasRisen ys → MayLeave book xs b p → MayLeave mine ys b p
  may-later book mine xs ys b p same pre risen may = record {
    same_book = may.same_book ∙ sym same;
    part = part-later xs ys p pre may.part;
    over = let up = risen-from xs ys pre risen in let over = may.over in omega (arith, up, over);
    sealed = may.sealed;
  }

  -- what these passes had seen as they left ends in the schedule of their group
  ends-of : (all : List Event) (gifts : Gifts T) (ps : List (PayPassView T)) → AllByRecursion (EndsIn all gifts) ps
      → All (λ (s : Sight). Begins s.thread s.seen all) (map (λ (p : PayPassView T). sight_of p.pass) ps)
  ends-of all gifts [] ends = All-nil (λ (s : Sight). Begins s.thread s.seen all)
  ends-of all gifts (p ∷ ps) ends = All-cons (λ (s : Sight). Begins s.thread s.seen all) (sight_of p.pass) _
      ends.0.0 (ends-of all gifts ps ends.1)

  -- of passes that end in a schedule the last one does, and the others do
  pub ends-last : (all : List Event) (gifts : Gifts T) (ps : List (PayPassView T)) (p : PayPassView T)
      → AllByRecursion (EndsIn all gifts) (ps ++ p ∷ []) → AllByRecursion (EndsIn all gifts) ps × EndsIn all gifts p
  ends-last all gifts [] p ends = (tt, ends.0)
  ends-last all gifts (q ∷ ps) p ends =
      let r = ends-last all gifts ps p ends.1 in ((ends.0, r.0), r.1)

  -- the threads of sights are those of the passes
  sight-threads : (ps : List (PayPassView T))
      → threads_of ps ≡ map (λ (s : Sight). s.thread) (map (λ (p : PayPassView T). sight_of p.pass) ps)
  sight-threads [] = refl
  sight-threads (p ∷ ps) = ap (λ l. p.pass.thread ∷ l) (sight-threads ps)

  -- the sights of those that have left, and of a pass that leaves next
  next-sights : (g : Numbered) (book : Book) (log : List Change) (count : ℕ) (v : GroupView T) (p : PayPassView T)
      → (d : HaveDeparted g book log count v)
      → left_of g.number log ++ sight_of p.pass ∷ []
      ≡ d.first ∷ map (λ (q : PayPassView T). sight_of q.pass) (v.others ++ p ∷ [])
  next-sights g book log count v p d =
      let f : PayPassView T → Sight = λ (q : PayPassView T). sight_of q.pass in
      ap (λ l. l ++ f p ∷ []) d.left ∙ ap (λ l. d.first ∷ l) (sym (map-append f v.others (p ∷ [])))

  -- a pass that those have met who have left is in one schedule with them
  pub in-one : (g : Numbered) (book : Book) (log : List Change) (count : ℕ) (v w : GroupView T) (p : PayPassView T)
      → HaveDeparted g book log count v → Meets p v w
      → AreInOne (made_by g.queue) (left_of g.number log ++ sight_of p.pass ∷ [])
  in-one g book log count v w p d m =
      let all = w.first.pass in
      let P : Sight → Type 0 = λ (s : Sight). Begins s.thread s.seen all.seen in
      let sealed = sealed-on v.first.pass all m.same.1 m.later.0 d.sealed in
      let others = v.others ++ p ∷ [] in
      subst (AreInOne (made_by g.queue)) (sym (next-sights g book log count v p d)) (record {
        all = all;
        of = λ i. made_by (queue_of ((m.same.0 ∙ d.of.0) i) ((m.same.1 ∙ d.of.1) i));
        ends = All-cons P d.first _
            (begins-on d.first.thread d.first.seen v.first.pass.seen all.seen d.begins
            (subst (λ t. Begins t v.first.pass.seen all.seen) (sym d.thread) m.later.0))
            (ends-of all.seen w.first.gifts others m.ends);
        promise = m.promise;
        sealed = sealed;
        come_out = subst (λ ts. HaveComeOut ts all) (λ i. sym d.thread i ∷ sight-threads others i) (m.nothing sealed);
      })

  -- and so is the first one that leaves
  pub first-one : (g : Numbered) (p : PayPassView T) → IsPassOf g.queue p.pass → HasSeenSealed p.pass
      → LeaveNothing (p ∷ []) p.pass → AreInOne (made_by g.queue) (sight_of p.pass ∷ [])
  first-one g p of sealed nothing =
      let was = sealed-now p.pass sealed.0 in
      record {
        all = p.pass;
        of = λ i. made_by (queue_of (of.0 i) (of.1 i));
        ends = All-cons (λ (s : Sight). Begins s.thread s.seen p.pass.seen) (sight_of p.pass) []
            (begins-all p.pass.thread p.pass.seen) (All-nil (λ (s : Sight). Begins s.thread s.seen p.pass.seen));
        promise = sealed.1;
        sealed = was;
        come_out = nothing was;
      }

  -- a pass has left that is among those that have
  pub has-left : (g : Numbered) (xs log : List Change) (p : PartView T) → IsGone xs g.number → IsPartIn g p
      → IsPrefix xs log → Contains (left_of g.number xs) (sight_of p.handle.held.pass.pass)
      → AreInOne (made_by g.queue) (left_of g.number xs) → HasLeft log (held_in p)
  has-left g xs log p gone in-it pre there one =
      let q = p.handle.held.pass.pass in
      record {
        gone = subst (IsGone log) (sym in-it.0) (gone-later xs log g.number pre gone);
        before = xs;
        earlier = pre;
        left = subst (λ n. Contains (left_of n xs) (sight_of q)) (sym in-it.0) there;
        one = subst (λ (x : Made × ℕ). AreInOne x.0 (left_of x.1 xs))
            (λ i. (made_by (queue_of (sym in-it.2.0 i) (sym in-it.2.1 i)), sym in-it.0 i)) one;
      }

  -- the generation of a part is that in which it is, by its number and its queue
  pub made-there : (g : Numbered) (xs ys : List Change) (p : PartView T) (n : ℕ) → n ≡ g.number → IsPrefix xs ys
      → IsPartIn g p → IsPart xs p → IsMade ys n (made_by g.queue)
  made-there g xs ys p n at pre in-it part =
      subst (λ (x : ℕ × Made). IsMade ys x.0 x.1)
      (λ i. ((in-it.0 ∙ sym at) i, made_by (queue_of (in-it.2.0 i) (in-it.2.1 i))))
      (made-later xs ys p.number (queue_in p.handle.held.pass.pass) pre part.made)

  -- the first that leaves
  pub left-first : (g : Numbered) (book : Book) (log : List Change) (p : PayPassView T) (v : GroupView T)
      → IsPassOf g.queue p.pass → book ≡ g.book → left_of g.number log ≡ sight_of p.pass ∷ []
      → IsGone log g.number → HasSeenSealed p.pass → v.first ≡ p → v.others ≡ [] → HaveDeparted g book log 1 v
  left-first g book log p v of same left gone sealed first alone =
      let P : PayPassView T → Type 0 = λ q. IsPassOf g.queue q.pass × WasSealedEmpty q.pass
      × (sight_of q.pass ≡ sight_of p.pass) in
      let its : P v.first = subst P (sym first) (of, sealed-now p.pass sealed.0, refl) in
      record {
        of = its.0;
        same_book = same;
        gone = gone;
        counted = ap length left;
        first = sight_of v.first.pass;
        left = left ∙ (λ i. sym its.2 i ∷ map (λ (q : PayPassView T). sight_of q.pass) (sym alone i));
        thread = refl;
        begins = begins-all v.first.pass.thread v.first.pass.seen;
        ends = subst (AllByRecursion (EndsIn v.first.pass.seen v.first.gifts)) (sym alone) tt;
        sealed = its.1;
      }

  -- those that have left have met a pass
  pub left-met : (g : Numbered) (book : Book) (log : List Change) (count : ℕ) (v w : GroupView T) (p : PayPassView T)
      → HaveDeparted g book log count v → Meets p v w → HaveDeparted g book log count w
  left-met g book log count v w p d m =
      let f : PayPassView T → Sight = λ (q : PayPassView T). sight_of q.pass in
      record {
        of = (m.same.0 ∙ d.of.0, m.same.1 ∙ d.of.1);
        same_book = d.same_book;
        gone = d.gone;
        counted = d.counted;
        first = d.first;
        left = d.left ∙ ap (λ l. d.first ∷ map f l) (sym m.others);
        thread = d.thread ∙ sym m.same.2;
        begins = begins-on d.first.thread d.first.seen v.first.pass.seen w.first.pass.seen d.begins
            (subst (λ t. Begins t v.first.pass.seen w.first.pass.seen) (sym d.thread) m.later.0);
        ends = subst (AllByRecursion (EndsIn w.first.pass.seen w.first.gifts)) (sym m.others)
            (ends-last w.first.pass.seen w.first.gifts v.others p m.ends).0;
        sealed = sealed-on v.first.pass w.first.pass m.same.1 m.later.0 d.sealed;
      }

  -- one more that leaves
  pub left-more : (g : Numbered) (book mine : Book) (xs ys : List Change) (count : ℕ) (p : PayPassView T)
      (w x : GroupView T) → HaveDeparted g book xs count w → mine ≡ g.book
      → left_of g.number ys ≡ left_of g.number xs ++ sight_of p.pass ∷ []
      → EndsIn w.first.pass.seen w.first.gifts p → x.first ≡ w.first → x.others ≡ w.others ++ p ∷ []
      → IsPrefix xs ys → HaveDeparted g mine ys (count + 1) x
  left-more g book mine xs ys count p w x d books left its first others pre =
      let here : HaveDeparted g mine ys (count + 1) (record { first = w.first; others = w.others ++ p ∷ [] }) = record {
        of = d.of;
        same_book = books;
        gone = gone-later xs ys g.number pre d.gone;
        counted = ap length left ∙ length-append (left_of g.number xs) (sight_of p.pass ∷ [])
            ∙ ap (λ n. n + 1) d.counted;
        first = d.first;
        left = left ∙ next-sights g book xs count w p d;
        thread = d.thread;
        begins = d.begins;
        ends = ends_more w.first.pass.seen w.first.gifts w.others p d.ends its;
        sealed = d.sealed;
      } in
      subst (HaveDeparted g mine ys (count + 1)) (λ i. record { first = sym first i; others = sym others i }) here
