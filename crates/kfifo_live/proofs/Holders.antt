-- A token that an enqueue begins with is in no slot, and no other enqueue holds it: the holder law, a step at a time.
use Rattle.std.proofs.Common.{◌≡◌, ◌≢◌, ℕ, ◌<◌, List, [], ◌∷◌, ◌++◌, Option, Some, None, Bool, refl, sym, ap, ◌∙◌}
use Rattle.std.proofs.Common.{subst, arith}
use Rattle.std.proofs.lemmas.Bool.Decides.{nat_tests}
use Rattle.kfifo_live.proofs.Types.{Begin, EnqueuePhase, Event, Hand, Opening, Running, Shape}
use Rattle.kfifo_words.specs.Words.{value_of}
use Rattle.kfifo_words.specs.Ring.{clock_at}
use Rattle.kfifo_machine.specs.declared.event.Begin.TheVariants as B
use Rattle.kfifo_machine.specs.declared.place.Running.TheVariants as R
use Rattle.kfifo_machine.specs.Machine.{World, word_at, place_of, world_of, step, run}
use Rattle.kfifo_machine.specs.Runs.{going}
use Rattle.kfifo_machine.specs.Tokens.{AllBeginFree, BeginsFree, IsHeld, IsInSlot, held_at, held_in}
use Rattle.kfifo_machine.proofs.Schedules.{Some-injective, first_made}
use Rattle.kfifo_machine.proofs.Sound.{going_place, place_is, sound}
use Rattle.kfifo_live.specs.Schedule.{world_after}
use Rattle.kfifo_live.specs.Hands.{Gifts, Homes, Where, Out, In, out_in, BeginsWith, CallFits, HandFits, SlotsFit}
use Rattle.kfifo_live.proofs.TokensAfterStep.{begun_item}

In-not-Out : (i u : ℕ) → In i ≡ Out u → ⊥
In-not-Out i u e = cc

Out-injective : (t u : ℕ) → Out t ≡ Out u → t ≡ u
Out-injective t u e = cc

held_out_in : (item x : ℕ) (phase : EnqueuePhase) → held_in item phase ≡ Some x → out_in item phase ≡ x
held_out_in item x phase holds = grind (arith, nat_tests)

-- a hand that fits a place at which the thread holds a token has it out
held_out : {T : Type 0} (bare : Bool) (words : ℕ → ℕ) (gifts : Gifts T) (hand : Hand T) (r : Running) (x : ℕ)
    → held_at r ≡ Some x
    → CallFits bare words gifts hand (Some r) → hand.out ≡ x
held_out bare words gifts hand (R.Enqueue item start left phase) x holds fits = fits.0 ∙ held_out_in item x phase holds
held_out bare words gifts hand (R.Dequeue start left phase) x holds fits = absurd (cc)

module _ {T : Type 0} (o : Opening) (all : List Event) (world : World) (at : ℕ → Where) (gifts : Gifts T)
    (homes : Homes T) (thread : ℕ) where
  -- what a thread holds is out with it
  held_is_out : ((u : ℕ) → (hand : Hand T) × HandFits o.bare (word_at world) (place_of world u) at gifts homes u hand)
      → (u : ℕ) (r : Running) (x : ℕ) → 0 < x → place_of world u ≡ Some r → held_at r ≡ Some x → at x ≡ Out u
  held_is_out holders u r x some there holds =
      let h = holders u in
      let out : h.0.out ≡ x =
      held_out o.bare (word_at world) gifts h.0 r x holds (subst (CallFits o.bare (word_at world) gifts h.0) there
      h.1.stands) in
      ap at (sym out) ∙ (h.1.out (λ none. absurd (let e = out in let p = some in omega arith))).0

  -- The call of a thread begins with a free item
  pub begins_free : (begin : Option Begin) (r : Running) (hand : Hand T) (held : List (ℕ × Option T))
      → world_after o all ≡ Some world
      → going o.shape (place_of world thread) begin ≡ Some r
      → SlotsFit o.bare (clock_at o.shape.k o.shape.n) (word_at world) at gifts homes → HandFits o.bare (word_at world)
      (place_of world thread) at gifts homes thread hand → BeginsWith o.bare begin hand held
      → ((u : ℕ) → (hand : Hand T) × HandFits o.bare (word_at world) (place_of world u) at gifts homes u hand)
      → BeginsFree o.shape world begin
  begins_free None r hand held reached goes slots fits begins holders = tt
  begins_free (Some (B.Dequeue start turns)) r hand held reached goes slots fits begins holders = tt
  begins_free (Some B.Tick) r hand held reached goes slots fits begins holders = tt
  begins_free (Some B.Seal) r hand held reached goes slots fits begins holders = tt
  begins_free (Some (B.Enqueue item start turns)) r hand held reached goes slots fits begins holders =
      let call : Option Begin = Some (B.Enqueue item start turns) in
      let is_r = going_place o.shape (place_of world thread) call r
      (λ q there. place_is o.shape world thread q (sound o.shape o.threads all world reached) there) goes in
      let some : 0 < item = begun_item o.shape (place_of world thread) call r goes is_r item start turns refl in
      let out : at item ≡ Out thread = ap at (sym begins.0) ∙
      (fits.out (λ none. absurd (let e = begins.0 in let p = some in omega arith))).0 in (
        λ (s : IsInSlot o.shape world item).
            let filled : value_of (word_at world s.index) ≢ 0 =
            λ none. absurd (let e = s.stands in let p = some in omega arith) in
            In-not-Out s.index thread (sym (slots s.index s.above s.below filled).0 ∙ ap at s.stands ∙ out),
        λ (h : IsHeld world item).
            let same : h.thread ≡ thread = Out-injective h.thread thread
            (sym (held_is_out holders h.thread h.place item some h.there h.holds) ∙ out) in
            in_call h.place (place_of world thread) (ap (place_of world) (sym same) ∙ h.there) goes,
      )
    where
      in_call : (q : Running) (place : Option Running) → place ≡ Some q
          → going o.shape place (Some (B.Enqueue item start turns)) ≡ Some r
          → ⊥
      in_call q None e goes = absurd (cc)
      in_call q (Some p) e goes = absurd (cc)

-- one event more, which begins with a free item
pub begin_free_on : (shape : Shape) (from here : World) (all : List Event) (e : Event)
    → run shape (Some from) all ≡ Some here
    → AllBeginFree shape (Some from) all → BeginsFree shape here e.begin
    → AllBeginFree shape (Some from) (all ++ e ∷ [])
begin_free_on shape from here [] e is all free =
    (subst (λ (w : World). BeginsFree shape w e.begin) (sym (Some-injective from here is)) free, tt)
begin_free_on shape from here (x ∷ xs) e is all free =
    let m = first_made shape from x here xs is in
    let next : world_of (step shape from x) ≡ Some m.0 = ap world_of m.1.1.0 in
    let rest = begin_free_on shape m.0 here xs e m.1.1.1 (subst (λ (w : Option World). AllBeginFree shape w xs) next
    all.1) free in
    (all.0, subst (λ (w : Option World). AllBeginFree shape w (xs ++ e ∷ [])) (sym next) rest)

-- a beginning of a schedule keeps the law
pub begin_free_before : (shape : Shape) (from there : World) (xs ys : List Event) → run shape (Some from) (xs ++ ys)
    ≡ Some there
    → AllBeginFree shape (Some from) (xs ++ ys) → AllBeginFree shape (Some from) xs
begin_free_before shape from there [] ys is all = tt
begin_free_before shape from there (x ∷ xs) ys is all =
    let m = first_made shape from x there (xs ++ ys) is in
    let next : world_of (step shape from x) ≡ Some m.0 = ap world_of m.1.1.0 in
    let rest = begin_free_before shape m.0 there xs ys m.1.1.1
    (subst (λ (w : Option World). AllBeginFree shape w (xs ++ ys)) next all.1) in
    (all.0, subst (λ (w : Option World). AllBeginFree shape w xs) (sym next) rest)
