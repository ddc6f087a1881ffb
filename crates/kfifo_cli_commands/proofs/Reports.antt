-- Scripts on a queue with one pass.
use Rattle.std.proofs.Common.{◌≡◌, ◌≢◌, ℕ, ◌+◌, ◌<◌, List, [], ◌∷◌, ◌++◌, length, Some, arith, refl, sym, ◌∙◌, ap}
use Rattle.std.proofs.Common.{subst, append_assoc, append-nil, add-one, get_or, take}
use Rattle.std.proofs.Math.Seq.{take-suc}
use Rattle.kfifo_words.specs.Ring.{slot_at}
use Rattle.kfifo_cli_texts.specs.Lines.{slot_line}
use Rattle.kfifo_cli_commands.proofs.Types.{Begin, Shape}
use Rattle.kfifo_model.specs.declared.calls.Answer.{Answer}
use Rattle.kfifo_machine.specs.declared.event.Event.{Event}
use Rattle.kfifo_machine.specs.Machine.{World, after, run, opening, word_at}
use Rattle.kfifo_machine.specs.Runs.{Begins, CompleteExecution, own}
use Rattle.kfifo_machine.proofs.Schedules.{Some-injective, run_before, first_made, made_within, own_none}
use Rattle.kfifo_machine.proofs.Sound.{sound_threads}
use Rattle.kfifo_live.specs.Pass.{OpenQueue, PassView, IsSamePass, Finds}
use Rattle.kfifo_cli_commands.specs.Reports.{IsAlone, RunInTurn, call_line, slot_lines}

-- a machine with one thread has no events of others
no_others : (shape : Shape) (seen rest : List Event) (here there : World) → after shape 1 seen ≡ Some here
    → own 0 rest ≡ []
    → run shape (Some here) rest ≡ Some there → rest ≡ []
no_others shape seen [] here there reached none is = refl
no_others shape seen (e ∷ es) here there reached none is =
    let made = first_made shape here e there es is in
    let within : e.thread < length here.places = made_within shape here e made.0 made.1.0 made.1.1.0 in
    let one : length here.places ≡ 1 = sound_threads shape 1 seen here reached in
    let other : 0 ≢ e.thread = (own_none 0 e es none).0 in
    absurd (other (omega (arith, within, one)))

-- so what its pass has seen is the whole schedule
pub alone : (shape : Shape) (seen all : List Event) (there : World) → Begins 0 seen all → after shape 1 all ≡ Some there
    → all ≡ seen
alone shape seen all there b reached =
    let split = run_before shape (Some (opening shape 1)) there seen b.rest
    (subst (λ events. after shape 1 events ≡ Some there) b.goes_on reached) in
    let none : b.rest ≡ [] = no_others shape seen b.rest split.0 there split.1 b.no_own split.2 in
    b.goes_on ∙ (ap (λ rest. seen ++ rest) none ∙ append-nil seen)

-- one more call
pub run_on : (shape : Shape) (calls : List Begin) (answers : List Answer) (old mid new : List Event) (text : List ℕ)
    (call : Begin) (answer : Answer)
    → RunInTurn shape calls answers old mid text → CompleteExecution shape 1 0 call answer mid new
    → RunInTurn shape (calls ++ call ∷ []) (answers ++ answer ∷ []) old new (text ++ call_line call answer)
run_on shape [] [] old mid new text call answer r w = (
  new,
  [],
  subst (λ events. CompleteExecution shape 1 0 call answer events new) r.0 w,
  (refl, refl),
  ap (λ t. t ++ call_line call answer) r.1 ∙ sym (append-nil (call_line call answer)),
)
run_on shape [] (a ∷ answers) old mid new text call answer r w = absurd r
run_on shape (c ∷ calls) [] old mid new text call answer r w = absurd r
run_on shape (c ∷ calls) (a ∷ answers) old mid new text call answer r w = (
  r.0,
  r.1 ++ call_line call answer,
  r.2,
  run_on shape calls answers r.0 mid new r.1 call answer r.3 w,
  ap (λ t. t ++ call_line call answer) r.4 ∙ append_assoc (call_line c a) r.1 (call_line call answer),
)

-- a pass that saw nothing new is as it was
same_pass : (p q : PassView) → IsSamePass p q → q.seen ≡ p.seen → q ≡ p
same_pass p q s seen =
    ap (λ t. record q { table = t }) s.0
    ∙ (ap (λ o. record q { table = p.table; opened = o }) s.1
    ∙ (ap (λ n. record q { table = p.table; opened = p.opened; thread = n }) s.2
    ∙ ap (λ e. record p { seen = e }) seen))

-- a load by the only pass finds a word that the whole schedule leaves
pub loads : (queue : OpenQueue) (p q : PassView) (index word : ℕ) → IsAlone queue p → IsSamePass p q
    → Finds p q index word
    → (q ≡ p) × ((world : World) × (after queue.opened.shape 1 p.seen ≡ Some world) × (word ≡ word_at world index))
loads queue p q index word a s f =
    let threads : p.opened.threads ≡ 1 = ap (λ o. o.threads) a.of.1 ∙ a.one in
    let reached : after p.opened.shape 1 q.seen ≡ Some f.world =
    subst (λ t. after p.opened.shape t q.seen ≡ Some f.world) threads f.reached in
    let begins : Begins 0 p.seen q.seen = subst (λ t. Begins t p.seen q.seen) a.first f.others in
    let seen : q.seen ≡ p.seen = alone p.opened.shape p.seen q.seen f.world begins reached in
    let here : after p.opened.shape 1 p.seen ≡ Some f.world =
    subst (λ events. after p.opened.shape 1 events ≡ Some f.world) seen reached in
    (same_pass p q s seen, (f.world, subst (λ o. after o.shape 1 p.seen ≡ Some f.world) a.of.1 here, f.word_is))

-- one more call of a script
pub run_more : (shape : Shape) (calls : List Begin) (place : ℕ) (d : Begin) (answers : List Answer)
    (old mid new : List Event) (lines : List ℕ) (answer : Answer)
    → place < length calls → RunInTurn shape (take place calls) answers old mid lines
    → CompleteExecution shape 1 0 (get_or calls place d) answer mid new
    → RunInTurn shape (take (place + 1) calls) (answers ++ answer ∷ []) old new
    (lines ++ call_line (get_or calls place d) answer)
run_more shape calls place d answers old mid new lines answer inside runs whole =
    rw (add-one, take-suc calls place d inside)
    (run_on shape (take place calls) answers old mid new lines (get_or calls place d) answer runs whole)

-- one more text behind two
pub behind : (old loop new lines line : List ℕ) → loop ≡ old ++ lines → new ≡ loop ++ line
    → new ≡ old ++ (lines ++ line)
behind old loop new lines line e h = h ∙ (ap (λ t. t ++ line) e ∙ append_assoc old lines line)

-- one more slot
pub slot_more : (k : ℕ) (world : World) (segment slot word : ℕ) (old loop new : List ℕ)
    → loop ≡ old ++ slot_lines k world segment slot
    → new ≡ loop ++ slot_line segment slot word → word ≡ word_at world (slot_at k segment slot)
    → new ≡ old ++ slot_lines k world segment (slot + 1)
slot_more k world segment slot word old loop new e h is =
    rw add-one (behind old loop new _ _ e (subst (λ w. new ≡ loop ++ slot_line segment slot w) is h))

-- a schedule leaves one world
pub one_world : (shape : Shape) (p q : PassView) (v w : World) → q ≡ p → after shape 1 q.seen ≡ Some v
    → after shape 1 p.seen ≡ Some w
    → v ≡ w
one_world shape p q v w same there here =
    Some-injective v w (sym there ∙ (ap (λ (known : PassView). after shape 1 known.seen) same ∙ here))
