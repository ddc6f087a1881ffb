-- Calls that a pass makes in turn, and what its log then has.
use Rattle.std.proofs.Common.{◌≡◌, ◌<◌, ◌+◌, ℕ, suc, take, get_or, length-append, arith, List, [], ◌∷◌, ◌++◌, length}
use Rattle.std.proofs.Common.{map, refl, sym, ap, ◌∙◌, append_assoc, append-nil, subst}
use Rattle.std.specs.Prelude.{IsSome}
use Rattle.std.proofs.Math.Seq.{take-suc}
use Rattle.std.proofs.lemmas.List.{length-take}
use Rattle.kfifo_model.specs.declared.calls.Call.{Call}
use Rattle.std.specs.List.{AllByRecursion}
use Rattle.kfifo_machine.specs.declared.event.Begin.{Begin}
use Rattle.kfifo_machine.specs.Calls.{op_asked}
use Rattle.kfifo_live.specs.Pass.{IsSamePass, PassView}
use Rattle.kfifo_live.specs.Stamps.{Logged, stamped_call}
use Rattle.kfifo_record.specs.Scripts.{MakesInTurn, MakesOne}

-- one more call
pub makes_more : (Passed : ℕ → Type 0) (number : ℕ) (script : List Begin) (begin : Begin) (old middle new : Logged)
    → MakesInTurn Passed number script old middle → Passed (number + length script) → MakesOne begin middle new
    → MakesInTurn Passed number (script ++ begin ∷ []) old new
makes_more Passed number [] begin old middle new none passed one =
    let here : number + 0 ≡ number = omega arith in
    (new, subst Passed here passed, subst (λ (p : Logged). MakesOne begin p new) none one, refl)
makes_more Passed number (first ∷ script) begin old middle new made passed one =
    let here : number + suc (length script) ≡ suc number + length script = omega arith in (
      made.0,
      made.1,
      made.2,
      makes_more Passed (suc number) script begin made.0 middle new made.3
          (subst Passed here passed) one,
    )

-- so the calls of a script up to a place, and the one at it
pub turn : (Passed : ℕ → Type 0) (script : List Begin) (i : ℕ) (d : Begin) (old middle new : Logged) → i < length script
    → MakesInTurn Passed 1 (take i script) old middle → Passed (i + 1) → MakesOne (get_or script i d) middle new
    → MakesInTurn Passed 1 (take (i + 1) script) old new
turn Passed script i d old middle new less made passed one =
    let e : i + 1 ≡ suc i = omega arith in
    let number : i + 1 ≡ 1 + length (take i script) = omega (arith, length-take i script, less) in
    subst (λ (s : List Begin). MakesInTurn Passed 1 s old new)
    (sym (ap (λ (n : ℕ). take n script) e ∙ take-suc script i d less))
    (makes_more Passed 1 (take i script) (get_or script i d) old middle new made (subst Passed number passed) one)

-- and the log has one more
pub longer : (begin : Begin) (middle new : Logged) (n : ℕ) → MakesOne begin middle new → length middle.log ≡ n
    → length new.log ≡ n + 1
longer begin middle new n one is =
    ap (λ (log : List Call). length log) one.1.1.log_is ∙ length-append middle.log _ ∙ ap (λ (m : ℕ). m + 1) is

-- what the log has then: a call more for each of the script
pub record Grown (script : List Begin) (old new : Logged) : Type 0 where
  pub calls : List Call
  pub log_is : new.log ≡ old.log ++ calls
  pub ops : map (λ (c : Call). c.op) calls ≡ map op_asked script
  pub mine : AllByRecursion (λ c. c.thread ≡ old.pass.thread) calls
  pub ended : AllByRecursion (λ c. IsSome c.end) calls
  pub same : IsSamePass old.pass new.pass

pub then_same : (p q r : PassView) → IsSamePass p q → IsSamePass q r → IsSamePass p r
then_same p q r a b = (b.0 ∙ a.0, b.1 ∙ a.1, b.2 ∙ a.2)

pub grown : (Passed : ℕ → Type 0) (number : ℕ) (script : List Begin) (old new : Logged)
    → MakesInTurn Passed number script old new
    → Grown script old new
grown Passed number [] old new made = record {
  calls = [];
  log_is = ap (λ (p : Logged). p.log) made ∙ sym (append-nil old.log);
  ops = refl;
  mine = tt;
  ended = tt;
  same = (
    ap (λ (p : Logged). p.pass.table) made,
    ap (λ (p : Logged). p.pass.opened) made,
    ap
        (λ (p : Logged). p.pass.thread) made,
  );
}
grown Passed number (begin ∷ script) old new made =
    let next = made.0 in
    let same = made.2.0 in
    let stamped = made.2.1.1 in
    let later = grown Passed (suc number) script next new made.3 in
    let call = stamped_call old.pass.thread (op_asked begin) stamped.first stamped.last made.2.1.0 in
    record {
      calls = call ∷ later.calls;
      log_is = later.log_is ∙ ap (λ log. log ++ later.calls) stamped.log_is
          ∙ append_assoc old.log (call ∷ []) later.calls;
      ops = ap (λ ops. op_asked begin ∷ ops) later.ops;
      mine = (refl, subst (λ (thread : ℕ). AllByRecursion (λ c. c.thread ≡ thread) later.calls) same.2 later.mine);
      ended = (refl, later.ended);
      same = then_same old.pass next.pass new.pass same later.same;
    }
