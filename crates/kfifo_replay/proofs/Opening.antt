-- A replay of no pick.
use Rattle.std.proofs.Common.{◌≡◌, ℕ, ◌+◌, ◌*◌, ◌≤◌, List, [], length, map, get_or, replicate, take, refl, sym, ◌∙◌, ap}
use Rattle.std.proofs.Common.{subst, Vec, Global, arith}
use Rattle.std.specs.Prelude.{sum_by}
use Rattle.std.proofs.lemmas.List.Folds.{fold-map}
use Rattle.std.proofs.lemmas.List.Sums.{sum_by-le}
use Rattle.std.proofs.lemmas.List.{length-replicate, take_all}
use Rattle.kfifo_replay.proofs.Types.{Begin, Event, Shape}
use Rattle.kfifo_machine.specs.Calls.{blank}
use Rattle.kfifo_machine.specs.Machine.{opening}
use Rattle.kfifo_linear.specs.Following.{Follows}
use Rattle.kfifo_linear.proofs.Base.{get_or_replicate}
use Rattle.kfifo_replay.specs.Scripts.{AreScripts, calls_in}
use Rattle.kfifo_replay.specs.declared.steps.Step.{Step}
use Rattle.kfifo_replay.specs.Player.{Player, StandsFor}
use Rattle.kfifo_replay.specs.Steps.{AreSteps}

-- the scripts hold 4,096 calls at most
pub few_calls : (shape : Shape) (scripts : List (List Begin)) → AreScripts shape scripts → calls_in scripts ≤ 4096
few_calls shape scripts are =
    let all : calls_in scripts ≤ length scripts * 64 =
    sum_by-le (λ (s : List Begin). length s) 64 scripts (λ k d within. (are.each k d within).short) in
    omega (arith, all, are.few)

-- their calls, counted script by script
pub calls_in-map : (scripts : List (Vec Begin Global))
    → calls_in (map (λ (script : Vec Begin Global). script.items) scripts)
    ≡ sum_by (λ (script : Vec Begin Global). length script.items) scripts
calls_in-map scripts = fold-map (λ a (s : List Begin). a + length s) (λ (script : Vec Begin Global). script.items) 0
    scripts

-- what a new replay holds stands for no pick
pub stands_none : (shape : Shape) (scripts : List (List Begin)) (p : Player) → AreScripts shape scripts
    → p.shape ≡ shape
    → p.scripts ≡ scripts → p.follower.shape ≡ shape
    → Follows (length scripts) (calls_in scripts) [] p.follower → p.begun ≡ replicate (length scripts) 0
    → p.book.log ≡ blank (length scripts) → calls_in scripts ≤ p.book.room → p.rollbacks ≡ 0 → p.trace.steps ≡ []
    → StandsFor shape scripts [] p
stands_none shape scripts p are shape_is scripts_are follower_shape follows begun log room rollbacks none =
    record {
      events = [];
      made = refl;
      are_scripts = are;
      shape_is = shape_is;
      scripts_are = scripts_are;
      follower_shape = follower_shape;
      follows = follows;
      threads = ap (λ (l : List ℕ). length l) begun ∙ length-replicate (length scripts) 0;
      begun = λ thread. ap (λ (l : List ℕ). get_or l thread 0) begun ∙ get_or_replicate (length scripts) thread 0;
      log = log;
      room = room;
      rollbacks = rollbacks;
      traced = subst (λ (steps : List Step). AreSteps shape (opening shape (length scripts)) (take p.trace.most [])
          steps) (sym none) (subst (λ (events : List Event). AreSteps shape (opening shape (length scripts)) events [])
          (sym (take_all p.trace.most [] (omega arith))) tt);
    }
