-- Every script is one.
use Rattle.std.proofs.Common.{◌≡◌, ℕ, ◌<◌, ◌≤◌, List, map, length, Vec, Global, Bool, false, subst, sym, ◌∙◌, arith}
use Rattle.std.specs.Prelude.{All, IsTrue, ◌↔◌, ◌==◌}
use Rattle.std.proofs.lemmas.Bool.{leb-true}
use Rattle.std.proofs.lemmas.Bool.Decides.{nat_tests}
use Rattle.std.proofs.lemmas.List.{length-map, get_or-map}
use Rattle.std.proofs.lemmas.List.Elements.{All-map}
use Rattle.kfifo_replay.proofs.Types.{Begin, Shape}
use Rattle.kfifo_replay.specs.Scripts.{IsScript, AreScripts}
use Rattle.kfifo_replay.proofs.player.are_scripts.Goals.{then-not-is_empty, else-not-is_empty}
use Rattle.kfifo_replay.proofs.player.are_scripts.Goals as goal

-- the scripts by their calls
abbrev by_calls : List (Vec Begin Global) → List (List Begin)
by_calls scripts = map (λ (script : Vec Begin Global). script.items) scripts

some_if : (n : ℕ) → false ≡ (n == 0) → 0 < n
some_if n is = grind (arith, nat_tests, is)

are_if : (shape : Shape) (scripts : List (Vec Begin Global)) (each : Bool) → 0 < length scripts → length scripts ≤ 64
    → (IsTrue each ↔ All (λ (script : Vec Begin Global). IsScript shape script.items) scripts)
    → IsTrue each ↔ AreScripts shape (by_calls scripts)
are_if shape scripts each some few is = (there, back)
  where
    size : length (by_calls scripts) ≡ length scripts
    size = length-map scripts (λ (script : Vec Begin Global). script.items)

    there : IsTrue each → AreScripts shape (by_calls scripts)
    there holds = record {
      some = omega (arith, some, size);
      few = omega (arith, few, size);
      each = All-map (IsScript shape) (λ (script : Vec Begin Global). script.items) scripts (is.0 holds);
    }

    back : AreScripts shape (by_calls scripts) → IsTrue each
    back are = is.1 (λ k d within. subst (IsScript shape)
        (get_or-map (λ (script : Vec Begin Global). script.items) scripts k d d.items within)
        (are.each k d.items (omega (arith, within, size))))

pub returns-then-scripts : goal.returns-then-scripts
returns-then-scripts c =
    elim c.if-not-is_empty.branch [
      | then-not-is_empty w ↦
          let some : 0 < length c.args.scripts.now = some_if (length c.args.scripts.now) w.if-not-is_empty.ensures in
          let few : length c.args.scripts.now ≤ 64 =
          leb-true (length c.args.scripts.now) 64 (sym w.value-is ∙ c.if-scripts.true) in
          are_if c.args.shape.now c.args.scripts.now c.is_each_script.result some few c.is_each_script.ensures
      | else-not-is_empty w ↦ absurd (cc)
    ]
