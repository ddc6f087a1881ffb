-- The scripts so far were copied.
use Rattle.std.proofs.Common.{◌≡◌, map, take, Vec, Global}
use Rattle.kfifo_replay.proofs.Types.{Begin}
use Rattle.kfifo_replay.proofs.player.copy_scripts.Given as goal

abbrev pub invariant-loop-script : goal.invariant-loop-script
invariant-loop-script l = map (λ (script : Vec Begin Global). script.items) l.copies.items
    ≡ map (λ (script : Vec Begin Global). script.items) (take l.script-index l.scripts)
