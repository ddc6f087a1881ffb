-- The laws of every schedule that remain: as it goes on no word falls, and others leave a thread where it is.
use Rattle.std.proofs.Common.{◌≡◌, ℕ, ◌≤◌, List, ◌++◌, Some, sym, ◌∙◌, arith}
use Rattle.kfifo_machine.proofs.Types.{Event, Shape}
use Rattle.kfifo_machine.specs.Machine.{World, opening, word_at, run, after}
use Rattle.kfifo_machine.specs.Laws.{VersionsRise, NoneReturns, OthersLeave}
use Rattle.kfifo_machine.proofs.Schedules.{run_on, same_place}
use Rattle.kfifo_machine.proofs.Sound.{sound}
use Rattle.kfifo_machine.proofs.Versions.{run_rises, version-rises}

-- what came after a schedule was run from where it led
on_from : (shape : Shape) (threads : ℕ) (events more : List Event) (old new : World)
    → after shape threads events ≡ Some old
    → after shape threads (events ++ more) ≡ Some new
    → run shape (Some old) more ≡ Some new
on_from shape threads events more old new was is =
    sym (run_on shape (Some (opening shape threads)) old events more was) ∙ is

rises_on : (shape : Shape) (threads : ℕ) (events more : List Event) (old new : World) (i : ℕ)
    → after shape threads events ≡ Some old
    → after shape threads (events ++ more) ≡ Some new
    → word_at old i ≤ word_at new i
rises_on shape threads events more old new i was is =
    run_rises shape old new more i (sound shape threads events old was)
    (on_from shape threads events more old new was is)

pub versions_rise : (shape : Shape) (threads : ℕ) → VersionsRise shape threads
versions_rise shape threads = λ events more old new was is i.
    let up : word_at old i ≤ word_at new i = rises_on shape threads events more old new i was is in
    (up, version-rises (word_at old i) (word_at new i) up)

pub none_returns : (shape : Shape) (threads : ℕ) → NoneReturns shape threads
none_returns shape threads = λ events some more first middle last i at_first at_middle at_last same.
    let up : word_at first i ≤ word_at middle i = rises_on shape threads events some first middle i at_first
    at_middle in
    let on : word_at middle i ≤ word_at last i = rises_on shape threads (events ++ some) more middle last i at_middle
    at_last in
    omega arith

pub others_leave : (shape : Shape) (threads : ℕ) → OthersLeave shape threads
others_leave shape threads = λ thread events more old new was is none.
    same_place shape old new more thread none (on_from shape threads events more old new was is)
