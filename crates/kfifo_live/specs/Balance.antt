-- How often an item was put, undone and taken in a schedule.
use Rattle.std.specs.Prelude.{ℕ, ◌+◌, ◌==◌, ◌&&◌, if◌then◌else◌, Bool, false, List, [], ◌∷◌, Some}
use Rattle.kfifo_words.specs.Words.{value_of}
use Rattle.kfifo_machine.specs.declared.event.Event.{Event}
use Rattle.kfifo_machine.specs.declared.place.EnqueuePhase.TheVariants as E
use Rattle.kfifo_machine.specs.declared.place.DequeuePhase.TheVariants as D
use Rattle.kfifo_machine.specs.declared.place.Running.{Running}
use Rattle.kfifo_machine.specs.declared.place.Running.TheVariants as R
use Rattle.kfifo_machine.specs.Machine.{opening}
use Rattle.kfifo_machine.specs.Laws.{count}
use Rattle.kfifo_live.specs.declared.view.Opening.{Opening}

-- how often an item stands in a list
abbrev pub times : ℕ → List ℕ → ℕ
times item [] = 0
times item (other ∷ others) = (if other == item then 1 else 0) + times item others

-- a step from this place that finds this word wins the exchange that puts this item, undoes it, takes it
abbrev pub puts_item : ℕ → Running → ℕ → Bool
puts_item item (R.Enqueue own start left (E.Put ends index empty)) word = (word == empty) && (own == item)
puts_item item other word = false

abbrev pub undoes_item : ℕ → Running → ℕ → Bool
undoes_item item (R.Enqueue own start left (E.Undo index filled worn)) word = (word == filled) && (own == item)
undoes_item item other word = false

abbrev pub takes_item : ℕ → Running → ℕ → Bool
takes_item item (R.Dequeue start left (D.Take ends index filled)) word = (word == filled) && (value_of filled == item)
takes_item item other word = false

-- how many events of a schedule of an opening put an item, undo it, take it
abbrev pub puts : ℕ → Opening → List Event → ℕ
puts item o events = count o.shape (puts_item item) (Some (opening o.shape o.threads)) events

abbrev pub undos : ℕ → Opening → List Event → ℕ
undos item o events = count o.shape (undoes_item item) (Some (opening o.shape o.threads)) events

abbrev pub takes : ℕ → Opening → List Event → ℕ
takes item o events = count o.shape (takes_item item) (Some (opening o.shape o.threads)) events
