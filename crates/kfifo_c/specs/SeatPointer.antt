-- A pointer of C's, after what was done by its seat.
use Rattle.std.specs.Prelude.{Some}
use Rattle.kfifo_c.specs.Behind.{Behind}
use Rattle.kfifo_c.specs.declared.held.Held.{Held}

-- the same pointer, with this seat behind it
abbrev pub held_with : {S : Type 0} → (S → Behind) → Held → S → Held
held_with behind held seat = record { at = held.at; value = Some (behind seat) }
