-- The calls that a reason names, as data.
use Rattle.std.specs.Prelude.{ℕ, List, slice_get}
use Rattle.kfifo_model.specs.declared.calls.Call.{Call}
use Rattle.kfifo_model.specs.declared.effects.Effect.{Effect}
use Rattle.kfifo_model.specs.declared.effects.Effect.TheVariants.{Adds, Takes, FindsNone, Refused, Wrong}
use Rattle.kfifo_model.specs.declared.logged.LoggedCall.{LoggedCall}
use Rattle.kfifo_model.specs.Histories.{call, does}
use Rattle.kfifo_judge.specs.declared.named.NamedCall.{NamedCall}
use Rattle.kfifo_judge.specs.Calls.{item_in, occurrence}

-- the item that is put or taken, 0 where none is
abbrev pub moved : Effect → ℕ
moved (Adds x) = x
moved (Takes x) = x
moved FindsNone = 0
moved Refused = 0
moved Wrong = 0

-- call n of a history, with its line, its times and its item as the log has them if it is one of a log
abbrev pub named_call : List LoggedCall → List Call → ℕ → NamedCall
named_call logged h n = record {
  number = n;
  line = (occurrence logged (call h n) n).line;
  item = item_in (slice_get logged n) (moved (does h n));
  first = (occurrence logged (call h n) n).first;
  last = (occurrence logged (call h n) n).last;
  call = call h n;
}
