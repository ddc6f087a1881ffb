-- The lines of a log that calls stand in.
use Rattle.std.specs.Prelude.{ℕ, List, None, slice_index_or}
use Rattle.kfifo_model.specs.declared.logged.LoggedCall.{LoggedCall}

abbrev pub no_logged_call : LoggedCall
no_logged_call = record { line = 0; first = 0; last = None; item = None }

-- the line of a log that a call stands in, from 1; 0 where the log has no such call
abbrev pub line_of : List LoggedCall → ℕ → ℕ
line_of calls n = (slice_index_or calls n no_logged_call).line
