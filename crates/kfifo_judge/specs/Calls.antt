-- The line of a call that a reason names.
use Rattle.std.specs.Prelude.{ℕ, List, [], ◌++◌, Option, Some, None, codes, decimal, option_map, position, slice_get}
use Rattle.std.specs.Prelude.{unwrap_or}
use Rattle.std.specs.List.{flat_map}
use Rattle.kfifo_model.specs.declared.calls.Call.{Call}
use Rattle.kfifo_model.specs.declared.effects.Effect.{Effect}
use Rattle.kfifo_model.specs.declared.effects.Effect.TheVariants.{Adds, Takes, FindsNone, Refused, Wrong}
use Rattle.kfifo_model.specs.Histories.{call, does, effect_of}
use Rattle.kfifo_model.specs.Overtaking.{takes}
use Rattle.kfifo_model.specs.declared.logged.LoggedCall.{LoggedCall}
use Rattle.kfifo_model.specs.RecordTexts.{line}
use Rattle.kfifo_judge.specs.declared.calls.Occurrence.{Occurrence}

-- the item of a call, as its log has it if it is one of a log
abbrev pub item_in : Option LoggedCall → ℕ → ℕ
item_in (Some logged) x = unwrap_or logged.item x
item_in None x = x

abbrev pub effect_text : Option LoggedCall → Effect → List ℕ
effect_text logged (Adds x) = codes "put " ++ decimal (item_in logged x)
effect_text logged (Takes x) = codes "got " ++ decimal (item_in logged x)
effect_text logged FindsNone = codes "found nothing"
effect_text logged Refused = codes "changed nothing"
effect_text logged Wrong = codes "changed nothing"

-- a call of a record was when its steps say
abbrev pub in_record : Call → Occurrence
in_record c = record { line = None; first = c.first; last = option_map (λ end. end.last) c.end }

-- a call of a log was when the log says
abbrev pub in_log : LoggedCall → Occurrence
in_log c = record { line = Some c.line; first = c.first; last = c.last }

abbrev pub logged_or : Call → Option LoggedCall → Occurrence
logged_or c (Some logged) = in_log logged
logged_or c None = in_record c

-- when the call with this number was, by the log if it is one of a log
abbrev pub occurrence : List LoggedCall → Call → ℕ → Occurrence
occurrence logged c number = logged_or c (slice_get logged number)

abbrev pub line_part : Option ℕ → List ℕ
line_part (Some line) = codes ", line " ++ decimal line
line_part None = []

abbrev pub last_part : Option ℕ → List ℕ
last_part (Some last) = codes " to " ++ decimal last
last_part None = codes " on"

abbrev pub name_text : ℕ → Option ℕ → List ℕ
name_text number line = codes "  call " ++ decimal number ++ line_part line

abbrev pub times_text : Occurrence → List ℕ
times_text o = codes " from " ++ decimal o.first ++ last_part o.last

-- the first call that got the item
abbrev pub taker : List Call → ℕ → Option ℕ
taker h x = position (λ c. takes x (effect_of c)) h

abbrev pub taker_part : Option ℕ → List ℕ
taker_part (Some get) = codes ", got by call " ++ decimal get
taker_part None = codes ", never got"

-- after a put, which call got its item
abbrev pub fate_part : List Call → Effect → List ℕ
fate_part h (Adds x) = taker_part (taker h x)
fate_part h (Takes x) = []
fate_part h FindsNone = []
fate_part h Refused = []
fate_part h Wrong = []

-- what a call did, when it did, and what became of the item that it put
abbrev pub details_text : List Call → Option LoggedCall → ℕ → Effect → Occurrence → List ℕ
details_text h logged thread e o = codes ": thread " ++ decimal thread ++ codes " " ++ effect_text logged e
    ++ times_text o ++ fate_part h e

-- the line of a call
abbrev pub call_line : List LoggedCall → List Call → ℕ → List ℕ
call_line logged h n =
    line (name_text n (occurrence logged (call h n) n).line
    ++ details_text h (slice_get logged n) (call h n).thread (does h n) (occurrence logged (call h n) n))

-- the lines of these calls
abbrev pub call_lines : List LoggedCall → List Call → List ℕ → List ℕ
call_lines logged h numbers = flat_map (call_line logged h) numbers
