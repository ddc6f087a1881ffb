-- What evidence says of the queue: the number and the name of its kind, and a line in words.
use Rattle.std.specs.Prelude.{ℕ, List, ◌++◌, codes, cond, decimal, eqb, length, slice_get, unwrap_or}
use Rattle.kfifo_model.specs.declared.calls.Call.{Call}
use Rattle.kfifo_model.specs.declared.effects.Effect.{Effect}
use Rattle.kfifo_model.specs.declared.effects.Effect.TheVariants.{Adds, Takes, FindsNone, Refused, Wrong}
use Rattle.kfifo_model.specs.declared.logged.LoggedCall.{LoggedCall}
use Rattle.kfifo_model.specs.Histories.{does}
use Rattle.kfifo_verdict.specs.declared.verdicts.Evidence.{Evidence}
use Rattle.kfifo_verdict.specs.declared.verdicts.Evidence.TheVariants.{NeverPut, TakenTwice, NotEmpty, TooYoung}
use Rattle.kfifo_verdict.specs.declared.verdicts.Evidence.TheVariants.{TakenTooSoon, ItemsLeft, OlderLeft}
use Rattle.kfifo_judge.specs.Calls.{item_in}
use Rattle.kfifo_judge.specs.Reasons.{got_item}

abbrev pub kind_number : Evidence → ℕ
kind_number (NeverPut get) = 1
kind_number (TakenTwice get) = 2
kind_number (NotEmpty empty puts) = 3
kind_number (TooYoung get puts) = 4
kind_number (TakenTooSoon get) = 5
kind_number (ItemsLeft empty) = 6
kind_number (OlderLeft get puts) = 7

abbrev pub kind_name : Evidence → List ℕ
kind_name (NeverPut get) = codes "never put"
kind_name (TakenTwice get) = codes "taken twice"
kind_name (NotEmpty empty puts) = codes "not empty"
kind_name (TooYoung get puts) = codes "too young"
kind_name (TakenTooSoon get) = codes "taken too soon"
kind_name (ItemsLeft empty) = codes "items left"
kind_name (OlderLeft get puts) = codes "older left"

-- the item that is put, 0 where none is
abbrev pub added : Effect → ℕ
added (Adds x) = x
added (Takes x) = 0
added FindsNone = 0
added Refused = 0
added Wrong = 0

-- the item that call n put, as its log has it if it is one of a log
abbrev pub put_item : List LoggedCall → List Call → ℕ → ℕ
put_item logged h n = item_in (slice_get logged n) (added (does h n))

-- an item, and what is said of it
abbrev pub item_text : ℕ → List ℕ → List ℕ
item_text item said = codes "item " ++ (decimal item ++ said)

-- the item of the only one of these puts, or how many they are, and what is said of them
abbrev pub items_text : List LoggedCall → List Call → List ℕ → List ℕ → List ℕ
items_text logged h puts said = cond (eqb (length puts) 1)
    (item_text (put_item logged h (unwrap_or (slice_get puts 0) 0)) said)
    (decimal (length puts) ++ (codes " items" ++ said))

-- an item that came out before others that had gone in before, and what is said of these
abbrev pub older_text : List LoggedCall → List Call → ℕ → List ℕ → List ℕ → List ℕ
older_text logged h item puts said = item_text item (codes " came out, and ") ++ items_text logged h puts said

-- what each kind of evidence says of the queue
abbrev pub headline_text : List LoggedCall → List Call → Evidence → List ℕ
headline_text logged h (NeverPut get) = item_text (got_item logged h get) (codes " came out, which no call had put")
headline_text logged h (TakenTwice get) =
    item_text (got_item logged h get) (codes " came out more often than it went in")
headline_text logged h (NotEmpty empty puts) =
    codes "a get found nothing, while the queue held " ++ items_text logged h puts.items (codes "")
headline_text logged h (TooYoung get puts) =
    older_text logged h (got_item logged h get) puts.items (codes ", which went in before, had not")
headline_text logged h (TakenTooSoon get) =
    item_text (got_item logged h get) (codes " came out more often than it had gone in by then")
headline_text logged h (ItemsLeft empty) =
    codes "a get found nothing, while some item had gone in more often than come out"
headline_text logged h (OlderLeft get puts) =
    older_text logged h (got_item logged h get) puts.items (codes ", which went in before, stayed")
