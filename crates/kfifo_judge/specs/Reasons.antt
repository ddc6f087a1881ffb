-- Why a history has no legal order.
use Rattle.std.specs.Prelude.{ℕ, zero, suc, List, [], ◌∷◌, ◌++◌, codes, cond, decimal, eqb, length, not, slice_get}
use Rattle.std.specs.Prelude.{take, unwrap_or}
use Rattle.std.specs.Prelude.{Bool, ◌&&◌, ◌||◌, Option, Some, None}
use Rattle.kfifo_model.specs.declared.calls.Call.{Call}
use Rattle.kfifo_model.specs.declared.effects.Effect.{Effect}
use Rattle.kfifo_model.specs.declared.effects.Effect.TheVariants.{Adds, Takes, FindsNone, Refused, Wrong}
use Rattle.kfifo_model.specs.Histories.{does}
use Rattle.kfifo_model.specs.Overtaking.{adds, takes}
use Rattle.kfifo_verdict.specs.declared.verdicts.Evidence.{Evidence}
use Rattle.kfifo_verdict.specs.declared.verdicts.Evidence.TheVariants.{NeverPut, TakenTwice, NotEmpty, TooYoung}
use Rattle.kfifo_verdict.specs.declared.verdicts.Evidence.TheVariants.{TakenTooSoon, ItemsLeft, OlderLeft}
use Rattle.kfifo_verdict.specs.Naming.{call_in, puts_in}
use Rattle.kfifo_model.specs.declared.logged.LoggedCall.{LoggedCall}
use Rattle.kfifo_model.specs.RecordTexts.{line}
use Rattle.kfifo_judge.specs.Calls.{call_lines, item_in}
use Rattle.kfifo_judge.specs.Numbers.{joined}

-- the item that is taken, 0 where none is
abbrev pub taken : Effect → ℕ
taken (Takes x) = x
taken (Adds x) = 0
taken FindsNone = 0
taken Refused = 0
taken Wrong = 0

-- the item that call n got, as its log has it if it is one of a log
abbrev pub got_item : List LoggedCall → List Call → ℕ → ℕ
got_item logged h n = item_in (slice_get logged n) (taken (does h n))

-- a text, a number after it, and what follows
abbrev pub counted : List ℕ → ℕ → List ℕ → List ℕ
counted text number after = text ++ (decimal number ++ after)

-- the call, the item that it got, and what is said of it
abbrev pub got_text : List LoggedCall → List Call → ℕ → List ℕ → List ℕ
got_text logged h get said = counted (codes "call ") get (counted (codes " got item ") (got_item logged h get) said)

abbrev pub older_words : ℕ → List ℕ
older_words count = cond (eqb count 1) (codes "older item was") (codes "older items were")

-- so many older items, and what is said of them
abbrev pub older_text : List ℕ → ℕ → List ℕ → List ℕ
older_text before count after = counted before count (codes " " ++ (older_words count ++ after))

-- what is said of each kind of evidence
abbrev pub reason_text : List LoggedCall → List Call → Evidence → List ℕ
reason_text logged h (NeverPut get) = got_text logged h get (codes ", which no call before its end put")
reason_text logged h (TakenTwice get) = got_text logged h get (codes ", which was taken more often than put")
reason_text logged h (NotEmpty empty puts) =
    counted (codes "call ") empty (codes " found nothing, while there were items")
reason_text logged h (TooYoung get puts) =
    got_text logged h get (older_text (codes ", while ") (length puts.items) (codes " there"))
reason_text logged h (TakenTooSoon get) =
    got_text logged h get (codes ", when more gets of it had ended than puts had begun")
reason_text logged h (ItemsLeft empty) =
    counted (codes "call ") empty (codes " found nothing, while some item had been put more often than taken")
reason_text logged h (OlderLeft get puts) =
    got_text logged h get (older_text (codes ", though ") (length puts.items) (codes " left"))

-- the puts that the evidence names, after it
abbrev pub puts_part : Option (List ℕ) → List ℕ
puts_part (Some puts) = codes ": calls " ++ joined puts
puts_part None = []

-- whether a call puts the item or gets it
abbrev pub moves : ℕ → Effect → Bool
moves x e = adds x e || takes x e

-- whether call c is another one than the get, and puts the item that this got, or gets it
abbrev pub is_other : List Call → ℕ → ℕ → Bool
is_other h get c = not (eqb c get) && moves (taken (does h get)) (does h c)

-- the numbers below n that pass the test
abbrev pub numbers_below : (ℕ → Bool) → ℕ → List ℕ
numbers_below test zero = []
numbers_below test (suc n) = numbers_below test n ++ cond (test n) (n ∷ []) []

-- the other calls that put or get the item that a call got
abbrev pub others : List Call → ℕ → List ℕ
others h get = numbers_below (is_other h get) (length h)

-- the calls that evidence names beside the first: the puts, or of an item that was taken too often or too soon the
-- first 31 others that put or got it
abbrev pub also_named : List Call → Evidence → List ℕ
also_named h (TakenTwice get) = take 31 (others h get)
also_named h (TakenTooSoon get) = take 31 (others h get)
also_named h found = unwrap_or (puts_in found) []

-- the calls that evidence names: the one that got an item or found none, and then those beside it
abbrev pub named_by : List Call → Evidence → List ℕ
named_by h found = call_in found ∷ also_named h found

-- How many of them have a line: the first 32. Of puts of older items that may repeat none has, since nobody knows which
-- get took which of them.
abbrev pub lines_for : Evidence → ℕ
lines_for (OlderLeft get puts) = 1
lines_for found = 32

-- the evidence in a line, and the lines of the calls that it names
abbrev pub reason_lines : List LoggedCall → List Call → Evidence → List ℕ
reason_lines logged h found = line (reason_text logged h found ++ puts_part (puts_in found)) ++ call_lines logged h
    (take (lines_for found) (named_by h found))

-- the title of a picture: whether there is evidence for this k, and what is said of it
abbrev pub title_text : ℕ → List LoggedCall → List Call → Option Evidence → List ℕ
title_text k logged h (Some found) =
    codes "no order for k = " ++ decimal k ++ (codes ": " ++ reason_text logged h found)
title_text k logged h None = codes "no evidence for k = " ++ decimal k
