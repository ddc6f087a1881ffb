-- The numbers of the last line, written one after the other.
use Rattle.std.proofs.Common.{◌≡◌, ◌∙◌, ◌+◌, ◌<◌, ◌++◌, [], ◌∷◌, ℕ, List, Option, Result, Ok, Err, ap, append-nil}
use Rattle.std.proofs.Common.{append_assoc, codes, decimal, drop, false, flat_map, get_or, length, refl, subst, sym}
use Rattle.std.proofs.Common.{take}
use Rattle.std.specs.Prelude.{OnErr, OnOk}
use Rattle.std.proofs.lemmas.Grind.{flat_map-append}
use Rattle.std.proofs.lemmas.List.{take-append-drop, take_more}
use Rattle.kfifo_cli_texts.proofs.Writings.{second_breaks, second_of_two, writes_more}
use Rattle.kfifo_cli_texts.specs.Printing.{Breaks, Writes}
use Rattle.kfifo_cli_texts.specs.declared.printing.Printer.{Printer}
use Rattle.kfifo_cli_requests.specs.declared.requests.JudgeFilesOptions.{JudgeFilesOptions}
use Rattle.kfifo_cli_commands.specs.Tallies.{counted, summary}
use Rattle.kfifo_cli_commands.specs.declared.tally.Count.{Count}
use Rattle.kfifo_cli_commands.specs.declared.tally.Tally.{Tally}

-- the texts of all numbers: of those before one, its own, and of those behind it
cut_at : (counts : List Count) (n : ℕ) (d : Count) → n < length counts
    → flat_map counted counts
    ≡ (flat_map counted (take n counts) ++ counted (get_or counts n d)) ++ flat_map counted (drop (n + 1) counts)
cut_at counts n d inside =
    let first : flat_map counted (take (n + 1) counts) ≡ flat_map counted (take n counts)
    ++ counted (get_or counts n d) =
    ap (flat_map counted) (take_more counts n d inside)
    ∙ (flat_map-append counted (take n counts) (get_or counts n d ∷ [])
    ∙ ap (λ text. flat_map counted (take n counts) ++ text) (append-nil (counted (get_or counts n d)))) in
    sym (ap (flat_map counted) (take-append-drop (n + 1) counts))
    ∙ (flat_map-append counted (take (n + 1) counts) (drop (n + 1) counts)
    ∙ ap (λ text. text ++ flat_map counted (drop (n + 1) counts)) first)

-- all broke off where one did
pub broke_at : {W : Type 0} (contents : W → Option (List ℕ)) (a b c : Printer W) (counts : List Count) (n : ℕ)
    (d : Count)
    → n < length counts → Writes contents a (flat_map counted (take n counts)) b
    → Breaks contents b (counted (get_or counts n d)) c → Breaks contents a (flat_map counted counts) c
broke_at contents a b c counts n d inside wrote broke =
    subst (λ (text : List ℕ). Breaks contents a text c) (sym (cut_at counts n d inside))
    (second_breaks contents a b c (flat_map counted (take n counts)) (counted (get_or counts n d))
    (flat_map counted (drop (n + 1) counts)) wrote broke)

-- the parts of the last line, however they are put together
parts_of : (a n b k c d l e u f w g x z : List ℕ)
    → ((a ++ n) ++ ((b ++ k) ++ (((c ++ d) ++ l) ++ ((e ++ u) ++ ((f ++ w) ++ ((g ++ x) ++ [])))))) ++ z
    ≡ (a ++ (n ++ (b ++ (k ++ c)))) ++ (d ++ (l ++ (e ++ (u ++ (f ++ (w ++ (g ++ (x ++ z))))))))
parts_of a n b k c d l e u f w g x z = simp (append_assoc, append-nil) refl

-- the last line is its numbers, each behind what stands before it
pub summary_is : (options : JudgeFilesOptions) (t : Tally) → options.json ≡ false
    → ((codes "files " ++ decimal (length options.files.now)) ++ ((codes " for k = " ++ decimal options.k)
    ++ ((codes ": legal " ++ decimal t.legal) ++ ((codes ", no order " ++ decimal t.unordered)
    ++ ((codes ", undecided " ++ decimal t.undecided) ++ ((codes ", fault " ++ decimal t.unjudged) ++ []))))))
    ++ codes "\n"
    ≡ summary options t
summary_is options t plain =
    rw plain (parts_of (codes "files ") (decimal (length options.files.now)) (codes " for k = ") (decimal options.k)
    (codes ": ") (codes "legal ") (decimal t.legal) (codes ", no order ") (decimal t.unordered) (codes ", undecided ")
    (decimal t.undecided) (codes ", fault ") (decimal t.unjudged) (codes "\n"))

module _ {W E : Type 0} (contents : W → Option (List ℕ)) (a b c : Printer W) (x y text : List ℕ) (whole : x ++ y ≡ text)
    (wrote : Writes contents a x b) where
  -- the second of two parts of a text was written too
  pub ended_well : (told : Result (Unit {0}) E) → OnOk told (Writes contents b y c)
      → OnOk told (Writes contents a text c)
  ended_well (Ok u) h = subst (λ (t : List ℕ). Writes contents a t c) whole (writes_more contents a b c x y wrote h)
  ended_well (Err e) h = h

  -- the second of two parts of a text broke off
  pub ended_by : (told : Result (Unit {0}) E) → OnErr told (Breaks contents b y c)
      → OnErr told (Breaks contents a text c)
  ended_by (Ok u) h = h
  ended_by (Err e) h =
      subst (λ (t : List ℕ). Breaks contents a t c) whole (second_of_two contents false a b c x y wrote h)
