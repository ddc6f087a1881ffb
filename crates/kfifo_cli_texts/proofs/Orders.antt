-- Orders that were read so far.
use Rattle.std.proofs.Common.{◌≡◌, ◌≢◌, ℕ, inl, inr, ◌⊎◌, Result, Ok, Err, MatchResult, codes, List, [], ◌∷◌, map, Bor}
use Rattle.std.proofs.Common.{sym, subst, ap, ◌∙◌, refl}
use Rattle.kfifo_cli_texts.proofs.Each.{texts_by}
use Rattle.kfifo_cli_texts.specs.Orders.{GivesNoOrder, GivesOrder, WriteNumbers, WritesOrder, WritesSpacedOrder}
use Rattle.kfifo_cli_texts.specs.Orders.{comma_parts, trimmed}
use Rattle.kfifo_cli_texts.specs.Scripts.{texts_of}
use Rattle.std.specs.Str.{IsTrimAscii, IsUtf8}
use Rattle.std.proofs.lemmas.Str.Ascii.{trim_ascii_is}
use Rattle.kfifo_cli_texts.specs.declared.fault.Fault.{Fault}
use Rattle.kfifo_cli_texts.specs.declared.fault.Fault.TheVariants.{Memory, Order}

-- what is known of the numbers of the parts is known of the order
pub order_told : {V : Type 0} (items : V → List ℕ) (text : List ℕ) (words : List (Bor (List ℕ))) (r : Result V Fault)
    → text ≢ codes "none"
    → texts_of words ≡ comma_parts text
    → MatchResult r (λ v. WriteNumbers (texts_of words) (items v))
    (λ fault. (fault ≡ Memory) ⊎ ((fault ≡ Order) × ((numbers : List ℕ) → WriteNumbers (texts_of words) numbers → ⊥)))
    → MatchResult r (λ v. WritesOrder text (items v))
    (λ fault. (fault ≡ Memory) ⊎ ((fault ≡ Order) × ((order : List ℕ) → WritesOrder text order → ⊥)))
order_told items text words (Ok v) some parts h = inr (subst (λ t. WriteNumbers t (items v)) parts h)
order_told items text words (Err fault) some parts (inl memory) = inl memory
order_told items text words (Err fault) some parts (inr unread) = inr (unread.0, none)
  where
    none : (order : List ℕ) → WritesOrder text order → ⊥
    none order (inl empty) = some empty.0
    none order (inr all) = unread.1 order (subst (λ t. WriteNumbers t order) (sym parts) all)

spaced_texts : (words : List (Bor (List ℕ))) → texts_by trimmed words ≡ map trimmed (texts_of words)
spaced_texts [] = refl
spaced_texts (word ∷ words) = ap (λ (ts : List (List ℕ)). trimmed word.now ∷ ts) (spaced_texts words)

-- the same for the bytes of a file
pub spaced_told : {V : Type 0} (items : V → List ℕ) (bytes text : List ℕ) (words : List (Bor (List ℕ)))
    (r : Result V Fault) → bytes ≡ text
    → IsUtf8 bytes → trimmed text ≢ codes "none"
    → texts_of words ≡ comma_parts text
    → MatchResult r (λ v. WriteNumbers (texts_by trimmed words) (items v))
    (λ fault. (fault ≡ Memory)
    ⊎ ((fault ≡ Order) × ((numbers : List ℕ) → WriteNumbers (texts_by trimmed words) numbers → ⊥)))
    → MatchResult r (λ v. WritesSpacedOrder bytes (items v))
    (λ fault. (fault ≡ Memory) ⊎ ((fault ≡ Order) × ((order : List ℕ) → WritesSpacedOrder bytes order → ⊥)))
spaced_told {V = V} items bytes text words r same utf8 some parts h = cases r h
  where
    all_parts : texts_by trimmed words ≡ map trimmed (comma_parts bytes)
    all_parts = spaced_texts words ∙ (ap (λ (ts : List (List ℕ)). map trimmed ts) parts
        ∙ ap (λ (t : List ℕ). map trimmed (comma_parts t)) (sym same))

    cases : (r : Result V Fault)
        → MatchResult r (λ v. WriteNumbers (texts_by trimmed words) (items v))
        (λ fault. (fault ≡ Memory)
        ⊎ ((fault ≡ Order) × ((numbers : List ℕ) → WriteNumbers (texts_by trimmed words) numbers → ⊥)))
        → MatchResult r (λ v. WritesSpacedOrder bytes (items v))
        (λ fault. (fault ≡ Memory) ⊎ ((fault ≡ Order) × ((order : List ℕ) → WritesSpacedOrder bytes order → ⊥)))
    cases (Ok v) h = (utf8, inr (subst (λ t. WriteNumbers t (items v)) all_parts h))
    cases (Err fault) (inl memory) = inl memory
    cases (Err fault) (inr unread) = inr (
      unread.0,
      λ order written. elim written.1 [
        | inl empty ↦ some (ap trimmed (sym same) ∙ empty.0)
        | inr all ↦ unread.1 order (subst (λ t. WriteNumbers t order) (sym all_parts) all)
      ],
    )

-- the text that `trim_ascii` gives
pub trim_is : (text rest : List ℕ) → IsTrimAscii text rest → rest ≡ trimmed text
trim_is text rest h = trim_ascii_is text rest _ refl h

-- what is known of the order of a text is known of what the option gives
pub plain_told : {V : Type 0} (items : V → List ℕ) (text : List ℕ) (r : Result V Fault)
    → MatchResult r (λ v. WritesOrder text (items v))
    (λ fault. (fault ≡ Memory) ⊎ ((fault ≡ Order) × ((order : List ℕ) → WritesOrder text order → ⊥)))
    → MatchResult r (λ v. GivesOrder text (items v)) (λ fault. (fault ≡ Memory) ⊎ ((fault ≡ Order) × GivesNoOrder text))
plain_told items text (Ok v) h = inl h
plain_told items text (Err fault) (inl memory) = inl memory
plain_told items text (Err fault) (inr unread) = inr (unread.0, inr unread.1)
