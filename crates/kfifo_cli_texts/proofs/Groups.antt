-- Where a group of picks is cut: at its first x.
use Rattle.std.proofs.Common.{◌≡◌, ◌≢◌, ℕ, List, [], ◌∷◌, ◌++◌, inl, inr, arith, refl, sym, ◌∙◌, append-nil, subst, Bor}
use Rattle.std.proofs.Common.{Result, Ok, Err, Option, Some, None, IfOk, MatchOption, codes}
use Rattle.std.proofs.lemmas.Str.Parse.{not_in_digits}
use Rattle.kfifo_cli_texts.specs.declared.picks.Group.{Group}
use Rattle.kfifo_cli_texts.specs.Picks.{SaysGroup, WritesGroup, WritesGroups}
use Rattle.kfifo_cli_texts.specs.Orders.{comma_parts}
use Rattle.kfifo_cli_texts.specs.Scripts.{texts_of}
use Rattle.kfifo_cli_texts.specs.Words.{EachWrites, WritesNumber}
use Rattle.kfifo_cli_texts.proofs.FirstCut.{IsPlain, cut_once}
use Rattle.kfifo_cli_requests.proofs.Digits.{own}

digits_plain : (number : List ℕ) (n : ℕ) → WritesNumber number n → IsPlain 120 number
digits_plain number n w = not_in_digits own number 120 w.digits (λ h. omega (arith, h.0, h.1))

-- what stands before and behind the first x of a group are its numbers
pub cut_group : (text name often : List ℕ) (g : Group) → IsPlain 120 name → text ≡ name ++ 120 ∷ often
    → WritesGroup text g
    → WritesNumber name g.thread × WritesNumber often g.count
cut_group text name often g plain cut w = says w.says
  where
    says : SaysGroup text g.thread g.count → WritesNumber name g.thread × WritesNumber often g.count
    says (inl one) =
        let rests : [] ≡ 120 ∷ often =
        (cut_once 120 text [] name (120 ∷ often) (digits_plain text g.thread one.0) plain (inl refl)
        (inr (often, refl)) (append-nil text ∙ cut)).1 in
        cc
    says (inr two) =
        let same = cut_once 120 two.0 (120 ∷ two.1) name (120 ∷ often) (digits_plain two.0 g.thread two.3) plain
        (inr (two.1, refl))
        (inr (often, refl)) (sym two.2 ∙ cut) in
        let behind : 120 ∷ two.1 ≡ 120 ∷ often = same.1 in
        let counts : two.1 ≡ often = cc in
        (subst (λ t. WritesNumber t g.thread) same.0 two.3, subst (λ t. WritesNumber t g.count) counts two.4)

-- a group with no x is its thread
pub bare_group : (text : List ℕ) (g : Group) → IsPlain 120 text → WritesGroup text g → WritesNumber text g.thread
bare_group text g plain w = says w.says
  where
    says : SaysGroup text g.thread g.count → WritesNumber text g.thread
    says (inl one) = one.0
    says (inr two) =
        let rests : [] ≡ 120 ∷ two.1 =
        (cut_once 120 text [] two.0 (120 ∷ two.1) plain (digits_plain two.0 g.thread two.3) (inl refl)
        (inr (two.1, refl)) (append-nil text ∙ two.2)).1 in
        cc

-- what is known of the groups of the parts is known of the text
pub groups_told : {V E : Type 0} (items : V → List Group) (text : List ℕ) (words : List (Bor (List ℕ)))
    (r : Result (Option V) E)
    → text ≢ codes "none" → texts_of words ≡ comma_parts text
    → IfOk r (λ read. MatchOption read ((groups : List Group) → EachWrites WritesGroup (texts_of words) groups → ⊥)
    (λ v. EachWrites WritesGroup (texts_of words) (items v)))
    → IfOk r (λ read. MatchOption read ((groups : List Group) → WritesGroups text groups → ⊥)
    (λ v. WritesGroups text (items v)))
groups_told items text words (Err e) some parts h = h
groups_told items text words (Ok (Some v)) some parts h = inr (subst (λ t. EachWrites WritesGroup t (items v)) parts h)
groups_told items text words (Ok None) some parts h = none
  where
    none : (groups : List Group) → WritesGroups text groups → ⊥
    none groups (inl empty) = some empty.0
    none groups (inr all) = h groups (subst (λ t. EachWrites WritesGroup t groups) (sym parts) all)
