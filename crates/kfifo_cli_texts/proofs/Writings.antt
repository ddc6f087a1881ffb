-- Texts that are written one after the other.
use Rattle.std.proofs.Common.{◌≡◌, ◌∙◌, ◌++◌, ◌+◌, ◌<◌, [], ℕ, Bool, true, false, List, Option, MatchBool, sym, ap}
use Rattle.std.proofs.Common.{subst, append_assoc, append-nil}
use Rattle.std.proofs.KnownBytes.{Appends-trans}
use Rattle.kfifo_judge.specs.Streams.{AppendsPart, CountsOne, countable}
use Rattle.kfifo_cli_texts.specs.Printing.{Stays, Writes, Breaks}
use Rattle.kfifo_cli_texts.specs.declared.printing.Printer.{Printer}

module _ {W : Type 0} (contents : W → Option (List ℕ)) where
  pub writes_more : (a b c : Printer W) (xs ys : List ℕ) → Writes contents a xs b → Writes contents b ys c
      → Writes contents a (xs ++ ys) c
  writes_more a b c xs ys p q = (Appends-trans _ _ _ xs ys p.0 q.0, q.1 ∙ p.1, q.2 ∙ p.2)

  pub first_breaks : (a b : Printer W) (x y z : List ℕ) → Breaks contents a x b → Breaks contents a ((x ++ y) ++ z) b
  first_breaks a b x y z p = (
    (
      p.0.0,
      (p.0.1 ++ y) ++ z,
      ap (λ t. (t ++ y) ++ z) p.0.2 ∙ ap (λ t. t ++ z) (append_assoc p.0.0 p.0.1 y)
          ∙ append_assoc p.0.0 (p.0.1 ++ y) z,
      p.0.3,
    ),
    p.1,
    p.2,
  )

  pub second_breaks : (a b c : Printer W) (x y z : List ℕ) → Writes contents a x b → Breaks contents b y c
      → Breaks contents a ((x ++ y) ++ z) c
  second_breaks a b c x y z p q = (
    (
      x ++ q.0.0,
      q.0.1 ++ z,
      ap (λ t. (x ++ t) ++ z) q.0.2 ∙ ap (λ t. t ++ z) (sym (append_assoc x q.0.0 q.0.1))
          ∙ append_assoc (x ++ q.0.0) q.0.1 z,
      Appends-trans _ _ _ x q.0.0 p.0 q.0.3,
    ),
    λ few. q.1 (subst (λ n. n < countable) (sym p.1) few) ∙ ap (λ n. n + 1) p.1,
    q.2 ∙ p.2,
  )

  third_breaks : (a b c : Printer W) (x y : List ℕ) → Writes contents a x b → Breaks contents b y c
      → Breaks contents a (x ++ y) c
  third_breaks a b c x y p q = subst (λ t. Breaks contents a t c) (append-nil (x ++ y)) (second_breaks a b c x y [] p q)

  -- the last of three texts, after the first two
  pub third : (told : Bool) (a b c d : Printer W) (x y z : List ℕ) → Writes contents a x b → Writes contents b y c
      → MatchBool told (Writes contents c z d) (Breaks contents c z d)
      → MatchBool told (Writes contents a ((x ++ y) ++ z) d) (Breaks contents a ((x ++ y) ++ z) d)
  third true a b c d x y z p q r = writes_more a c d (x ++ y) z (writes_more a b c x y p q) r
  third false a b c d x y z p q r = third_breaks a c d (x ++ y) z (writes_more a b c x y p q) r

  pub it_wrote : (told : Bool) (a b : Printer W) (x : List ℕ) → told ≡ true
      → MatchBool told (Writes contents a x b) (Breaks contents a x b)
      → Writes contents a x b
  it_wrote true a b x e h = h
  it_wrote false a b x e h = absurd (cc)

  pub it_broke : (told : Bool) (a b : Printer W) (x : List ℕ) → told ≡ false
      → MatchBool told (Writes contents a x b) (Breaks contents a x b) → Breaks contents a x b
  it_broke true a b x e h = absurd (cc)
  it_broke false a b x e h = h

  pub first_of_two : (a b : Printer W) (x y : List ℕ) → Breaks contents a x b → Breaks contents a (x ++ y) b
  first_of_two a b x y p = subst (λ t. Breaks contents a t b) (append-nil (x ++ y)) (first_breaks a b x y [] p)

  pub second_of_two : (told : Bool) (a b c : Printer W) (x y : List ℕ) → Writes contents a x b
      → MatchBool told (Writes contents b y c) (Breaks contents b y c)
      → MatchBool told (Writes contents a (x ++ y) c) (Breaks contents a (x ++ y) c)
  second_of_two true a b c x y p q = writes_more a b c x y p q
  second_of_two false a b c x y p q = third_breaks a b c x y p q

  -- a call of the writer that failed behind a beginning of the text
  pub failed_behind : (told : Bool) (a b : Printer W) (x : List ℕ) (now : W) (count : ℕ) → told ≡ false
      → AppendsPart (contents a.writer.now) (contents now) x → count ≡ a.failed
      → CountsOne count b.failed → b.writer.now ≡ now → Stays a b
      → MatchBool told (Writes contents a x b) (Breaks contents a x b)
  failed_behind true a b x now count e part same counted held stays = absurd (cc)
  failed_behind false a b x now count e part same counted held stays = (
    subst (λ w. AppendsPart (contents a.writer.now) (contents w) x) (sym held) part,
    subst (λ n. CountsOne n b.failed) same counted,
    stays,
  )
