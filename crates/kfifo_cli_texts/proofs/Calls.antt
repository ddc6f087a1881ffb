-- Where a word is cut: at its first colon, and nowhere else.
use Rattle.std.proofs.Common.{◌≡◌, ◌≢◌, ℕ, ◌<◌, ◌≤◌, List, [], ◌∷◌, inl, inr, arith, refl, sym, ◌∙◌, subst}
use Rattle.std.proofs.lemmas.Str.Parse.{not_in_digits}
use Rattle.kfifo_machine.specs.declared.event.Begin.{Begin}
use Rattle.kfifo_machine.specs.declared.event.Begin.TheVariants.{Enqueue, Dequeue, Tick, Seal}
use Rattle.kfifo_cli_texts.specs.Words.{Cuts, WritesNumber, WritesStart, WritesEnqueue, WritesDequeue, WritesCall}
use Rattle.kfifo_cli_texts.proofs.FirstCut.{IsPlain, IsRest, cut_once, plain_cons}
use Rattle.kfifo_cli_requests.proofs.Digits.{own}

rest_of_start : (rest : List ℕ) (start : ℕ) → WritesStart rest start → IsRest 58 rest
rest_of_start rest start (inl none) = inl none.0
rest_of_start rest start (inr some) = inr (some.0, some.1)

heads_differ : (x y : ℕ) (xs ys : List ℕ) → x ≢ y → x ∷ xs ≡ y ∷ ys → ⊥
heads_differ x y xs ys p e = p (cc)

digits_plain : (number : List ℕ) (n : ℕ) → WritesNumber number n → IsPlain 58 number
digits_plain number n w = not_in_digits own number 58 w.digits (λ h. omega (arith, h.0, h.1))

enqueue_cut : {k item start : ℕ} {word : List ℕ} (w : WritesEnqueue k word item start)
    → Cuts word (101 ∷ w.number) w.rest
enqueue_cut w = record {
  split = w.split;
  plain =
      plain_cons 58 101 w.number (λ e. omega (arith, e)) (digits_plain w.number _ w.item_written);
}

dequeue_cut : {k start : ℕ} {word : List ℕ} (w : WritesDequeue k word start) → Cuts word (100 ∷ []) w.rest
dequeue_cut w = record {
  split = w.split;
  plain = plain_cons 58 100 [] (λ e. omega (arith, e)) (λ i lt. omega (arith, lt));
}

-- two cuts of a word are one
same_cut : (word a r b s : List ℕ) (m n : ℕ) → Cuts word a r → Cuts word b s → WritesStart r m → WritesStart s n
    → (a ≡ b) × (r ≡ s)
same_cut word a r b s m n p q wr ws = cut_once 58 a r b s p.plain q.plain (rest_of_start r m wr) (rest_of_start s n ws)
    (sym p.split ∙ q.split)

-- behind the first colon stands no number below k, so the word has no start
pub no_start : (k : ℕ) (word name number : List ℕ) → Cuts word name (58 ∷ number)
    → ((n : ℕ) → n < k → WritesNumber number n → ⊥)
    → (a r : List ℕ) (start : ℕ) → Cuts word a r → start < k → WritesStart r start → ⊥
no_start k word name number cut none a r start other below written =
    let rests : r ≡ 58 ∷ number =
    (cut_once 58 a r name (58 ∷ number) other.plain cut.plain (rest_of_start r start written)
    (inr (number, refl)) (sym other.split ∙ cut.split)).1 in
    elim written [
      | inl w ↦ let bad : [] ≡ 58 ∷ number = sym w.0 ∙ rests in cc
      | inr w ↦ let same : 58 ∷ w.0 ≡ 58 ∷ number = sym w.1 ∙ rests in
          let numbers : w.0 ≡ number = cc in
          none start below (subst (λ t. WritesNumber t start) numbers w.2)
    ]

-- a word with no cut and start writes no call
pub no_call : (k turns : ℕ) (word : List ℕ)
    → ((a r : List ℕ) (start : ℕ) → Cuts word a r → start < k → WritesStart r start → ⊥)
    → (call : Begin) → WritesCall k turns word call → ⊥
no_call k turns word none (Enqueue item start rounds) w =
    none (101 ∷ w.0.number) w.0.rest start (enqueue_cut w.0) w.0.start_fits w.0.start_written
no_call k turns word none (Dequeue start rounds) w = none (100 ∷ []) w.0.rest start (dequeue_cut w.0) w.0.start_fits
    w.0.start_written
no_call k turns word none Tick w = w
no_call k turns word none Seal w = w

-- a cut, and the start behind it
abbrev pub IsCut : ℕ → List ℕ → List ℕ → ℕ → Type 0
IsCut k word name start = (rest : List ℕ) × Cuts word name rest × WritesStart rest start × (start < k)

-- behind e stands no item, so the word writes no call
pub no_item : (k turns : ℕ) (word name number : List ℕ) (start : ℕ) → IsCut k word name start → name ≡ 101 ∷ number
    → ((n : ℕ) → 1 ≤ n → n < 16777216 → WritesNumber number n → ⊥) → (call : Begin) → WritesCall k turns word call → ⊥
no_item k turns word name number start cut e none (Enqueue item slot rounds) w =
    let names : 101 ∷ w.0.number ≡ name =
    (same_cut word _ _ name cut.0 slot start (enqueue_cut w.0) cut.1 w.0.start_written cut.2).0 in
    let numbers : w.0.number ≡ number = cc in
    none item w.0.some_item w.0.item_fits (subst (λ t. WritesNumber t item) numbers w.0.item_written)
no_item k turns word name number start cut e none (Dequeue slot rounds) w =
    let names : 100 ∷ [] ≡ name =
    (same_cut word _ _ name cut.0 slot start (dequeue_cut w.0) cut.1 w.0.start_written cut.2).0 in
    heads_differ 100 101 [] number (λ same. omega (arith, same)) (names ∙ e)
no_item k turns word name number start cut e none Tick w = w
no_item k turns word name number start cut e none Seal w = w

-- the name is neither an enqueue's nor a dequeue's
pub no_name : (k turns : ℕ) (word name : List ℕ) (start : ℕ) → IsCut k word name start
    → ((number : List ℕ) → name ≢ 101 ∷ number)
    → name ≢ 100 ∷ [] → (call : Begin) → WritesCall k turns word call → ⊥
no_name k turns word name start cut not_enqueue not_dequeue (Enqueue item slot rounds) w =
    not_enqueue w.0.number
    (sym (same_cut word _ _ name cut.0 slot start (enqueue_cut w.0) cut.1 w.0.start_written cut.2).0)
no_name k turns word name start cut not_enqueue not_dequeue (Dequeue slot rounds) w =
    not_dequeue (sym (same_cut word _ _ name cut.0 slot start (dequeue_cut w.0) cut.1 w.0.start_written cut.2).0)
no_name k turns word name start cut not_enqueue not_dequeue Tick w = w
no_name k turns word name start cut not_enqueue not_dequeue Seal w = w
