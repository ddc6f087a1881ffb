-- Two texts that are appended in turn are appended as one.
use Rattle.std.proofs.Common.{ℕ, ◌≡◌, ◌∙◌, ◌++◌, List, OnOk, Result, ap, append_assoc}

pub more : (a b c x y : List ℕ) → b ≡ a ++ x → c ≡ b ++ y → c ≡ a ++ (x ++ y)
more a b c x y p q = q ∙ (ap (λ t. t ++ y) p ∙ append_assoc a x y)

pub on_ok : {A E : Type 0} (r : Result A E) (a b c : List ℕ) → b ≡ c → OnOk r (a ≡ b) → OnOk r (a ≡ c)
on_ok r a b c e h = rw e at h
