-- Equal indexes are of one slot.
use Rattle.std.proofs.Common.{◌≡◌, ℕ, ◌+◌, ◌*◌, ◌<◌, ◌≤◌, inl, inr, suc, arith}
use Rattle.std.proofs.Math.Nat.{mul-le-mul_right}
use Rattle.std.proofs.lemmas.Bool.{cases_order}
use Rattle.kfifo_words.proofs.shape.Shape.slot_index.Goals as goal

-- a slot of an earlier segment stands at a lower index
earlier : (k s t i j : ℕ) → s < t → i < k → s * k + i < t * k + j
earlier k s t i j lt in_segment = let m : suc s * k ≤ t * k = mul-le-mul_right k lt in omega arith

same_slot : (k s t i j : ℕ) → i < k → j < k → 1 + s * k + i ≡ 1 + t * k + j → (s ≡ t) × (i ≡ j)
same_slot k s t i j i_in j_in same =
    elim (cases_order s t) [
      | inl e ↦ (e, grind arith)
      | inr apart ↦ elim apart [
        | inl lt ↦ let m = earlier k s t i j lt i_in in absurd (omega arith)
        | inr gt ↦ let m = earlier k t s j i gt j_in in absurd (omega arith)
      ]
    ]

pub returns-clause-distinct : goal.returns-clause-distinct
returns-clause-distinct c s i s_in i_in same = same_slot c.args.self.now.k s c.args.segment i c.args.slot i_in
    c.requires.slot_in same
