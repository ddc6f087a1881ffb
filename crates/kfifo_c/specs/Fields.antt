-- What stands in the struct of C's handles, one for all kinds of queues. c/include/kfifo.h has the same numbers.
use Rattle.std.specs.Prelude.{◌≡◌, ℕ}
use denote.RawPtr.{Ptr}

-- an open handle points to its seat by `inside`
pub record Fields : Type 0 where
  pub inside : Ptr
  pub address : Ptr
  pub starts : ℕ
  pub kind : ℕ
  pub mark : ℕ
  pub size : ℕ
  pub alignment : ℕ

-- of a new handle of this kind, of the queue at this address, whose cells have this size and alignment
abbrev pub AreNew : Ptr → ℕ → ℕ → ℕ → Fields → Type 0
AreNew address kind size alignment f = (f.address ≡ address) × (f.kind ≡ kind) × (f.mark ≡ 0) × (f.size ≡ size)
    × (f.alignment ≡ alignment)

-- of a handle that was closed: the numbers
abbrev pub AreZero : Fields → Type 0
AreZero f = (f.starts ≡ 0) × (f.kind ≡ 0) × (f.mark ≡ 0) × (f.size ≡ 0) × (f.alignment ≡ 0)
