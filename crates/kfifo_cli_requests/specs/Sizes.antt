-- Which shape the sizes of a queue make.
use Rattle.std.specs.Prelude.{◌≡◌, Some, unwrap_or}
use Rattle.kfifo_words.specs.declared.shape.Shape.{Shape}
use Rattle.kfifo_words.specs.declared.fault.ShapeFault.{ShapeFault}
use Rattle.kfifo_words.specs.Sizes.{fault_of}
use Rattle.kfifo_cli_requests.specs.declared.sizes.Sizes.{Sizes}

-- the shape has these sizes, k probes where none are given, and enqueues that hold again where that is asked for
pub record IsShapeOf (sizes : Sizes) (shape : Shape) : Type 0 where
  pub k_is : shape.k ≡ sizes.k
  pub n_is : shape.n ≡ sizes.segments
  pub last_is : shape.last ≡ sizes.last
  pub probes_is : shape.probes ≡ unwrap_or sizes.probes sizes.k
  pub holds_again_is : shape.holds_again ≡ sizes.hold_again

-- the sizes make no shape, and this is their first fault
abbrev pub IsShapeFault : Sizes → ShapeFault → Type 0
IsShapeFault sizes fault = fault_of sizes.k sizes.segments sizes.last (unwrap_or sizes.probes sizes.k) ≡ Some fault
