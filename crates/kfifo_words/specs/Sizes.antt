-- Which sizes a shape may have, and which fault is reported where it may not.
use Rattle.std.specs.Prelude.{ℕ, ◌&&◌, nat_le, if◌then◌else◌, Bool, not, Option, Some, None}
use Rattle.kfifo_words.specs.declared.shape.TheConstants.{MAX_K, MAX_SEGMENTS}
use Rattle.kfifo_words.specs.declared.word.TheConstants.{MAX_VERSION}
use Rattle.kfifo_words.specs.declared.fault.ShapeFault.{ShapeFault}
use Rattle.kfifo_words.specs.declared.fault.ShapeFault.TheVariants.{KOutOfRange, SegmentsOutOfRange, LastOutOfRange}
use Rattle.kfifo_words.specs.declared.fault.ShapeFault.TheVariants.{ProbesOutOfRange}

-- a lies within these bounds, both among them
abbrev pub within : ℕ → ℕ → ℕ → Bool
within least most a = nat_le least a && nat_le a most

-- the first fault of these sizes
abbrev pub fault_of : ℕ → ℕ → ℕ → ℕ → Option ShapeFault
fault_of k n last probes =
    if not (within 1 MAX_K k) then Some KOutOfRange
    else if not (within 2 MAX_SEGMENTS n) then Some SegmentsOutOfRange
    else if not (within 2 MAX_VERSION last) then Some LastOutOfRange
    else if not (within 1 k probes) then Some ProbesOutOfRange
    else None

-- the number of a fault
abbrev pub shape_fault_number : ShapeFault → ℕ
shape_fault_number KOutOfRange = 1
shape_fault_number SegmentsOutOfRange = 2
shape_fault_number LastOutOfRange = 3
shape_fault_number ProbesOutOfRange = 4
