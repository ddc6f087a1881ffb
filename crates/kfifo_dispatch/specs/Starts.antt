-- The starts of a worker's calls, drawn from a generator of O'Neill's PCG family.
use Rattle.std.specs.Prelude.{ℕ}
use Rattle.rand_core.specs.Pcg32Seed.{pcg32_seed}
use Rattle.rand_pcg.specs.Lcg.{Lcg}
use Rattle.rand_pcg.specs.Pcg.{pcg32_of_seed}

-- what draws starts: the number of slots of a segment, beside the generator
pub record Draws : Type 0 where
  pub k : ℕ
  pub generator : Lcg

-- the generator that a number seeds
abbrev pub seeded : ℕ → Lcg
seeded number = pcg32_of_seed (pcg32_seed 16 number)
