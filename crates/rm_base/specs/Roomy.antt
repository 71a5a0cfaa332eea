-- Values that have room beside their facts.
use Rattle.std.specs.Prelude.{ℕ, List}

-- the items of a list, and how many more it takes without memory
pub record Roomy (T : Type 0) : Type 0 where
  pub facts : List T
  pub spare : ℕ
