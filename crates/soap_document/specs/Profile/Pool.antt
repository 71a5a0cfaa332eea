-- What is known of names.
use Rattle.std.specs.Prelude.{◌≡◌, ◌≤◌, ℕ, List, Option, Some, IfSome}
use Rattle.std.specs.List.{All}
use Rattle.soap_document.specs.Profile.Tree.{Expanded}
use Rattle.soap_document.specs.declared.profile.pool.Met.{Met}
use Rattle.soap_document.specs.declared.profile.pool.Pool.{Pool}

-- a name was met no later than in this era, and where it was met in this one, it is resolved so
pub record Holds (resolve : List ℕ → Option Expanded) (era : ℕ) (met : Met) : Type 0 where
  pub past : met.era ≤ era
  pub resolved : met.era ≡ era → resolve met.written ≡ Some met.name

-- this holds of each name that is kept
pub record Knows (resolve : List ℕ → Option Expanded) (pool : Pool) : Type 0 where
  pub each : All (λ (slot : Option Met). IfSome slot (Holds resolve pool.era)) pool.slots.items
