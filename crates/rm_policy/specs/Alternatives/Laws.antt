-- What normal forms say of policies.
use Rattle.std.specs.Prelude.{◌↔◌}
use Rattle.rm_policy.specs.Alternatives.Admits.{Admits}
use Rattle.rm_policy.specs.Alternatives.Sets.{TermSet}
use Rattle.rm_policy.specs.Alternatives.Tree.{Policy}

-- two policies admit the same sets
abbrev pub AdmitSame : Policy → Policy → Type 0
AdmitSame p q = (x : TermSet) → Admits p x ↔ Admits q x
