-- Bindings in which everything is read that is read in others: Namespaces in XML 1.0, section 6.
use Rattle.std.specs.Prelude.{◌≡◌, ℕ, List, [], false, Some, codes}
use Rattle.std.specs.Str.{bytes_eq}
use Rattle.soap_lex.specs.Tests.{is_nil}
use Rattle.soap_document.specs.Profile.Namespaces.{bound, or_none}
use Rattle.rm_base.specs.declared.message.Binding.{Binding}

-- each prefix that is bound stays bound so, and the default namespace is the same
pub record Covers (outer wider : List Binding) : Type 0 where
  pub named : (prefix space : List ℕ) → is_nil prefix ≡ false → bytes_eq prefix (codes "xml") ≡ false
      → bound prefix outer ≡ Some space → bound prefix wider ≡ Some space
  pub default : or_none (bound [] outer) ≡ or_none (bound [] wider)
