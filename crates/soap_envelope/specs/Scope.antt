-- The bindings in force at a place, as one sorted list: Namespaces in XML 1.0, section 6.
use Rattle.std.specs.Prelude.{◌≡◌, ℕ, List, [], ◌∷◌, Option, Some, None, if◌then◌else◌, codes, IsTrue, ⊤}
use Rattle.std.specs.Ordering.{nat_cmp, is_lt}
use Rattle.std.specs.Cmp.Lexicographic.{slice_cmp}
use Rattle.std.specs.List.{AllByRecursion}
use Rattle.std.specs.Str.{bytes_eq}
use Rattle.soap_document.specs.Profile.Namespaces.{bound}
use Rattle.rm_base.specs.declared.message.Binding.{Binding}

-- a default namespace that is undeclared is bound to nothing (6.2)
abbrev pub declared : Option (List ℕ) → Option (List ℕ)
declared None = None
declared (Some []) = None
declared (Some (byte ∷ space)) = Some (byte ∷ space)

-- what a prefix other than xml is bound to; of bindings the first counts
abbrev pub in_force : List ℕ → List Binding → Option (List ℕ)
in_force prefix bindings = if bytes_eq prefix (codes "xml") then None else declared (bound prefix bindings)

-- the prefixes rise by their bytes, and so none stands twice
abbrev pub Rises : List Binding → Type 0
Rises [] = ⊤
Rises (b ∷ bindings) =
    AllByRecursion (λ later. IsTrue (is_lt (slice_cmp nat_cmp b.prefix later.prefix))) bindings × Rises bindings

-- the bindings in force among these, the innermost of which come first: sorted by prefix, without xml
pub record IsScope (bindings scope : List Binding) : Type 0 where
  pub rises : Rises scope
  pub same : (prefix : List ℕ) → bound prefix scope ≡ in_force prefix bindings
