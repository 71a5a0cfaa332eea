-- A Body that declares bindings: Namespaces in XML 1.0, section 3.
use Rattle.std.specs.Prelude.{◌≡◌, ℕ, List, [], ◌∷◌, ◌++◌, true, false, codes, ⊤}
use Rattle.std.specs.List.{AllByRecursion}
use Rattle.std.specs.Str.{bytes_eq}
use Rattle.soap_document.specs.declared.attribute.WrittenAttribute.{WrittenAttribute}
use Rattle.soap_document.specs.Profile.Namespaces.{may_bind}
use Rattle.rm_base.specs.declared.message.Binding.{Binding}

-- the name of the attribute that declares a prefix; the default namespace has none
abbrev pub declaring_name : List ℕ → List ℕ
declaring_name [] = codes "xmlns"
declaring_name (c ∷ prefix) = codes "xmlns" ++ (codes ":" ++ (c ∷ prefix))

-- the attribute
abbrev pub declaration : Binding → WrittenAttribute
declaration b = record { name = declaring_name b.prefix; value = b.space }

-- no prefix stands twice
abbrev pub AreApart : List Binding → Type 0
AreApart [] = ⊤
AreApart (b ∷ bs) = AllByRecursion (λ (c : Binding). bytes_eq c.prefix b.prefix ≡ false) bs × AreApart bs

-- each may be declared
abbrev pub MayBeDeclared : List Binding → Type 0
MayBeDeclared bs = AllByRecursion (λ (b : Binding). may_bind b.prefix b.space ≡ true) bs

-- the name of a Body with a prefix
abbrev pub body_name : List ℕ → List ℕ
body_name w = w ++ (codes ":" ++ codes "Body")

-- that prefix, bound to SOAP, before others
abbrev pub body_bindings : List ℕ → List ℕ → List Binding → List Binding
body_bindings soap w scope = record { prefix = w; space = soap } ∷ scope
