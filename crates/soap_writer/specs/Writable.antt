-- Elements that are read back as they were written.
use Rattle.std.specs.Prelude.{◌≡◌, ◌≢◌, ℕ, ◌<◌, ◌^◌, List, [], true, codes, length}
use Rattle.std.specs.List.{AllByRecursion}
use Rattle.soap_lex.specs.Characters.{IsName, IsChars}
use Rattle.soap_document.specs.Profile.Namespaces.{xmlns_space, are_distinct_names}
use Rattle.rm_base.specs.declared.message.Binding.{Binding}
use Rattle.soap_document.specs.Profile.Tree.{Element, element, Parts, none, text, child}
use Rattle.soap_document.specs.declared.profile.name.Expanded.{Expanded}
use Rattle.soap_document.specs.declared.profile.tree.Attr.{Attr}

-- a local name without a colon, and a namespace of characters that is not the one of xmlns (Namespaces 3)
pub record IsNameWritable (name : Expanded) : Type 0 where
  pub local : IsName name.local
  pub space : IsChars name.space
  pub no_xmlns : name.space ≢ xmlns_space

-- an attribute that does not look like the declaration of the default namespace (Namespaces 3)
pub record IsAttrWritable (a : Attr) : Type 0 where
  pub name : IsNameWritable a.name
  pub value : IsChars a.value
  pub no_declaration : a.name.space ≡ [] → a.name.local ≢ codes "xmlns"

-- a start tag without declarations, with attributes that a machine can count, none of them twice (Namespaces 6.3)
pub record IsTagWritable (name : Expanded) (decls : List Binding) (attrs : List Attr) : Type 0 where
  pub named : IsNameWritable name
  pub no_decls : decls ≡ []
  pub each : AllByRecursion IsAttrWritable attrs
  pub distinct : are_distinct_names attrs ≡ true
  pub counted : length attrs < 2 ^ 64

-- text that is not empty
pub record IsTextWritable (bytes : List ℕ) : Type 0 where
  pub some : bytes ≢ []
  pub chars : IsChars bytes

-- no text is first
abbrev pub NoText : Parts → Type 0
NoText none = Unit {0}
NoText (text bytes parts) = ⊥
NoText (child first parts) = Unit {0}

-- an element of such tags and texts, no two of which are neighbours
abbrev mutual
  pub IsWritable : Element → Type 0
  IsWritable (element name decls attrs parts) = IsTagWritable name decls attrs × ArePartsWritable parts

  pub ArePartsWritable : Parts → Type 0
  ArePartsWritable none = Unit {0}
  ArePartsWritable (text bytes parts) = IsTextWritable bytes × NoText parts × ArePartsWritable parts
  ArePartsWritable (child first parts) = IsWritable first × ArePartsWritable parts
