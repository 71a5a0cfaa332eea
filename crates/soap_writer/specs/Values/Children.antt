-- What an element has: its children of a name, its text and the values of its attributes.
use Rattle.std.specs.Prelude.{◌≡◌, ℕ, List, [], ◌∷◌, ◌++◌, Bool, ◌&&◌, if◌then◌else◌, Option, Some, None, option_map}
use Rattle.std.specs.List.{filter}
use Rattle.std.specs.Str.{bytes_eq}
use Rattle.soap_document.specs.Profile.Tree.{Element, Parts, none, text, child, name_of, children_of}
use Rattle.soap_document.specs.declared.profile.name.Expanded.{Expanded}
use Rattle.soap_document.specs.declared.profile.tree.Attr.{Attr}

-- a local name in a namespace: Namespaces in XML 1.0, section 2.1
abbrev pub name_in : List ℕ → List ℕ → Expanded
name_in space local = record { space = space; local = local }

-- whether two names are one
abbrev pub is_same : Expanded → Expanded → Bool
is_same a b = bytes_eq a.local b.local && bytes_eq a.space b.space

-- whether an element is called so
abbrev pub has_name : Expanded → Element → Bool
has_name name e = is_same (name_of e) name

-- the children of a name, in order; all others, and text beside them, are passed over
abbrev pub children_named : Expanded → Parts → List Element
children_named name parts = filter (has_name name) (children_of parts)

-- the text of content, put together; a child element makes it unreadable
abbrev pub text_among : Parts → Option (List ℕ)
text_among none = Some []
text_among (text bytes parts) = option_map (λ more. bytes ++ more) (text_among parts)
text_among (child first parts) = None

-- the value of the attribute of a name
abbrev pub value_among : Expanded → List Attr → Option (List ℕ)
value_among name [] = None
value_among name (a ∷ attrs) = if is_same a.name name then Some a.value else value_among name attrs
