-- Names in values: XML Schema Part 2, section 3.2.18, and Namespaces in XML 1.0, sections 3 and 6.
use Rattle.std.specs.Prelude.{ℕ, List, ◌++◌, Bool, not, ◌&&◌, if◌then◌else◌, Option, None, codes}
use Rattle.std.specs.List.{flat_map}
use Rattle.std.specs.Str.{bytes_eq}
use Rattle.soap_document.specs.Tokens.{is_qname}
use Rattle.soap_document.specs.Profile.Namespaces.{split, element_name}
use Rattle.soap_document.specs.Profile.Tree.{Element, decls_of}
use Rattle.rm_base.specs.declared.message.Binding.{Binding}
use Rattle.soap_document.specs.declared.profile.name.Expanded.{Expanded}

-- the bindings in force within elements, the innermost of which comes first, around which these are in force
abbrev pub within : List Element → List Binding → List Binding
within elements outer = flat_map decls_of elements ++ outer

-- whether bytes are written as a name; xmlns is the prefix of none, as nothing may bind it (Namespaces 3)
abbrev pub is_name_value : List ℕ → Bool
is_name_value bytes = is_qname bytes && not (bytes_eq (split bytes).0 (codes "xmlns"))

-- the name that bytes are where these bindings are in force: without a prefix it is in the default namespace, or in
-- none
abbrev pub qname_in : List Binding → List ℕ → Option Expanded
qname_in bindings bytes = if is_name_value bytes then element_name bindings bytes else None
