-- How much room texts of elements take, counted piece by piece: what is left of a room behind each, where it fits. A
-- law (`room_is_length`) says that this is the length of the text.
use Rattle.std.specs.Prelude.{ℕ, ◌+◌, ◌-◌, List, [], ◌∷◌, ◌||◌, nat_le, if◌then◌else◌, Option, Some, None, length}
use Rattle.std.specs.Prelude.{decimal}
use Rattle.std.specs.Str.{bytes_eq}
use Rattle.soap_lex.specs.Escapes.{text_escape, value_escape}
use Rattle.soap_lex.specs.Tests.{is_nil}
use Rattle.soap_document.specs.Profile.Namespaces.{xml_space}
use Rattle.soap_document.specs.Profile.Tree.{Element, element, Parts, none, text, child}
use Rattle.soap_document.specs.declared.profile.name.Expanded.{Expanded}
use Rattle.soap_document.specs.declared.profile.tree.Attr.{Attr}
use Rattle.soap_writer.specs.Values.Outcome.{◌>>=◌}

-- what is left of a room behind so many bytes, where they fit
abbrev pub left_of : ℕ → ℕ → Option ℕ
left_of cost room = if nat_le cost room then Some (room - cost) else None

-- behind text
abbrev pub text_room : List ℕ → ℕ → Option ℕ
text_room [] room = Some room
text_room (byte ∷ bytes) room = left_of (length (text_escape byte)) room >>= λ left. text_room bytes left

-- behind a value
abbrev pub value_room : List ℕ → ℕ → Option ℕ
value_room [] room = Some room
value_room (byte ∷ bytes) room = left_of (length (value_escape byte)) room >>= λ left. value_room bytes left

-- the length of a name with a prefix of so many bytes
abbrev pub name_length : ℕ → Expanded → ℕ
name_length prefix name =
    if is_nil name.space then length name.local else if bytes_eq name.space xml_space then 4 + length name.local
    else prefix + (1 + length name.local)

-- behind the declaration of the prefix, where the name needs one: ` xmlns:`, the prefix, `=` and two quotation marks
unfoldable pub declaration_room : ℕ → Expanded → ℕ → Option ℕ
declaration_room prefix name room =
    if is_nil name.space || bytes_eq name.space xml_space then Some room
    else (left_of (10 + prefix) room >>= λ left. value_room name.space left)

-- behind an attribute: a space, its name, `=` and two quotation marks
unfoldable pub attribute_room : ℕ → Attr → ℕ → Option ℕ
attribute_room prefix a room = do
  first ← declaration_room prefix a.name room
  second ← left_of (4 + name_length prefix a.name) first
  value_room a.value second

-- behind attributes, counted from i
abbrev pub attributes_room : ℕ → List Attr → ℕ → Option ℕ
attributes_room i [] room = Some room
attributes_room i (a ∷ attrs) room =
    attribute_room (1 + length (decimal i)) a room >>= λ left. attributes_room (i + 1) attrs left

-- behind the tags of an element: `<`, `>`, `</`, `>`, its name twice, its declaration and its attributes
unfoldable pub tags_room : Expanded → List Attr → ℕ → Option ℕ
tags_room name attrs room = do
  first ← left_of (5 + name_length 1 name) room
  second ← left_of (name_length 1 name) first
  third ← declaration_room 1 name second
  attributes_room 0 attrs third

-- behind an element, and behind what stands in it
abbrev mutual
  pub element_room : Element → ℕ → Option ℕ
  element_room (element name decls attrs parts) room =
      tags_room name attrs room >>= λ left. parts_room parts left

  pub parts_room : Parts → ℕ → Option ℕ
  parts_room none room = Some room
  parts_room (text bytes parts) room = text_room bytes room >>= λ left. parts_room parts left
  parts_room (child first parts) room = element_room first room >>= λ left. parts_room parts left

-- behind all of them
abbrev pub elements_room : List Element → ℕ → Option ℕ
elements_room [] room = Some room
elements_room (e ∷ es) room = element_room e room >>= λ left. elements_room es left
