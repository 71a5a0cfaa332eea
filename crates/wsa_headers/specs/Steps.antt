-- The same of what an element has in one list.
use Rattle.std.specs.Prelude.{List, Bool, false, not}
use Rattle.std.specs.List.{filter}
use Rattle.soap_document.specs.Profile.Items.{Item, a_declaration, an_attribute, a_text, a_child}
use Rattle.soap_writer.specs.Values.Children.{is_same}
use Rattle.wsa_headers.specs.Endpoint.{mark_name}

-- whether an item is the mark of a reference parameter
abbrev pub is_mark_item : Item → Bool
is_mark_item (a_declaration b) = false
is_mark_item (an_attribute a) = is_same a.name mark_name
is_mark_item (a_text bytes) = false
is_mark_item (a_child e) = false

-- the items without it
abbrev pub unmarked_items : List Item → List Item
unmarked_items items = filter (λ i. not (is_mark_item i)) items
