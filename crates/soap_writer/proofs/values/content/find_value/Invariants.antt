use Rattle.std.proofs.Common.{◌≡◌, ◌++◌, drop}
use Rattle.soap_document.specs.Profile.View.{attrs_view}
use Rattle.soap_writer.specs.Values.Children.{name_in, value_among}
use Rattle.soap_writer.proofs.values.content.find_value.Given as goal

-- it is none of those so far
abbrev pub invariant-loop-item : goal.invariant-loop-item
invariant-loop-item l =
    value_among (name_in l.space l.local) (attrs_view (drop l.item-index l.items))
    ≡ value_among (name_in l.space l.local) (attrs_view l.items)
