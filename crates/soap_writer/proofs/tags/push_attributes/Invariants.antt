use Rattle.std.proofs.Common.{◌≡◌, ◌≤◌, ◌++◌, drop}
use Rattle.soap_document.specs.Profile.View.{attrs_view}
use Rattle.soap_writer.specs.ElementText.{attributes_text}
use Rattle.soap_writer.specs.Steps.{Grows}
use Rattle.soap_writer.proofs.tags.push_attributes.Given as goal

-- the attributes so far, and those of what is left
abbrev pub invariant-loop-item : goal.invariant-loop-item
invariant-loop-item l = record {
  counted : l.number ≤ l.item-index;
  written : l.out.items ++ attributes_text l.number (attrs_view (drop l.item-index l.items))
      ≡ l.initial.out.items ++ attributes_text 0 (attrs_view l.items);
  grows : Grows l.initial.out.items l.out.items;
}
