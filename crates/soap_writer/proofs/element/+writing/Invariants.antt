use Rattle.std.proofs.Common.{◌≡◌, ◌++◌, drop}
use Rattle.soap_document.specs.Profile.View.{parts_view}
use Rattle.soap_writer.specs.ElementText.{parts_text}
use Rattle.soap_writer.specs.Steps.{Grows}
use Rattle.soap_writer.proofs.element.+writing.Given as goal

-- the parts so far, and those of what is left
abbrev pub invariant-push_parts-loop-item : goal.invariant-push_parts-loop-item
invariant-push_parts-loop-item l = record {
  written : l.out.items ++ parts_text (parts_view (drop l.item-index l.items))
      ≡ l.initial.out.items ++ parts_text (parts_view l.items);
  grows : Grows l.initial.out.items l.out.items;
}
