use Rattle.std.proofs.Common.{◌≡◌, ◌++◌, drop, map}
use Rattle.soap_document.specs.Profile.View.{element_view}
use Rattle.soap_document.proofs.profile.elements.Elements.copy.Given as goal

-- those so far, and those of what is left
abbrev pub invariant-loop-element : goal.invariant-loop-element
invariant-loop-element l =
    l.copy ++ map element_view (drop l.element-index l.element-items) ≡ map element_view l.element-items
