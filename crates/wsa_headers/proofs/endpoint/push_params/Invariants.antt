use Rattle.std.proofs.Common.{◌≡◌, ◌++◌, drop, map}
use Rattle.soap_document.specs.Profile.Tree.{children_of}
use Rattle.soap_document.specs.Profile.View.{parts_view}
use Rattle.wsa_headers.specs.Endpoint.{param}
use Rattle.wsa_headers.proofs.endpoint.push_params.Given as goal

-- those so far, and those of what is left
abbrev pub invariant-loop-item : goal.invariant-loop-item
invariant-loop-item l =
    l.params ++ map param (children_of (parts_view (drop l.item-index l.items)))
    ≡ l.initial.params ++ map param (children_of (parts_view l.items))
