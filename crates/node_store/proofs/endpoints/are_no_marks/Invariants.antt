use Rattle.std.proofs.Common.{◌≡◌, drop}
use Rattle.soap_document.specs.Profile.Namespaces.{is_new_name}
use Rattle.soap_document.specs.Profile.View.{attrs_view}
use Rattle.wsa_headers.specs.Endpoint.{mark_name}
use Rattle.node_store.proofs.endpoints.are_no_marks.Given as goal

-- those that are left decide
abbrev pub invariant-loop-item : goal.invariant-loop-item
invariant-loop-item l =
    is_new_name mark_name (attrs_view (drop l.item-index l.items)) ≡ is_new_name mark_name (attrs_view l.items)
