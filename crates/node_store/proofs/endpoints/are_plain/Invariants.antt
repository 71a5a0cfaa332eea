use Rattle.std.proofs.Common.{◌≡◌, drop, map}
use Rattle.std.specs.List.{list_all}
use Rattle.soap_document.specs.Profile.View.{element_view}
use Rattle.node_store.specs.Endpoints.{is_plain}
use Rattle.node_store.proofs.endpoints.are_plain.Given as goal

-- those that are left decide
abbrev pub invariant-loop-param : goal.invariant-loop-param
invariant-loop-param l =
    list_all is_plain (map element_view (drop l.param-index l.params)) ≡ list_all is_plain (map element_view l.params)
