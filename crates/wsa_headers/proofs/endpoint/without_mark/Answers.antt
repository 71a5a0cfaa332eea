use Rattle.std.proofs.Common.{◌∙◌, sym, ap}
use Rattle.soap_writer.specs.Values.ChildLaws.{element_is}
use Rattle.wsa_headers.specs.Endpoint.{unmarked}
use Rattle.wsa_headers.proofs.Marks.{unmarked_view}
use Rattle.wsa_headers.proofs.endpoint.without_mark.Goals as goal

pub returns : goal.returns
returns c =
    element_is _
    ∙ unmarked_view c.args.element.name c.args.element.items.items c.in_ok-items.items.items c.in_ok-items.ensures
    ∙ ap unmarked (sym (element_is c.args.element))
