use Rattle.std.proofs.Common.{◌≡◌, List, option_map, codes, sym, subst, ◌∙◌}
use Rattle.soap_document.specs.Profile.Tree.{Parts, name_of}
use Rattle.rm_base.specs.declared.message.Binding.{Binding}
use Rattle.soap_document.specs.Profile.View.{element_view}
use Rattle.soap_envelope.specs.Envelope.{name_in, IsOutline, IsHeader}
use Rattle.soap_envelope.specs.View.{envelope_view}
use Rattle.soap_envelope.proofs.Envelopes.{is_envelope, name_is, same_slices}
use Rattle.soap_envelope.proofs.Placed.{IsInside, place_inside, has_last}
use Rattle.soap_envelope.proofs.read.envelope_in.Goals as goal

pub unreachable-requires : goal.unreachable-requires
unreachable-requires c =
    has_last c.args.soap.now c.args.last (option_map element_view c.in-Some.header) (element_view c.in-Some.body)
    c.requires
    (subst (λ (ps : Parts). IsOutline c.args.soap.now ps (option_map element_view c.in-Some.header) (element_view
    c.in-Some.body))
    c.in_ok-name.ensures.parts c.in-Some.ensures) c.in_default-last.is

pub content-requires : goal.content-requires
content-requires c =
    let inside : IsInside c.args.bytes.now c.in-Some-last.place = place_inside c.content_stands_between.ensures
    c.args.last c.in-Some-last.place
    c.in-Some-last.is c.requires in record { low = inside.low; high = inside.high }

pub returns : goal.returns
returns c =
    let tree = element_view c.args.root in
    let header = option_map element_view c.in-Some.header in
    let body = element_view c.in-Some.body in
    let local : c.in_ok-name.field-0.name.local ≡ codes "Envelope" = sym c.local.ensures
    ∙ same_slices c.local.result.now c.as_slice.result.now c.ne.result c.ne.ensures c.if-ne.false
    ∙ c.as_slice.ensures in
    let space : c.in_ok-name.field-0.name.space ≡ c.args.soap.now = sym c.space.ensures
    ∙ same_slices c.space.result.now c.args.soap.now c.ne-2.result c.ne-2.ensures c.if-ne-2.false in
    let named : name_of tree ≡ name_in c.args.soap.now (codes "Envelope") = sym c.in_ok-name.ensures.name ∙ name_is
    c.in_ok-name.field-0.name c.args.soap.now (codes "Envelope") space local in
    is_envelope c.args.soap.now c.args.bytes.now tree c.args.last c.in-Some-last.place header body
    c.as_slice-3.result.now
    (envelope_view
    (record {
      headers = c.in_ok-headers.headers;
      header_scope = c.in_ok-headers.header_scope;
      payload = c.in_ok-payload.payload;
      body = c.in_ok-payload.body;
    })) c.requires c.in-Some-last.is named
    (subst (λ (ps : Parts). IsOutline c.args.soap.now ps header body) c.in_ok-name.ensures.parts
    c.in-Some.ensures)
    (c.as_slice-3.ensures.value ∙ c.in_ok-name.ensures.decls)
    (subst (λ (ds : List Binding). IsHeader ds header c.in_ok-headers.headers
    c.in_ok-headers.header_scope) (c.as_slice-2.ensures.value
    ∙ sym c.as_slice-3.ensures.value) c.in_ok-headers.ensures)
    c.in_ok-payload.ensures.bytes
    c.in_ok-payload.ensures.scope c.in_ok-payload.ensures.content
