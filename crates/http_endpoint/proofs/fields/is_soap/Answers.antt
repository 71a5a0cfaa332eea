use Rattle.std.proofs.Common.{◌≡◌, ◌||◌, not, ap, ◌∙◌, get_or}
use Rattle.std.specs.Prelude.{codes}
use Rattle.httparse.specs.Spans.{header_bytes}
use Rattle.httparse.specs.declared.spans.HeaderSpan.{HeaderSpan}
use Rattle.http1.specs.Text.{eq_ignore_case}
use Rattle.http1.specs.Fields.{Header, is_named}
use Rattle.http_endpoint.specs.Fields.{is_type_of}
use Rattle.http_endpoint.proofs.FieldFacts.{any-more, all-more}
use Rattle.http_endpoint.proofs.fields.is_soap.Goals as goal

pub loop-header-preserved : goal.loop-header-preserved
loop-header-preserved c =
    let headers = c.args.headers.now in
    let media = c.args.media in
    let i = c.loop-header.header-index in
    let none : HeaderSpan = record { name = record { start = 0; end = 0 }; value = record { start = 0; end = 0 } } in
    let bytes_of = header_bytes c.args.bytes.now in
    let at : Header = bytes_of (get_or headers i none) in
    let is_type : c.eq_ignore_case-is_type.result ≡ is_named (codes "content-type") at =
    c.eq_ignore_case-is_type.ensures ∙ ap (λ n. eq_ignore_case n (codes "content-type")) c.of-name.ensures in
    let soap : c.is_type_of.result ≡ is_type_of media at.1 = c.is_type_of.ensures
    ∙ ap (is_type_of media) c.of-value.ensures in
    let inside = c.loop-header-test.true in
    let types = any-more (is_named (codes "content-type")) bytes_of headers i none inside in
    let soaps = all-more (λ (h : Header). not (is_named (codes "content-type") h) || is_type_of media h.1) bytes_of
    headers i none inside in
    record { has_type = cc; all_soap = cc }
