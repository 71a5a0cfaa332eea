use Rattle.std.proofs.Common.{◌≡◌, ◌||◌, not, ap, ◌∙◌, get_or}
use Rattle.std.specs.Prelude.{codes}
use Rattle.httparse.specs.Spans.{header_bytes}
use Rattle.httparse.specs.declared.spans.HeaderSpan.{HeaderSpan}
use Rattle.http1.specs.Text.{eq_ignore_case}
use Rattle.http1.specs.Fields.{Header, is_named}
use Rattle.http_endpoint.specs.Fields.{is_identity}
use Rattle.http_endpoint.proofs.FieldFacts.{all-more}
use Rattle.http_endpoint.proofs.fields.is_plain.Goals as goal

pub loop-header-preserved : goal.loop-header-preserved
loop-header-preserved c =
    let headers = c.args.headers.now in
    let i = c.loop-header.header-index in
    let none : HeaderSpan = record { name = record { start = 0; end = 0 }; value = record { start = 0; end = 0 } } in
    let bytes_of = header_bytes c.args.bytes.now in
    let at : Header = bytes_of (get_or headers i none) in
    let is_coding : c.eq_ignore_case.result ≡ is_named (codes "content-encoding") at =
    c.eq_ignore_case.ensures ∙ ap (λ n. eq_ignore_case n (codes "content-encoding")) c.of-name.ensures in
    let plain : c.is_identity.result ≡ is_identity at.1 = c.is_identity.ensures ∙ ap is_identity c.of-value.ensures in
    let plains =
    all-more (λ (h : Header). not (is_named (codes "content-encoding") h) || is_identity h.1) bytes_of headers i none
    c.loop-header-test.true in
    cc
