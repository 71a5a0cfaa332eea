use Rattle.std.proofs.Common.{◌≡◌, map, take}
use Rattle.std.specs.Prelude.{codes}
use Rattle.httparse.specs.Spans.{header_bytes}
use Rattle.http_endpoint.specs.Fields.{has_named, each_named, is_type_of}
use Rattle.http_endpoint.proofs.fields.is_soap.Given as goal

abbrev pub invariant-loop-header : goal.invariant-loop-header
invariant-loop-header l =
    let seen = map (header_bytes l.bytes) (take l.header-index l.headers) in
    record {
      has_type : l.has_type ≡ has_named (codes "content-type") seen;
      all_soap : l.all_soap ≡ each_named (codes "content-type") (is_type_of l.media) seen;
    }
