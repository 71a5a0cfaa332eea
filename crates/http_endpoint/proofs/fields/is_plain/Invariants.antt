use Rattle.std.proofs.Common.{◌≡◌, map, take}
use Rattle.httparse.specs.Spans.{header_bytes}
use Rattle.http_endpoint.specs.Fields.{is_plain}
use Rattle.http_endpoint.proofs.fields.is_plain.Given as goal

abbrev pub invariant-loop-header : goal.invariant-loop-header
invariant-loop-header l = l.all_plain ≡ is_plain (map (header_bytes l.bytes) (take l.header-index l.headers))
