use Rattle.std.proofs.Common.{Err, ap, arith, length}
use Rattle.std.proofs.lemmas.Grind.{common_steps}
use Rattle.http_endpoint.proofs.HeadFacts.{request-fits, request-never, headers-inside, request-found}
use Rattle.http_endpoint.proofs.heads.HeadOfRequestPart.parse.Goals as goal

pub is_soap-is_soap12-requires : goal.is_soap-is_soap12-requires
is_soap-is_soap12-requires c =
    headers-inside c.args.bytes.now c.parse_request.new.headers c.split_at.result.0.now c.in-Ok-Complete.field-0
    c.in-Ok-Complete.head
    c.in-Ok-Complete.field-0-is c.in-Ok-Complete.ensures.within c.split_at.ensures.front

pub returns-in-Ok-Complete : goal.returns-in-Ok-Complete
returns-in-Ok-Complete c =
    request-found c.args.bytes.now c.parse_request.new.headers c.split_at.result.0.now c.in-Ok-Complete.field-0
    c.in-Ok-Complete.head
    c.is_post.result c.is_soap-is_soap12.result c.is_soap-is_soap11.result c.is_plain.result c.of.result.now
    c.from_spans.result
    c.in-Ok-Complete.field-0-is c.in-Ok-Complete.ensures.within c.in-Ok-Complete.ensures.complete
    c.split_at.ensures.front c.of.ensures c.is_post.ensures c.from_spans.ensures c.is_soap-is_soap12.ensures
    c.is_soap-is_soap11.ensures c.is_plain.ensures

pub returns : goal.returns
returns c =
    let room = c.as_mut_slice-headers.result.now in
    request-never c.args.bytes.now (c.in-Err.ensures.invalid (λ is. request-fits c.args.bytes.now (length room)
    (grind (arith, common_steps, c.as_mut_slice-headers.ensures.value, c.in_ok-room.ensures))
    (c.in-Err.ensures.too_many (ap Err is))))
