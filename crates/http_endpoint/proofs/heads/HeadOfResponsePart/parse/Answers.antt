use Rattle.std.proofs.Common.{Err, ap, arith, length}
use Rattle.std.proofs.lemmas.Grind.{common_steps}
use Rattle.http_endpoint.proofs.HeadFacts.{response-fits, response-never, response-inside, response-found}
use Rattle.http_endpoint.proofs.heads.HeadOfResponsePart.parse.Goals as goal

pub from_spans-requires : goal.from_spans-requires
from_spans-requires c =
    response-inside c.args.bytes.now c.parse_response.new.headers c.split_at.result.0.now c.in-Ok-Complete.field-0
    c.in-Ok-Complete.head
    c.in-Ok-Complete.field-0-is c.in-Ok-Complete.ensures.within c.split_at.ensures.front

pub returns-in-Ok-Complete : goal.returns-in-Ok-Complete
returns-in-Ok-Complete c =
    response-found c.args.bytes.now c.parse_response.new.headers c.split_at.result.0.now c.in-Ok-Complete.field-0
    c.in-Ok-Complete.head
    c.from_spans.result c.in-Ok-Complete.field-0-is c.in-Ok-Complete.ensures.within c.in-Ok-Complete.ensures.complete
    c.split_at.ensures.front c.from_spans.ensures

pub returns : goal.returns
returns c =
    let room = c.as_mut_slice-headers.result.now in
    response-never c.args.bytes.now (c.in-Err.ensures.invalid (λ is. response-fits c.args.bytes.now (length room)
    (grind (arith, common_steps, c.as_mut_slice-headers.ensures.value, c.in_ok-room.ensures))
    (c.in-Err.ensures.too_many (ap Err is))))
