use Rattle.std.proofs.Common.{Err, ap, arith, length}
use Rattle.std.proofs.lemmas.Grind.{common_steps}
use Rattle.http_endpoint.proofs.RoomLemmas.{section-fits, trailer-never, trailer-found}
use Rattle.http_endpoint.proofs.parts.TrailerPart.parse.Goals as goal

pub returns-in-Ok-Complete : goal.returns-in-Ok-Complete
returns-in-Ok-Complete c =
    trailer-found c.args.bytes.now c.parse_headers.new.headers c.in-Ok-Complete.field-0 c.in-Ok-Complete.len
    c.in-Ok-Complete.count c.in-Ok-Complete.field-0-is c.in-Ok-Complete.ensures.within c.in-Ok-Complete.ensures.complete

pub returns : goal.returns
returns c =
    let room = c.as_mut_slice.result.now in
    trailer-never c.args.bytes.now (c.in-Err.ensures.invalid (λ is. section-fits c.args.bytes.now (length room)
    (grind (arith, common_steps, c.as_mut_slice.ensures.value, c.in_ok-room.ensures))
    (c.in-Err.ensures.too_many (ap Err is))))
