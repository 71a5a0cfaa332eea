use Rattle.std.proofs.Common.{arith}
use Rattle.http_endpoint.proofs.request.invite.Goals as goal

pub returns-in_ok-write_all-clause-front : goal.returns-in_ok-write_all-clause-front
returns-in_ok-write_all-clause-front g c =
    let one = g.met.C.Connection.one in
    (25, omega arith, rw (one c.args.conn.now, one c.write_all.new.out) at c.in_ok-write_all.ensures.ok)
