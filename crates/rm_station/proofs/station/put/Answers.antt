use Rattle.rm_base.specs.Outside.{Stream}
use Rattle.rm_host.specs.Doings.{Writes}
use Rattle.std.proofs.Common.{true}
use Rattle.rm_station.proofs.OutLemmas.{both-sides, writes}
use Rattle.rm_station.proofs.station.put.Goals as goal

pub returns : goal.returns
returns g c =
    let one = g.met.K.Connection.one in
    let did = c.write_all.ensures in
    let old = g.K.Sink.told c.args.conn.now in
    let new = g.K.Sink.told c.write_all.new.out in
    both-sides (λ (s t : Stream). Writes true s t c.args.text.now c.write_all.result) old new
    (g.K.Source.told c.args.conn.now) (g.K.Source.told c.write_all.new.out) (one c.args.conn.now)
    (one c.write_all.new.out) (writes old new c.args.text.now c.write_all.result did.ok did.err did.failed)
