use Rattle.std.proofs.Common.{[], ◌∷◌}
use Rattle.http_endpoint.specs.Link.Lines.{Asks, Dialled, line_of}
use Rattle.http_endpoint.proofs.LinkLemmas.PacketLemmas.{begun-on, called, posted-on}
use Rattle.http_endpoint.proofs.link.packet.post_to.Goals as goal

pub returns-in-Ok : goal.returns-in-Ok
returns-in-Ok g c =
    let old = g.L.Link.told c.args.link.now in
    let mid = g.L.Link.told c.dial.new.self in
    let new = g.L.Link.told c.hang_up.new.self in
    let target = c.args.target.now in
    let bytes = c.args.bytes.now in
    let line = line_of (g.L.Asking.Sink.told c.in-Ok.conn) in
    let held = (g.L.Hearing.Source.told c.exchange-conn.result.0).held in
    let fate = c.exchange-conn.result.1 in
    let asks : Asks old.past mid.past (Dialled target.host target.port ∷ []) =
    rw (← c.as_slice.ensures) c.in-Ok.ensures.asks in
    let calls = called old mid new target line held c.in-Ok.ensures.connects asks c.hang_up.ensures in
    record {
      posts = posted-on c.args.media old new target bytes line held fate calls c.exchange-conn.ensures.writes
          c.exchange-conn.ensures.ends;
      begins = begun-on c.args.media old new target bytes line held fate calls c.exchange-conn.ensures.begins;
    }
