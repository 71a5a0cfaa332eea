use Rattle.std.proofs.Common.{◌≡◌, ◌∙◌, ap, true, nat_lt}
use Rattle.std.specs.Io.KnownBytes.{Appends}
use Rattle.std.proofs.lemmas.Bool.{and_parts}
use Rattle.http_endpoint.specs.Texts.{request_text_as}
use Rattle.rm_base.specs.Outside.{Stream}
use Rattle.http_endpoint.specs.Link.Lines.{Line, line_of}
use Rattle.http_endpoint.proofs.LinkLemmas.PacketLemmas.{all-front, any-err, ended, written}
use Rattle.http_endpoint.proofs.link.packet.exchange.Goals as goal

pub returns-in-Ok : goal.returns-in-Ok
returns-in-Ok g c =
    let old = g.L.Asking.Sink.told c.args.conn in
    let mid = g.L.Hearing.Source.told c.asked-conn.result in
    let new = g.L.Hearing.Source.told c.read_response.new.from in
    let line : Line = line_of old in
    let turned = c.asked-conn.ensures in
    let wrote = c.write_request_as-wrote.ensures.keeps in
    let read = c.read_response.ensures.keeps in
    let same : mid.left ≡ old.left = ap (λ (s : Stream). s.left) turned ∙ wrote.left in
    let sound : line.sound ≡ true → (nat_lt mid.faults 18446744073709551615 ≡ true) × (new.faults ≡ mid.faults)
    = λ is.
    let parts = and_parts _ _ is in
    let lasting = wrote.lasts.sound parts.0 in
    let faults : mid.faults ≡ old.faults = ap (λ (s : Stream). s.faults) turned ∙ lasting.1 in
    let still : mid.sound ≡ true = ap (λ (s : Stream). s.sound) turned ∙ lasting.0 in
    (rw faults parts.1, (read.lasts.sound still).1) in
    let request = request_text_as c.args.media c.args.target.now c.args.bytes.now in
    let whole : Appends old.held new.held request =
    rw read.held (rw (ap (λ (s : Stream). s.held) turned) c.in-Ok.ensures.ok) in
    record {
      ends = rw c.ended-fate.ensures (ended line mid.left mid.faults new.faults c.read_response.result same
          c.read_response.ensures.answer read.failed read.reads sound);
      writes = rw c.ended-fate.ensures (written line request new.held c.read_response.result whole);
      begins = any-err c.ended-fate.result (all-front old.held new.held request whole);
    }
