use Rattle.std.proofs.Common.{◌≡◌, ◌∙◌, length, ap, arith}
use Rattle.rm_base.specs.Wire.Wire.{with_packet}
use Rattle.rm_base.proofs.WireLemmas.MemLemmas.{put-stored, put-packets}
use Rattle.rm_base.proofs.wire.mem.MemWireWire.put.Goals as goal

pub invariant_of-self-2 : goal.invariant_of-self-2
invariant_of-self-2 c =
    let old = c.self.inside in
    let at : c.len-start.result ≡ length old.bytes.items = omega (arith, c.len-start.ensures, old.bytes.ok.0) in
    put-stored old.bytes.items c.args.bytes.now _ old.places.items _ c.args.to c.len-start.result c.self.invariant
    (rw c.self.view_is c.if-not-has_room.ensures) at c.in_ok-extend_from_slice.ensures.items
    (rw (← c.in_ok-reserve.ensures.items) (rw c.unwrap.ensures at c.push.ensures.items))

pub returns-clause-ok : goal.returns-clause-ok
returns-clause-ok c =
    let old = c.self.inside in
    let at : c.len-start.result ≡ length old.bytes.items = omega (arith, c.len-start.ensures, old.bytes.ok.0) in
    put-packets old.bytes.items c.args.bytes.now _ old.places.items _ c.args.to c.len-start.result c.self.invariant
    (rw c.self.view_is c.if-not-has_room.ensures) at c.in_ok-extend_from_slice.ensures.items
    (rw (← c.in_ok-reserve.ensures.items) (rw c.unwrap.ensures at c.push.ensures.items))
    ∙ ap (λ packets. with_packet packets c.args.to c.args.bytes.now) c.self.view_is
