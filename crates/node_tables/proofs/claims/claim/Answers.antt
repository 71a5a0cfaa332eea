use Rattle.std.proofs.Common.{◌≡◌, ◌+◌, ◌-◌, ◌<◌, ◌≤◌, length, arith}
use Rattle.record_batch.specs.Fact.{fact_of}
use Rattle.record_batch.specs.Sequences.Told.{names}
use Rattle.node_tables.specs.declared.note.Coming.{Coming}
use Rattle.node_tables.proofs.AheadLemmas.{begun-set, starts-set}
use Rattle.node_tables.proofs.RoomLemmas.{claimed-back, claimed-front, told-same}
use Rattle.node_tables.proofs.claims.claim.Goals as goal

pub returns-in_err-claim-clause-told : goal.returns-in_err-claim-clause-told
returns-in_err-claim-clause-told c =
    told-same c.args.rows.now.items _ c.index_mut.result.now c.claim.new.self c.index_mut.ensures.value
    c.claim.ensures.told

pub returns-then-place-len-clause-told : goal.returns-then-place-len-clause-told
returns-then-place-len-clause-told c =
    told-same c.args.rows.now.items _ c.index_mut.result.now c.claim.new.self c.index_mut.ensures.value
    c.claim.ensures.told

pub returns-then-place-len-clause-claimed : goal.returns-then-place-len-clause-claimed
returns-then-place-len-clause-claimed c =
    let rows = c.args.rows.now.items in
    let f = fact_of c.args.given.now in
    let k = c.named_by-seq.result - 1 in
    let lt : k < length rows = omega (arith, c.if-place-len.true, c.len-len.ensures) in
    let at : names f ≡ k + 1 = omega (arith, c.named_by-seq.ensures, c.if-seq-eq0.false) in
    claimed-front rows c.args.ahead.now.items k c.index_mut.result.now c.claim.new.self f lt
    c.index_mut.ensures.value at c.claim.ensures.told c.in_ok-claim.ensures.ok

pub returns-in_err-claim-2-clause-starts : goal.returns-in_err-claim-2-clause-starts
returns-in_err-claim-2-clause-starts c =
    starts-set c.args.ahead.now.items _ c.index_mut-then-place-len-2.result.now c.claim-then-place-len-2.new.self
    c.index_mut-then-place-len-2.ensures.value

pub returns-in_err-claim-2-clause-begun : goal.returns-in_err-claim-2-clause-begun
returns-in_err-claim-2-clause-begun c =
    begun-set c.args.ahead.now.items _ c.index_mut-then-place-len-2.result.now c.claim-then-place-len-2.new.self
    c.requires c.index_mut-then-place-len-2.ensures.value c.claim-then-place-len-2.ensures.told

pub returns-in_ok-claim-2-clause-starts : goal.returns-in_ok-claim-2-clause-starts
returns-in_ok-claim-2-clause-starts c =
    starts-set c.args.ahead.now.items _ c.index_mut-then-place-len-2.result.now c.claim-then-place-len-2.new.self
    c.index_mut-then-place-len-2.ensures.value

pub returns-in_ok-claim-2-clause-begun : goal.returns-in_ok-claim-2-clause-begun
returns-in_ok-claim-2-clause-begun c =
    begun-set c.args.ahead.now.items _ c.index_mut-then-place-len-2.result.now c.claim-then-place-len-2.new.self
    c.requires c.index_mut-then-place-len-2.ensures.value c.claim-then-place-len-2.ensures.told

pub returns-in_ok-claim-2-clause-claimed : goal.returns-in_ok-claim-2-clause-claimed
returns-in_ok-claim-2-clause-claimed c =
    let rows = c.args.rows.now.items in
    let ahead = c.args.ahead.now.items in
    let f = fact_of c.args.given.now in
    let k = c.named_by-seq.result - 1 in
    let n = c.len-len.result in
    let a = c.index_mut-then-place-len-2.result.now in
    let b : Coming = record { start = a.start; row = c.claim-then-place-len-2.new.self } in
    let count : n ≡ length rows = omega (arith, c.len-len.ensures) in
    let from : n ≤ k = omega (arith, c.if-place-len.false) in
    let lt : k - n < length ahead = omega (arith, c.if-place-len-2.true, c.len.ensures) in
    let at : names f ≡ k + 1 = omega (arith, c.named_by-seq.ensures, c.if-seq-eq0.false) in
    claimed-back rows ahead k n a b f count from lt c.index_mut-then-place-len-2.ensures.value at
    c.claim-then-place-len-2.ensures.told c.in_ok-claim-2.ensures.ok
