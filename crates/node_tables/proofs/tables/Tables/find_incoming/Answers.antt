use Rattle.std.proofs.Common.{◌∙◌, ◌+◌, ◌<◌, drop, cond, length, sym, ap, arith, Some, Bool}
use Rattle.record_batch.specs.Sequences.Find.{find_from, is_incoming}
use Rattle.record_batch.specs.Sequences.Makers.{makers, number}
use Rattle.node_tables.proofs.MakerLemmas.{find-step}
use Rattle.node_tables.proofs.tables.Tables.find_incoming.Goals as goal

pub returns-then-is_incoming : goal.returns-then-is_incoming
returns-then-is_incoming c =
    let f = is_incoming (number c.args.self.now.records) c.args.ident.now in
    let ms = makers c.args.self.now.records in
    let k = c.loop-before.before in
    let lt : k < length ms = omega (arith, c.len-before-end.ensures.count, c.loop-before-test.true) in
    let issued = rw (c.number.ensures.value, c.as_slice.ensures.bytes) at c.issued_counter-drawn.ensures in
    sym (sym c.loop-before.invariant ∙ find-step f ms k lt
    ∙ ap (λ (b : Bool). cond b (Some (k + 1)) (find_from f (k + 1) (drop (k + 1) ms)))
    (sym (c.is_incoming.ensures c.args.ident.now issued) ∙ c.if-is_incoming.true))

pub loop-before-preserved : goal.loop-before-preserved
loop-before-preserved c =
    let f = is_incoming (number c.args.self.now.records) c.args.ident.now in
    let ms = makers c.args.self.now.records in
    let k = c.loop-before.before in
    let lt : k < length ms = omega (arith, c.len-before-end.ensures.count, c.loop-before-test.true) in
    let issued = rw (c.number.ensures.value, c.as_slice.ensures.bytes) at c.issued_counter-drawn.ensures in
    sym (find-step f ms k lt
    ∙ ap (λ (b : Bool). cond b (Some (k + 1)) (find_from f (k + 1) (drop (k + 1) ms)))
    (sym (c.is_incoming.ensures c.args.ident.now issued) ∙ c.if-is_incoming.false))
    ∙ c.loop-before.invariant
