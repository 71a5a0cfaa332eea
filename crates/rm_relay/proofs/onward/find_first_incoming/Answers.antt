use Rattle.std.proofs.Common.{◌∙◌, ◌+◌, ◌<◌, drop, cond, length, sym, ap, arith, Some, Bool}
use Rattle.record_batch.specs.Sequences.Find.{find_from}
use Rattle.record_batch.specs.Sequences.Fits.{is_incoming_side}
use Rattle.record_batch.specs.Sequences.Makers.{makers}
use Rattle.rm_relay.specs.Word.FirstLemmas.{find-step, tested}
use Rattle.rm_relay.proofs.onward.find_first_incoming.Goals as goal

pub returns-then-is_incoming : goal.returns-then-is_incoming
returns-then-is_incoming c =
    let ms = makers c.args.tables.now.records in
    let k = c.loop-before.before in
    let lt : k < length ms = omega (arith, c.len-before-end.ensures.count, c.loop-before-test.true) in
    sym (sym c.loop-before.invariant ∙ find-step is_incoming_side ms k lt
    ∙ ap (λ (b : Bool). cond b (Some (k + 1)) (find_from (tested is_incoming_side) (k + 1) (drop (k + 1) ms)))
    (sym c.is_incoming.ensures ∙ c.if-is_incoming.true))

pub loop-before-preserved : goal.loop-before-preserved
loop-before-preserved c =
    let ms = makers c.args.tables.now.records in
    let k = c.loop-before.before in
    let lt : k < length ms = omega (arith, c.len-before-end.ensures.count, c.loop-before-test.true) in
    sym (find-step is_incoming_side ms k lt
    ∙ ap (λ (b : Bool). cond b (Some (k + 1)) (find_from (tested is_incoming_side) (k + 1) (drop (k + 1) ms)))
    (sym c.is_incoming.ensures ∙ c.if-is_incoming.false))
    ∙ c.loop-before.invariant
