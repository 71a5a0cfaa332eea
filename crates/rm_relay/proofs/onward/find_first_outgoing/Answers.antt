use Rattle.std.proofs.Common.{◌∙◌, ◌+◌, ◌<◌, drop, cond, length, sym, ap, arith, Some, Bool}
use Rattle.record_batch.specs.Sequences.Find.{find_from}
use Rattle.record_batch.specs.Sequences.Fits.{is_outgoing_side}
use Rattle.record_batch.specs.Sequences.Makers.{makers}
use Rattle.rm_relay.specs.Word.FirstLemmas.{find-step, tested}
use Rattle.rm_relay.proofs.onward.find_first_outgoing.Goals as goal

pub returns-then-is_outgoing : goal.returns-then-is_outgoing
returns-then-is_outgoing c =
    let ms = makers c.args.tables.now.records in
    let k = c.loop-before.before in
    let lt : k < length ms = omega (arith, c.len-before-end.ensures.count, c.loop-before-test.true) in
    sym (sym c.loop-before.invariant ∙ find-step is_outgoing_side ms k lt
    ∙ ap (λ (b : Bool). cond b (Some (k + 1)) (find_from (tested is_outgoing_side) (k + 1) (drop (k + 1) ms)))
    (sym c.is_outgoing.ensures ∙ c.if-is_outgoing.true))

pub loop-before-preserved : goal.loop-before-preserved
loop-before-preserved c =
    let ms = makers c.args.tables.now.records in
    let k = c.loop-before.before in
    let lt : k < length ms = omega (arith, c.len-before-end.ensures.count, c.loop-before-test.true) in
    sym (find-step is_outgoing_side ms k lt
    ∙ ap (λ (b : Bool). cond b (Some (k + 1)) (find_from (tested is_outgoing_side) (k + 1) (drop (k + 1) ms)))
    (sym c.is_outgoing.ensures ∙ c.if-is_outgoing.false))
    ∙ c.loop-before.invariant
