use Rattle.std.proofs.Common.{◌∙◌, ◌+◌, ◌++◌, ◌<◌, drop, cond, length, sym, ap, arith, Some, Bool}
use Rattle.record_batch.specs.Sequences.Find.{find_from, is_creating}
use Rattle.record_batch.specs.Sequences.Makers.{makers}
use Rattle.tables_ahead.proofs.FoundLemmas.{found}
use Rattle.tables_ahead.proofs.known.Known.find_creating.Goals as goal
use Rattle.tables_ahead.specs.Known.{all_records}

pub returns-then-is_creating : goal.returns-then-is_creating
returns-then-is_creating c =
    let r = all_records c.args.self.now in
    let f = is_creating r c.args.message_id.now in
    let k = c.loop-before.before in
    let lt : k < length (makers r) = omega (arith, c.len-before-end.ensures.count, c.loop-before-test.true) in
    let issued = rw (c.number.ensures.value, c.as_slice.ensures.bytes) at c.issued_counter-drawn.ensures in
    sym (sym c.loop-before.invariant ∙ found f (makers r) k lt
    ∙ ap (λ (b : Bool). cond b (Some (k + 1)) (find_from f (k + 1) (drop (k + 1) (makers r))))
    (sym (c.is_creating.ensures c.args.message_id.now issued) ∙ c.if-is_creating.true))

pub loop-before-preserved : goal.loop-before-preserved
loop-before-preserved c =
    let r = all_records c.args.self.now in
    let f = is_creating r c.args.message_id.now in
    let k = c.loop-before.before in
    let lt : k < length (makers r) = omega (arith, c.len-before-end.ensures.count, c.loop-before-test.true) in
    let issued = rw (c.number.ensures.value, c.as_slice.ensures.bytes) at c.issued_counter-drawn.ensures in
    sym (found f (makers r) k lt
    ∙ ap (λ (b : Bool). cond b (Some (k + 1)) (find_from f (k + 1) (drop (k + 1) (makers r))))
    (sym (c.is_creating.ensures c.args.message_id.now issued) ∙ c.if-is_creating.false))
    ∙ c.loop-before.invariant
