use Rattle.std.proofs.Common.{◌∙◌, ◌+◌, ◌++◌, ◌<◌, drop, cond, length, map, sym, ap, arith, Some, Bool}
use Rattle.record_batch.specs.Fact.{fact_of}
use Rattle.record_batch.specs.Sequences.Find.{find_from, is_granted}
use Rattle.record_batch.specs.Sequences.Makers.{makers}
use Rattle.tables_ahead.proofs.FoundLemmas.{found, makers-behind}
use Rattle.tables_ahead.proofs.known.Known.grant_ahead.Goals as goal
use Rattle.tables_ahead.specs.Known.{all_records, find_ahead, KnownRecords}

pub loop-before-init : goal.loop-before-init
loop-before-init c =
    let r = c.self.inside.tables.now.records in
    let d = map fact_of c.self.inside.batch.items in
    let n = length (makers r) in
    let f = is_granted c.args.message_id.now in
    ap (λ i. find_from f i (drop i (makers (all_records c.args.self.now)))) c.len-known.ensures.count
    ∙ ap (λ (k : KnownRecords). find_from f n (drop n (makers (all_records k)))) (sym c.self.view_is)
    ∙ ap (find_from f n) (makers-behind r d)
    ∙ ap (λ (k : KnownRecords). find_ahead f k) c.self.view_is

pub returns-then-is_granted : goal.returns-then-is_granted
returns-then-is_granted c =
    let r = all_records c.args.self.now in
    let f = is_granted c.args.message_id.now in
    let k = c.loop-before.before in
    let lt : k < length (makers r) = omega (arith, c.len-before-end.ensures.count, c.loop-before-test.true) in
    sym (sym c.loop-before.invariant ∙ found f (makers r) k lt
    ∙ ap (λ (b : Bool). cond b (Some (k + 1)) (find_from f (k + 1) (drop (k + 1) (makers r))))
    (sym c.is_granted.ensures ∙ c.if-is_granted.true))

pub loop-before-preserved : goal.loop-before-preserved
loop-before-preserved c =
    let r = all_records c.args.self.now in
    let f = is_granted c.args.message_id.now in
    let k = c.loop-before.before in
    let lt : k < length (makers r) = omega (arith, c.len-before-end.ensures.count, c.loop-before-test.true) in
    sym (found f (makers r) k lt
    ∙ ap (λ (b : Bool). cond b (Some (k + 1)) (find_from f (k + 1) (drop (k + 1) (makers r))))
    (sym c.is_granted.ensures ∙ c.if-is_granted.false))
    ∙ c.loop-before.invariant
