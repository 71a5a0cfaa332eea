use Rattle.std.proofs.Common.{◌≡◌, ◌+◌, ◌++◌, ◌<◌, List, [], drop, length, map, sym, ap, ◌∙◌, arith, append-nil}
use Rattle.std.proofs.Common.{append_assoc}
use Rattle.std.proofs.lemmas.List.{at_drop_all}
use Rattle.record_batch.specs.Fact.{Fact, fact_of}
use Rattle.record_batch.specs.Sequences.Makers.{makers}
use Rattle.rm_protocol.specs.Calls.{expired_from}
use Rattle.node_calls.proofs.TickLemmas.{expired-next, same-count}
use Rattle.node_calls.proofs.ticks.expired.Goals as goal

pub loop-before-preserved : goal.loop-before-preserved
loop-before-preserved c =
    let r = c.args.ahead.now.records in
    let k = c.loop-before.before in
    let old = map fact_of c.loop-before.batch.items in
    let rest = expired_from r c.args.now (k + 1) (drop (k + 1) (makers r)) in
    let same = same-count r c.args.ahead.now.delta c.requires in
    let lt : k < length (makers r) = omega (arith, c.len-before-end.ensures.count, same, c.loop-before-test.true) in
    ap (λ (xs : List Fact). xs ++ rest) c.in_ok-end_due.ensures
    ∙ append_assoc old _ rest
    ∙ ap (λ (ys : List Fact). old ++ ys) (sym (expired-next r c.args.now k lt))
    ∙ c.loop-before.invariant

pub returns : goal.returns
returns c =
    let r = c.args.ahead.now.records in
    let k = c.loop-before.before in
    let old = map fact_of c.loop-before.batch.items in
    let same = same-count r c.args.ahead.now.delta c.requires in
    let none : expired_from r c.args.now k (drop k (makers r)) ≡ [] =
    at_drop_all (expired_from r c.args.now k) (makers r) k (omega (arith, c.len-before-end.ensures.count, same)) in
    sym (append-nil old) ∙ ap (λ (ys : List Fact). old ++ ys) (sym none) ∙ c.loop-before.invariant
