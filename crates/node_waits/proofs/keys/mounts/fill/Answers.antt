use Rattle.std.proofs.Common.{◌≡◌, ◌+◌, ◌≤◌, ◌<◌, ℕ, List, length, ap, subst, arith, filter, drop}
use Rattle.timers.specs.declared.keys.cells.Cell.{Cell}
use Rattle.timers.specs.Keys.Keyed.{keys_in}
use Rattle.record_batch.specs.Sequences.Makers.{maker, makers}
use Rattle.rm_protocol.specs.Waiting.{key, is_waiting, keys_from, waiting_keys}
use Rattle.node_waits.specs.Keys.Filled.{Filled, own_waiting}
use Rattle.node_waits.specs.Keys.Settled.{count_of}
use Rattle.node_waits.proofs.KeysLemmas.FillLemmas.{part-none, part-more, part-few, part-all, before-none}
use Rattle.node_waits.proofs.KeysLemmas.FillLemmas.{sequences-next}
use Rattle.node_waits.proofs.KeysLemmas.FillLemmas.{sequences-end}
use Rattle.node_waits.proofs.keys.mounts.fill.Goals as goal

pub loop-before-init : goal.loop-before-init
loop-before-init c = record {
  part = part-none c.args.timers.now (waiting_keys c.args.tables.now.records);
  before = before-none (keys_in c.args.timers.now.cells) (key 1 0) (ap keys_in c.requires.empty);
}

pub fill_one-requires-clause-few : goal.fill_one-requires-clause-few
fill_one-requires-clause-few c =
    let r = c.args.tables.now.records in
    let k = c.loop-before.before in
    let lt : k < length (makers r) = omega (arith, c.loop-before-test.true, c.len-before-end.ensures.count) in
    let few = part-few c.args.timers.now c.loop-before.timers
    (own_waiting r (k + 1) 0 (count_of r (k + 1) (maker r (k + 1))))
    (filter (is_waiting r) (keys_from r (k + 1) (drop (k + 1) (makers r)))) (waiting_keys r)
    (filter (is_waiting r) (keys_from r k (drop k (makers r)))) c.loop-before.invariant.part (sequences-next r k lt) in
    let none : length (keys_in c.args.timers.now.cells) ≡ 0 =
    ap (λ (v : List Cell). length (keys_in v)) c.requires.empty in
    let same : length (own_waiting r (k + 1) 0 c.count_of.result)
    ≡ length (own_waiting r (k + 1) 0 (count_of r (k + 1) (maker r (k + 1)))) =
    ap (λ (n : ℕ). length (own_waiting r (k + 1) 0 n)) c.count_of.ensures.is in
    omega (arith, few, none, same, c.requires.few)

pub loop-before-preserved : goal.loop-before-preserved
loop-before-preserved c =
    let r = c.args.tables.now.records in
    let k = c.loop-before.before in
    let lt : k < length (makers r) = omega (arith, c.loop-before-test.true, c.len-before-end.ensures.count) in
    record {
      part = part-more c.args.timers.now c.loop-before.timers c.fill_one.new.timers
          (own_waiting r (k + 1) 0 (count_of r (k + 1) (maker r (k + 1))))
          (filter (is_waiting r) (keys_from r (k + 1) (drop (k + 1) (makers r)))) (waiting_keys r)
          (filter (is_waiting r) (keys_from r k (drop k (makers r)))) c.loop-before.invariant.part
          (sequences-next r k lt)
          (subst (λ (n : ℕ). Filled c.loop-before.timers c.fill_one.new.timers (own_waiting r (k + 1) 0 n))
          c.count_of.ensures.is c.fill_one.ensures.filled);
      before = c.fill_one.ensures.before;
    }

pub returns : goal.returns
returns c =
    let r = c.args.tables.now.records in
    let k = c.loop-before.before in
    let le : length (makers r) ≤ k = omega (arith, c.loop-before-test.false, c.len-before-end.ensures.count) in
    record {
      filled = part-all c.args.timers.now c.loop-before.timers
          (filter (is_waiting r) (keys_from r k (drop k (makers r)))) (waiting_keys r) c.loop-before.invariant.part
          (sequences-end r k le);
    }
