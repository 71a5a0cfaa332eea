use Rattle.std.proofs.Common.{◌+◌, ◌-◌, arith}
use Rattle.timers.specs.Keys.Keyed.{keys_in}
use Rattle.node_waits.specs.Keys.Filled.{own_waiting}
use Rattle.node_waits.proofs.KeysLemmas.FillLemmas.{part-none, part-more, part-few, part-all, own-next, own-none}
use Rattle.node_waits.proofs.KeysLemmas.FillLemmas.{before-sequence}
use Rattle.node_waits.proofs.keys.mounts.fill_from.Goals as goal

pub loop-number-init : goal.loop-number-init
loop-number-init c = record {
  part = part-none c.args.timers.now
      (own_waiting c.args.tables.now.records c.args.seq c.args.from (c.args.count - c.args.from));
  before = c.requires.before;
}

pub begin_waiting-requires-clause-few : goal.begin_waiting-requires-clause-few
begin_waiting-requires-clause-few c =
    let r = c.args.tables.now.records in
    let s = c.args.seq in
    let n = c.loop-number.number in
    let few = part-few c.args.timers.now c.loop-number.timers (own_waiting r s n 1)
    (own_waiting r s (n + 1) (c.args.count - (n + 1))) (own_waiting r s c.args.from (c.args.count - c.args.from))
    (own_waiting r s n (c.args.count - n)) c.loop-number.invariant.part
    (own-next r s n c.args.count c.loop-number-test.true) in
    omega (arith, few, c.requires.few)

pub loop-number-preserved : goal.loop-number-preserved
loop-number-preserved c =
    let r = c.args.tables.now.records in
    let s = c.args.seq in
    let n = c.loop-number.number in
    record {
      part = part-more c.args.timers.now c.loop-number.timers c.begin_waiting.new.timers (own_waiting r s n 1)
          (own_waiting r s (n + 1) (c.args.count - (n + 1)))
          (own_waiting r s c.args.from (c.args.count - c.args.from))
          (own_waiting r s n (c.args.count - n)) c.loop-number.invariant.part
          (own-next r s n c.args.count c.loop-number-test.true) c.begin_waiting.ensures.filled;
      before = c.begin_waiting.ensures.before;
    }

pub returns-clause-filled : goal.returns-clause-filled
returns-clause-filled c =
    let r = c.args.tables.now.records in
    let s = c.args.seq in
    let n = c.loop-number.number in
    part-all c.args.timers.now c.loop-number.timers (own_waiting r s n (c.args.count - n))
    (own_waiting r s c.args.from (c.args.count - c.args.from)) c.loop-number.invariant.part
    (own-none r s n c.args.count c.loop-number-test.false)

pub returns-clause-before : goal.returns-clause-before
returns-clause-before c =
    before-sequence (keys_in c.loop-number.timers.cells) c.args.seq c.loop-number.number c.loop-number.invariant.before
