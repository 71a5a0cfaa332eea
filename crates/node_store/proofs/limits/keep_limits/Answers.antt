use Rattle.std.proofs.Common.{arith}
use Rattle.record_batch.specs.Fact.{fact_of}
use Rattle.record_batch.specs.Writable.{IsWritable}
use Rattle.node_store.proofs.LimitLemmas.{each-at}
use Rattle.node_store.proofs.limits.keep_limits.Goals as goal

pub keeps_limits-requires : goal.keeps_limits-requires
keeps_limits-requires c =
    each-at IsWritable fact_of c.args.batch.now c.loop-given.given-index c.given-item.result c.requires
    (omega (arith, c.loop-given-test.true)) c.given-item.is
