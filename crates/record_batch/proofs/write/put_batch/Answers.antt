use Rattle.std.proofs.Common.{arith}
use Rattle.record_batch.specs.Fact.{fact_of}
use Rattle.record_batch.specs.Writable.{IsShortFact}
use Rattle.record_batch.proofs.Items.{each_seen-at}
use Rattle.record_batch.proofs.write.put_batch.Goals as goal

pub put_record-requires : goal.put_record-requires
put_record-requires c =
    each_seen-at IsShortFact fact_of c.args.batch.now c.loop-given.given-index c.given-item.result c.requires.each
    (omega (arith, c.loop-given-test.true)) c.given-item.is
