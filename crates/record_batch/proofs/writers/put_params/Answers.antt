use Rattle.std.proofs.Common.{arith}
use Rattle.soap_document.specs.Profile.View.{element_view}
use Rattle.record_batch.specs.Writable.{IsShortParam}
use Rattle.record_batch.proofs.Items.{each_seen-at}
use Rattle.record_batch.proofs.writers.put_params.Goals as goal

pub put_param-requires : goal.put_param-requires
put_param-requires c =
    each_seen-at IsShortParam element_view c.args.params.now c.loop-param.param-index c.param-item.result c.requires
    (omega (arith, c.loop-param-test.true)) c.param-item.is
