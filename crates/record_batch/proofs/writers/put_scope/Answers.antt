use Rattle.std.proofs.Common.{arith}
use Rattle.record_batch.specs.Writable.{IsShortBinding}
use Rattle.record_batch.proofs.Items.{each-at}
use Rattle.record_batch.proofs.writers.put_scope.Goals as goal

pub put_binding-requires : goal.put_binding-requires
put_binding-requires c =
    each-at IsShortBinding c.args.scope.now c.loop-binding.binding-index c.binding-item.result c.requires
    (omega (arith, c.loop-binding-test.true)) c.binding-item.is
