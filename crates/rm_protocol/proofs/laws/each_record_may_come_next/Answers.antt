use Rattle.rm_protocol.proofs.FitCalls.{adds-next}
use Rattle.rm_protocol.proofs.laws.each_record_may_come_next.Goals as goal

pub returns : goal.returns
returns c = adds-next
