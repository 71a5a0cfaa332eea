use Rattle.rm_protocol.proofs.WaitingLemmas.{all-stay}
use Rattle.rm_protocol.proofs.laws.records_leave_other_keys.Goals as goal

pub returns : goal.returns
returns c r delta k fit ne w = all-stay r delta k fit ne w
