use Rattle.rm_protocol.proofs.NewLemmas.{new-recorded}
use Rattle.rm_protocol.proofs.laws.a_new_message_is_recorded.Goals as goal

pub returns : goal.returns
returns c = new-recorded
