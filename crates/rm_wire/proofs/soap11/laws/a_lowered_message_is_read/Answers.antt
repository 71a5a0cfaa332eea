use Rattle.rm_wire.proofs.Soap11Lemmas.Lowered.{lowered_is_read}
use Rattle.rm_wire.proofs.soap11.laws.a_lowered_message_is_read.Goals as goal

pub returns : goal.returns
returns c = lowered_is_read c.what_is_lowered_is_read.ensures
