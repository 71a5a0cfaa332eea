use Rattle.message_reader.proofs.Unique.{messages_same}
use Rattle.message_reader.proofs.laws.one_message.Goals as goal

pub returns : goal.returns
returns c = messages_same c.one_envelope.ensures
