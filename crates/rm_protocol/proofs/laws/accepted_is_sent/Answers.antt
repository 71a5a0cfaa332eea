use Rattle.rm_protocol.proofs.SentLemmas.{sent-is}
use Rattle.rm_protocol.proofs.laws.accepted_is_sent.Goals as goal

pub returns : goal.returns
returns c = sent-is
