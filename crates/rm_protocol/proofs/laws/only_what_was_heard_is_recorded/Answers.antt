use Rattle.rm_protocol.proofs.HeardLemmas.{rows-heard}
use Rattle.rm_protocol.proofs.laws.only_what_was_heard_is_recorded.Goals as goal

pub returns : goal.returns
returns c terms r now y m = rows-heard terms now y m r
