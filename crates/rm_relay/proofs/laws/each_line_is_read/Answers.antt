use Rattle.rm_relay.proofs.ReadingLemmas.{event_in-said, event_in-is}
use Rattle.rm_relay.proofs.laws.each_line_is_read.Goals as goal

pub returns-clause-said : goal.returns-clause-said
returns-clause-said c = event_in-said

pub returns-clause-read : goal.returns-clause-read
returns-clause-read c = event_in-is
