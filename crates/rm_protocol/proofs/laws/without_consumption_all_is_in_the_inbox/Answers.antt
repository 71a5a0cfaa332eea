use Rattle.rm_protocol.proofs.ImageLemmas.{inbox-is-all}
use Rattle.rm_protocol.proofs.laws.without_consumption_all_is_in_the_inbox.Goals as goal

pub returns : goal.returns
returns c = inbox-is-all
