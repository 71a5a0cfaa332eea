use Rattle.std.proofs.Common.{◌∙◌}
use Rattle.receive_replies.proofs.GivenLemmas.{list_any-has_number}
use Rattle.receive_replies.proofs.acks.is_given.Goals as goal

pub returns : goal.returns
returns c = c.contains.ensures.value ∙ list_any-has_number c.args.seq c.args.given.now
