use Rattle.message_reader.proofs.Unique.{refusals_same}
use Rattle.message_reader.proofs.laws.one_refusal.Goals as goal

pub returns : goal.returns
returns c =
    refusals_same c.one_answer.ensures.version c.one_answer.ensures.outline c.one_answer.ensures.refusals
    c.one_envelope.ensures
