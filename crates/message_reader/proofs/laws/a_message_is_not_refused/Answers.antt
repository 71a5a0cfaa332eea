use Rattle.message_reader.proofs.Unique.{not_both}
use Rattle.message_reader.proofs.laws.a_message_is_not_refused.Goals as goal

pub returns : goal.returns
returns c =
    not_both c.one_answer.ensures.version c.one_answer.ensures.outline c.document_is_utf8.ensures c.one_envelope.ensures
