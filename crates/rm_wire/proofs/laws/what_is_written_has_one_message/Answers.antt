use Rattle.soap_envelope.specs.Soap.{soap_space}
use Rattle.rm_wire.proofs.laws.what_is_written_has_one_message.Goals as goal

pub returns-clause-one : goal.returns-clause-one
returns-clause-one c = λ m other rules fits spells.
    c.one_message.ensures soap_space _ other m spells (c.what_is_written_is_read.ensures.twelve m rules fits)

pub returns-clause-taken : goal.returns-clause-taken
returns-clause-taken c = λ m refusal rules fits.
    c.a_message_is_not_refused.ensures soap_space _ m refusal (c.what_is_written_is_read.ensures.twelve m rules fits)
