use Rattle.rm_wire.proofs.Soap11Lemmas.Lifted.{other_spells}
use Rattle.rm_wire.proofs.soap11.laws.a_lifted_message_is_read.Goals as goal

pub returns : goal.returns
returns c =
    other_spells c.what_is_read_may_be_written.ensures c.what_was_read_keeps_the_rules.ensures
    c.what_is_written_is_read.ensures.twelve
