use Rattle.soap_writer.proofs.Back.{element_back}
use Rattle.soap_writer.proofs.laws.element_is_read_back.Goals as goal

pub returns : goal.returns
returns c = element_back (record { text = c.text_is_read_back.ensures; value = c.value_is_read_back.ensures })
