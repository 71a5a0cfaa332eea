use Rattle.soap_writer.proofs.Back.{elements_back}
use Rattle.soap_writer.proofs.laws.elements_are_read_back.Goals as goal

pub returns : goal.returns
returns c = elements_back (record { text = c.text_is_read_back.ensures; value = c.value_is_read_back.ensures })
