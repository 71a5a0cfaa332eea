use Rattle.soap_writer.proofs.Raws.{attributes_from}
use Rattle.soap_writer.proofs.laws.attributes_are_read_back.Goals as goal

pub returns : goal.returns
returns c = attributes_from (record { text = c.text_is_read_back.ensures; value = c.value_is_read_back.ensures })
