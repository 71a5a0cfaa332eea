use Rattle.soap_writer.specs.Values.TextLaws.{text_back}
use Rattle.soap_writer.proofs.values.laws.text_is_read_back.Goals as goal

pub returns : goal.returns
returns c = text_back
