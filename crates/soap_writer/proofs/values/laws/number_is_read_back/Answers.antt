use Rattle.soap_writer.specs.Values.NumberLaws.{number_back}
use Rattle.soap_writer.proofs.values.laws.number_is_read_back.Goals as goal

pub returns : goal.returns
returns c = number_back
