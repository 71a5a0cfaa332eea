use Rattle.soap_writer.proofs.Back.{tree_same, marked_same}
use Rattle.soap_writer.proofs.laws.written_tree_is_the_tree.Goals as goal

pub returns : goal.returns
returns c = record { plain = tree_same; marked = marked_same }
