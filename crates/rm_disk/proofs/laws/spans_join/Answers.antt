use Rattle.rm_disk.specs.ImageLemmas.{left_in_two}
use Rattle.rm_disk.proofs.laws.spans_join.Goals as goal

pub returns : goal.returns
returns c = left_in_two
