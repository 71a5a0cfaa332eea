use Rattle.rm_disk.specs.ImageLemmas.{left_at_last}
use Rattle.rm_disk.proofs.laws.now_is_the_last_moment.Goals as goal

pub returns : goal.returns
returns c = left_at_last
