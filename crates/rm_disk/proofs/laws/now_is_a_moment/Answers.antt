use Rattle.rm_disk.specs.ImageLemmas.{left_now}
use Rattle.rm_disk.proofs.laws.now_is_a_moment.Goals as goal

pub returns : goal.returns
returns c = left_now
