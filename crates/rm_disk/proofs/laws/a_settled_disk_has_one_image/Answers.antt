use Rattle.rm_disk.specs.ImageLemmas.{settled_only}
use Rattle.rm_disk.proofs.laws.a_settled_disk_has_one_image.Goals as goal

pub returns : goal.returns
returns c = settled_only
