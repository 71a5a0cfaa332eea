use Rattle.rm_disk.specs.ImageLemmas.{crash_leaves_image}
use Rattle.rm_disk.proofs.laws.a_crash_leaves_an_image.Goals as goal

pub returns : goal.returns
returns c = crash_leaves_image
