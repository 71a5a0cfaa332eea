use Rattle.rm_disk.specs.ImageLemmas.{image_stays}
use Rattle.rm_disk.proofs.laws.an_image_stays.Goals as goal

pub returns : goal.returns
returns c = image_stays
