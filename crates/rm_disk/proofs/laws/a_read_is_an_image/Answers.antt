use Rattle.rm_disk.specs.ImageLemmas.{reads_as_image}
use Rattle.rm_disk.proofs.laws.a_read_is_an_image.Goals as goal

pub returns : goal.returns
returns c = reads_as_image
