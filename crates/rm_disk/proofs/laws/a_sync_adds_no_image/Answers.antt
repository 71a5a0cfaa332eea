use Rattle.rm_disk.specs.ImageLemmas.{synced_fewer}
use Rattle.rm_disk.proofs.laws.a_sync_adds_no_image.Goals as goal

pub returns : goal.returns
returns c = synced_fewer
