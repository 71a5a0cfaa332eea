use Rattle.rm_disk.specs.ImageLemmas.{synced_only}
use Rattle.rm_disk.proofs.laws.a_sync_keeps_all.Goals as goal

pub returns : goal.returns
returns c = synced_only
