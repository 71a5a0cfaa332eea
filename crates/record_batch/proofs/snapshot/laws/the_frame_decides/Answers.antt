use Rattle.record_batch.specs.Snapshot.SameLemmas.{frame-decides}
use Rattle.record_batch.proofs.snapshot.laws.the_frame_decides.Goals as goal

pub returns : goal.returns
returns c = frame-decides
