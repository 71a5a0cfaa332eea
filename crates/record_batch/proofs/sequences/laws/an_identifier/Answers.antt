use Rattle.std.proofs.Common.{refl}
use Rattle.uuid.specs.Text.{by_index}
use Rattle.record_batch.specs.Sequences.Idents.{issue}
use Rattle.record_batch.proofs.sequences.laws.an_identifier.Goals as goal

pub returns : goal.returns
unfolding issue by_index
returns c = refl
