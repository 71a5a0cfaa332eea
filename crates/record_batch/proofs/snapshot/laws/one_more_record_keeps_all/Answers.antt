use Rattle.record_batch.specs.Snapshot.KeepLemmas.{kept-by-one-more}
use Rattle.record_batch.proofs.snapshot.laws.one_more_record_keeps_all.Goals as goal

pub returns : goal.returns
returns c = kept-by-one-more
