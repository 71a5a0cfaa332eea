use Rattle.record_batch.specs.Sequences.RowLemmas.{told_all-more}
use Rattle.record_batch.proofs.sequences.laws.one_more_record.Goals as goal

pub returns : goal.returns
returns c = told_all-more
