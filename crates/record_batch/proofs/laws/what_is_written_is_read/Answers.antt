use Rattle.record_batch.proofs.BatchLaws.{batch-again, short-batch}
use Rattle.record_batch.proofs.laws.what_is_written_is_read.Goals as goal

pub returns-clause-read : goal.returns-clause-read
returns-clause-read c =
    batch-again (record { texts = c.texts_are_tested.ensures; documents = c.document_is_read.ensures })

pub returns-clause-short : goal.returns-clause-short
returns-clause-short c = short-batch
