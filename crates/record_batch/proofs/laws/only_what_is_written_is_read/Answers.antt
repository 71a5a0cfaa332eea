use Rattle.record_batch.proofs.BatchLaws.{batch-only}
use Rattle.record_batch.proofs.laws.only_what_is_written_is_read.Goals as goal

pub returns-clause-text : goal.returns-clause-text
returns-clause-text c = λ bytes facts h e.
    (batch-only (record { texts = c.texts_are_tested.ensures; documents = c.document_is_read.ensures }) bytes facts
    h e).1

pub returns-clause-rules : goal.returns-clause-rules
returns-clause-rules c = λ bytes facts h e.
    (batch-only (record { texts = c.texts_are_tested.ensures; documents = c.document_is_read.ensures }) bytes facts
    h e).0
