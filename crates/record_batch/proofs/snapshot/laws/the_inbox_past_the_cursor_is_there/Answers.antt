use Rattle.record_batch.specs.Snapshot.PastLemmas.{inbox-past-is-there}
use Rattle.record_batch.proofs.snapshot.laws.the_inbox_past_the_cursor_is_there.Goals as goal

pub returns : goal.returns
returns c = inbox-past-is-there
