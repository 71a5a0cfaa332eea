use Rattle.std.proofs.Common.{refl}
use Rattle.uuid.specs.Text.{by_index}
use Rattle.record_batch.specs.Sequences.Idents.{issue, polled_prefix}
use Rattle.rm_protocol.specs.Addresses.{anonymous, no_address}
use Rattle.rm_protocol.proofs.laws.a_message_is_sent_again.Goals as goal

pub returns-clause-at_first : goal.returns-clause-at_first
unfolding issue by_index anonymous no_address polled_prefix
returns-clause-at_first c = refl

pub returns-clause-before : goal.returns-clause-before
unfolding issue by_index anonymous no_address polled_prefix
returns-clause-before c = refl

pub returns-clause-then : goal.returns-clause-then
unfolding issue by_index anonymous no_address polled_prefix
returns-clause-then c = refl

pub returns-clause-still : goal.returns-clause-still
unfolding issue by_index anonymous no_address polled_prefix
returns-clause-still c = refl

pub returns-clause-again : goal.returns-clause-again
unfolding issue by_index anonymous no_address polled_prefix
returns-clause-again c = refl
