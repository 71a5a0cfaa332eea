use Rattle.std.proofs.Common.{refl}
use Rattle.uuid.specs.Text.{by_index}
use Rattle.record_batch.specs.Sequences.Idents.{issue, polled_prefix}
use Rattle.rm_protocol.specs.Addresses.{anonymous, no_address}
use Rattle.rm_protocol.proofs.laws.what_is_missing_is_sent_again.Goals as goal

pub returns-clause-nack : goal.returns-clause-nack
unfolding issue by_index anonymous no_address polled_prefix
returns-clause-nack c = refl

pub returns-clause-delivered : goal.returns-clause-delivered
unfolding issue by_index anonymous no_address polled_prefix
returns-clause-delivered c = refl

pub returns-clause-ticked : goal.returns-clause-ticked
unfolding issue by_index anonymous no_address polled_prefix
returns-clause-ticked c = refl

pub returns-clause-arrived : goal.returns-clause-arrived
unfolding issue by_index anonymous no_address polled_prefix
returns-clause-arrived c = refl

pub returns-clause-two : goal.returns-clause-two
unfolding issue by_index anonymous no_address polled_prefix
returns-clause-two c = refl

pub returns-clause-inbox : goal.returns-clause-inbox
unfolding issue by_index anonymous no_address polled_prefix
returns-clause-inbox c = refl
