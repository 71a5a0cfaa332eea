use Rattle.std.proofs.Common.{refl}
use Rattle.uuid.specs.Text.{by_index}
use Rattle.record_batch.specs.Sequences.Idents.{issue, polled_prefix}
use Rattle.rm_protocol.specs.Addresses.{anonymous, no_address}
use Rattle.rm_protocol.proofs.laws.what_is_consumed_is_gone.Goals as goal

pub returns-clause-one : goal.returns-clause-one
unfolding issue by_index anonymous no_address polled_prefix
returns-clause-one c = refl

pub returns-clause-count : goal.returns-clause-count
unfolding issue by_index anonymous no_address polled_prefix
returns-clause-count c = refl

pub returns-clause-two : goal.returns-clause-two
unfolding issue by_index anonymous no_address polled_prefix
returns-clause-two c = refl

pub returns-clause-inbox : goal.returns-clause-inbox
unfolding issue by_index anonymous no_address polled_prefix
returns-clause-inbox c = refl

pub returns-clause-refused : goal.returns-clause-refused
unfolding issue by_index anonymous no_address polled_prefix
returns-clause-refused c = refl

pub returns-clause-again : goal.returns-clause-again
unfolding issue by_index anonymous no_address polled_prefix
returns-clause-again c = refl

pub returns-clause-next : goal.returns-clause-next
unfolding issue by_index anonymous no_address polled_prefix
returns-clause-next c = refl

pub returns-clause-consumed : goal.returns-clause-consumed
unfolding issue by_index anonymous no_address polled_prefix
returns-clause-consumed c = refl
