use Rattle.std.proofs.Common.{refl}
use Rattle.uuid.specs.Text.{by_index}
use Rattle.record_batch.specs.Sequences.Idents.{issue, polled_prefix}
use Rattle.rm_protocol.specs.Addresses.{anonymous, no_address}
use Rattle.rm_protocol.proofs.laws.a_sequence_expires.Goals as goal

pub returns-clause-one : goal.returns-clause-one
unfolding issue by_index anonymous no_address polled_prefix
returns-clause-one c = refl

pub returns-clause-two : goal.returns-clause-two
unfolding issue by_index anonymous no_address polled_prefix
returns-clause-two c = refl

pub returns-clause-packets : goal.returns-clause-packets
unfolding issue by_index anonymous no_address polled_prefix
returns-clause-packets c = refl

pub returns-clause-inbox : goal.returns-clause-inbox
unfolding issue by_index anonymous no_address polled_prefix
returns-clause-inbox c = refl
