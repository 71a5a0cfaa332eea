use Rattle.std.proofs.Common.{refl}
use Rattle.uuid.specs.Text.{by_index}
use Rattle.record_batch.specs.Sequences.Idents.{issue, polled_prefix}
use Rattle.rm_protocol.specs.Addresses.{anonymous, no_address}
use Rattle.rm_protocol.proofs.laws.a_crash_is_made_good.Goals as goal

pub returns-clause-lost : goal.returns-clause-lost
unfolding issue by_index anonymous no_address polled_prefix
returns-clause-lost c = refl

pub returns-clause-kept : goal.returns-clause-kept
unfolding issue by_index anonymous no_address polled_prefix
returns-clause-kept c = refl

pub returns-clause-packets : goal.returns-clause-packets
unfolding issue by_index anonymous no_address polled_prefix
returns-clause-packets c = refl

pub returns-clause-inbox : goal.returns-clause-inbox
unfolding issue by_index anonymous no_address polled_prefix
returns-clause-inbox c = refl
