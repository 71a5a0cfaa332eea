use Rattle.std.proofs.Common.{refl}
use Rattle.uuid.specs.Text.{by_index}
use Rattle.record_batch.specs.Sequences.Idents.{issue, polled_prefix}
use Rattle.rm_protocol.specs.Addresses.{anonymous, no_address}
use Rattle.rm_protocol.proofs.laws.what_is_consumed.Goals as goal

pub returns-clause-two : goal.returns-clause-two
unfolding issue by_index anonymous no_address polled_prefix
returns-clause-two c = refl

pub returns-clause-cursor : goal.returns-clause-cursor
unfolding issue by_index anonymous no_address polled_prefix
returns-clause-cursor c = refl

pub returns-clause-inbox : goal.returns-clause-inbox
unfolding issue by_index anonymous no_address polled_prefix
returns-clause-inbox c = refl
