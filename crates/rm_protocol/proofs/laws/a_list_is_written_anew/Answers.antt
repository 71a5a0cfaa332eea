use Rattle.std.proofs.Common.{refl}
use Rattle.uuid.specs.Text.{by_index}
use Rattle.record_batch.specs.Sequences.Idents.{issue, polled_prefix}
use Rattle.rm_protocol.specs.Addresses.{anonymous, no_address}
use Rattle.rm_protocol.proofs.laws.a_list_is_written_anew.Goals as goal

pub returns-clause-stood : goal.returns-clause-stood
unfolding issue by_index anonymous no_address polled_prefix
returns-clause-stood c = refl

pub returns-clause-fresh : goal.returns-clause-fresh
unfolding issue by_index anonymous no_address polled_prefix
returns-clause-fresh c = refl

pub returns-clause-inbox : goal.returns-clause-inbox
unfolding issue by_index anonymous no_address polled_prefix
returns-clause-inbox c = refl

pub returns-clause-behind : goal.returns-clause-behind
unfolding issue by_index anonymous no_address polled_prefix
returns-clause-behind c = refl

pub returns-clause-before : goal.returns-clause-before
unfolding issue by_index anonymous no_address polled_prefix
returns-clause-before c = refl
