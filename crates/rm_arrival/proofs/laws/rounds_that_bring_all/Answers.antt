use Rattle.std.proofs.Common.{refl}
use Rattle.uuid.specs.Text.{by_index}
use Rattle.record_batch.specs.Sequences.Idents.{issue, polled_prefix}
use Rattle.rm_protocol.specs.Addresses.{anonymous, no_address}
use Rattle.rm_arrival.proofs.ExampleLemmas.{none-waits, two-rounds}
use Rattle.rm_arrival.proofs.laws.rounds_that_bring_all.Goals as goal

pub returns-clause-rounds : goal.returns-clause-rounds
returns-clause-rounds c = two-rounds

pub returns-clause-enough : goal.returns-clause-enough
unfolding issue by_index anonymous no_address polled_prefix
returns-clause-enough c = refl

pub returns-clause-waits : goal.returns-clause-waits
returns-clause-waits c = none-waits
