use Rattle.std.proofs.Common.{refl}
use Rattle.uuid.specs.Text.{by_index}
use Rattle.record_batch.specs.Sequences.Idents.{issue, polled_prefix}
use Rattle.rm_protocol.specs.Addresses.{anonymous, no_address}
use Rattle.rm_arrival.proofs.ExampleLemmas.{fair-round}
use Rattle.rm_arrival.proofs.laws.a_round_that_is_fair.Goals as goal

pub returns-clause-fair : goal.returns-clause-fair
returns-clause-fair c = fair-round

pub returns-clause-acked : goal.returns-clause-acked
unfolding issue by_index anonymous no_address polled_prefix
returns-clause-acked c = refl
