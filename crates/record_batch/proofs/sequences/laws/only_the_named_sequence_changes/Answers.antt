use Rattle.record_batch.specs.Sequences.NameLemmas.{names-within}
use Rattle.record_batch.specs.Sequences.ToldLemmas.{after-elsewhere}
use Rattle.record_batch.proofs.sequences.laws.only_the_named_sequence_changes.Goals as goal

pub returns : goal.returns
returns c = record { others = after-elsewhere; there = names-within }
