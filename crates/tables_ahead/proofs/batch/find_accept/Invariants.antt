use Rattle.std.proofs.Common.{◌≡◌, drop, map}
use Rattle.std.specs.List.{flat_map}
use Rattle.record_batch.specs.Fact.{fact_of}
use Rattle.record_batch.specs.Sequences.Find.{accept_of}
use Rattle.record_batch.specs.Sequences.Words.{at_seq}
use Rattle.tables_ahead.proofs.batch.find_accept.Given as goal

abbrev pub invariant-loop-given : goal.invariant-loop-given
invariant-loop-given l =
    at_seq l.seq (flat_map accept_of (map fact_of (drop l.given-index l.batch)))
    ≡ at_seq l.seq (flat_map accept_of (map fact_of l.batch))
