use Rattle.std.proofs.Common.{◌≡◌, drop, map, None}
use Rattle.std.specs.List.{flat_map}
use Rattle.record_batch.specs.Fact.{fact_of}
use Rattle.record_batch.specs.Sequences.Words.{at_seq, first_or}
use Rattle.node_tables.specs.Kept.{accept_at}
use Rattle.node_tables.proofs.find.find_accept.Given as goal

abbrev pub invariant-loop-given : goal.invariant-loop-given
invariant-loop-given l =
    first_or None (at_seq l.seq (flat_map (accept_at (map fact_of l.kept)) (drop l.given-index l.named)))
    ≡ first_or None (at_seq l.seq (flat_map (accept_at (map fact_of l.kept)) l.named))
