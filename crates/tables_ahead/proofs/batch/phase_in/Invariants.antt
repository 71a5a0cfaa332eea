use Rattle.std.proofs.Common.{◌≡◌, drop, map}
use Rattle.record_batch.specs.Fact.{fact_of}
use Rattle.record_batch.specs.Sequences.Sources.{marks}
use Rattle.record_batch.specs.Sequences.Words.{last_or}
use Rattle.tables_ahead.proofs.batch.phase_in.Given as goal

abbrev pub invariant-loop-given : goal.invariant-loop-given
invariant-loop-given l =
    last_or l.last (marks (map fact_of (drop l.given-index l.batch)) l.seq)
    ≡ last_or l.fn.phase (marks (map fact_of l.batch) l.seq)
