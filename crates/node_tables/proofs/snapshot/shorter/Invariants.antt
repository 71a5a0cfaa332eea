use Rattle.std.proofs.Common.{map}
use Rattle.record_batch.specs.Fact.{fact_of}
use Rattle.node_tables.specs.Kept.{tolds}
use Rattle.node_tables.proofs.ShorterLemmas.{IsShortened}
use Rattle.node_tables.proofs.snapshot.shorter.Given as goal

abbrev pub invariant-loop-k : goal.invariant-loop-k
invariant-loop-k l = IsShortened (map fact_of l._kept) (tolds l.rows) l.notes l.k l.seen.items l.short.items

abbrev pub decreases-loop-k : goal.decreases-loop-k
decreases-loop-k l = l.k
