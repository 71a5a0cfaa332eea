use Rattle.std.proofs.Common.{◌≡◌, drop, map}
use Rattle.record_batch.specs.Fact.{fact_of}
use Rattle.record_batch.specs.Sequences.Makers.{ident_in}
use Rattle.node_tables.specs.Kept.{named_at}
use Rattle.node_tables.proofs.find.find_ident.Given as goal

abbrev pub invariant-loop-given : goal.invariant-loop-given
invariant-loop-given l =
    ident_in (map (named_at (map fact_of l.kept)) (drop l.given-index l.named)) l.seq
    ≡ ident_in (map (named_at (map fact_of l.kept)) l.named) l.seq
