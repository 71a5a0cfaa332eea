use Rattle.std.proofs.Common.{◌≡◌, min, take}
use Rattle.std.specs.Prelude.{sum_by}
use Rattle.node_tables.specs.Row.Row.{Seen}
use Rattle.node_tables.specs.Reads.{waiting}
use Rattle.node_tables.proofs.rows.waiting_in.Given as goal

abbrev pub invariant-loop-row : goal.invariant-loop-row
invariant-loop-row l =
    l.total ≡ min (sum_by (λ (r : Seen). waiting r.told.side) (take l.row-index l.rows)) 18446744073709551615
