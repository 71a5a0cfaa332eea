use Rattle.std.proofs.Common.{◌≡◌, ◌++◌, drop}
use Rattle.record_batch.specs.Sequences.Find.{find_creating, find_from, is_creating}
use Rattle.record_batch.specs.Sequences.Makers.{makers}
use Rattle.tables_ahead.proofs.known.Known.find_creating.Given as goal
use Rattle.tables_ahead.specs.Known.{all_records}

abbrev pub invariant-loop-before : goal.invariant-loop-before
invariant-loop-before l =
    let r = all_records l.self in
    find_from (is_creating r l.message_id) l.before (drop l.before (makers r)) ≡ find_creating r l.message_id
