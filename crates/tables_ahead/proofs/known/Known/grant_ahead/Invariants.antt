use Rattle.std.proofs.Common.{◌≡◌, ◌++◌, drop}
use Rattle.record_batch.specs.Sequences.Find.{find_from, is_granted}
use Rattle.record_batch.specs.Sequences.Makers.{makers}
use Rattle.tables_ahead.proofs.known.Known.grant_ahead.Given as goal
use Rattle.tables_ahead.specs.Known.{all_records, find_ahead}

abbrev pub invariant-loop-before : goal.invariant-loop-before
invariant-loop-before l =
    let f = is_granted l.message_id in
    find_from f l.before (drop l.before (makers (all_records l.self))) ≡ find_ahead f l.self
