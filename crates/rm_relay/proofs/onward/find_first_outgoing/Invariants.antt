use Rattle.std.proofs.Common.{◌≡◌, drop}
use Rattle.record_batch.specs.Sequences.Find.{find_from}
use Rattle.record_batch.specs.Sequences.Fits.{is_outgoing_side}
use Rattle.record_batch.specs.Sequences.Makers.{makers}
use Rattle.rm_relay.specs.Word.Ends.{first_outgoing}
use Rattle.rm_relay.specs.Word.FirstLemmas.{tested}
use Rattle.rm_relay.proofs.onward.find_first_outgoing.Given as goal

abbrev pub invariant-loop-before : goal.invariant-loop-before
invariant-loop-before l =
    find_from (tested is_outgoing_side) l.before (drop l.before (makers l.tables.records))
    ≡ first_outgoing l.tables.records
