use Rattle.std.proofs.Common.{◌≡◌, drop}
use Rattle.record_batch.specs.Sequences.Find.{find_from}
use Rattle.record_batch.specs.Sequences.Fits.{is_incoming_side}
use Rattle.record_batch.specs.Sequences.Makers.{makers}
use Rattle.rm_relay.specs.Word.Ends.{first_incoming}
use Rattle.rm_relay.specs.Word.FirstLemmas.{tested}
use Rattle.rm_relay.proofs.onward.find_first_incoming.Given as goal

abbrev pub invariant-loop-before : goal.invariant-loop-before
invariant-loop-before l =
    find_from (tested is_incoming_side) l.before (drop l.before (makers l.tables.records))
    ≡ first_incoming l.tables.records
