use Rattle.rm_protocol.specs.World.{run, start}
use Rattle.rm_protocol.proofs.FreshLemmas.{SnapshotLaws}
use Rattle.rm_protocol.proofs.RunLemmas.{run-IsSound, start-IsSound}
use Rattle.rm_protocol.proofs.TakenLemmas.{takes-new}
use Rattle.rm_protocol.proofs.laws.a_delivered_message_is_taken.Goals as goal

pub returns : goal.returns
returns c terms one two t made events =
    let laws : SnapshotLaws = record {
      keeps = c.a_snapshot_keeps_all.ensures;
      fits = c.a_snapshot_fits.ensures;
      proper = c.a_snapshot_is_proper.ensures;
    } in
    takes-new terms (run terms events (start one two))
    (run-IsSound laws terms events (start one two) t (start-IsSound terms one two made))
