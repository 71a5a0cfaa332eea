use Rattle.rm_protocol.specs.World.{run, start}
use Rattle.rm_protocol.proofs.FreshLemmas.{SnapshotLaws}
use Rattle.rm_protocol.proofs.ImageLemmas.{IsSound-KeepsAll}
use Rattle.rm_protocol.proofs.RunLemmas.{run-IsSound, start-IsSound}
use Rattle.rm_protocol.proofs.laws.every_run_keeps_the_word.Goals as goal

pub returns : goal.returns
returns c terms one two t made events =
    let laws : SnapshotLaws = record {
      keeps = c.a_snapshot_keeps_all.ensures;
      fits = c.a_snapshot_fits.ensures;
      proper = c.a_snapshot_is_proper.ensures;
    } in
    IsSound-KeepsAll c.one_number_one_identifier.ensures laws terms (run terms events (start one two)) t
    (run-IsSound laws terms events (start one two) t (start-IsSound terms one two made))
