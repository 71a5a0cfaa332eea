use Rattle.record_batch.specs.Sequences.Fits.{is_outgoing_side}
use Rattle.rm_relay.specs.Word.FirstLemmas.{found-side}
use Rattle.rm_relay.proofs.onward.find_acknowledged.Goals as goal

pub acknowledged_front-requires : goal.acknowledged_front-requires
acknowledged_front-requires c =
    found-side is_outgoing_side c.args.tables.now.records c.args.ends.out c.requires.outgoing
