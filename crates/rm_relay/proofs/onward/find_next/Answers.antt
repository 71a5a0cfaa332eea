use Rattle.record_batch.specs.Sequences.Fits.{is_incoming_side, is_outgoing_side}
use Rattle.rm_relay.specs.Word.FirstLemmas.{found-side}
use Rattle.rm_relay.proofs.onward.find_next.Goals as goal

pub accepted_len-accepted-requires : goal.accepted_len-accepted-requires
accepted_len-accepted-requires c =
    found-side is_outgoing_side c.args.tables.now.records c.args.ends.out c.requires.outgoing

pub item-requires : goal.item-requires
item-requires c =
    found-side is_incoming_side c.args.tables.now.records c.args.ends.into c.requires.incoming
