use Rattle.record_batch.specs.Sequences.Fits.{is_incoming_side, is_outgoing_side}
use Rattle.rm_relay.specs.Word.FirstLemmas.{found-side}
use Rattle.rm_relay.proofs.onward.may_forward.Goals as goal

pub consumed_len-consumed-requires : goal.consumed_len-consumed-requires
consumed_len-consumed-requires c =
    found-side is_incoming_side c.args.tables.now.records c.in-Some.ends.into c.in-Some.ensures.found.incoming

pub accepted_len-accepted-requires : goal.accepted_len-accepted-requires
accepted_len-accepted-requires c =
    found-side is_outgoing_side c.args.tables.now.records c.in-Some.ends.out c.in-Some.ensures.found.outgoing
