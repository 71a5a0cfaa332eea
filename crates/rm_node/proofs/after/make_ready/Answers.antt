use Rattle.std.proofs.Common.{◌∙◌, map, ap}
use Rattle.record_batch.specs.Fact.{fact_of}
use Rattle.std.specs.List.{flat_map}
use Rattle.node_waits.specs.Keys.Settled.{touched_by}
use Rattle.rm_protocol.specs.Polls.{waiting_of}
use Rattle.node_waits.specs.Held.{addresses_of}
use Rattle.rm_node.proofs.after.make_ready.Goals as goal

pub returns-clause-touched : goal.returns-clause-touched
returns-clause-touched c =
    c.in_ok-touched.ensures ∙ ap (λ l. flat_map touched_by (map fact_of l)) c.as_slice.ensures.value

pub returns-clause-messages : goal.returns-clause-messages
returns-clause-messages c = c.in_ok-held.ensures.messages ∙ ap waiting_of c.as_slice-2.ensures.value

pub returns-clause-room : goal.returns-clause-room
returns-clause-room c = c.in_ok-make_room.ensures.ready ∙ ap addresses_of c.as_slice-3.ensures.value
