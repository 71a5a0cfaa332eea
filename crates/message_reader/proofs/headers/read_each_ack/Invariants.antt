use Rattle.std.proofs.Common.{◌≡◌, drop}
use Rattle.soap_writer.specs.Values.Outcome.{each}
use Rattle.soap_writer.specs.Values.Steps.{onto, lent_trees}
use Rattle.message_reader.specs.Headers.{ack_of}
use Rattle.message_reader.proofs.headers.read_each_ack.Given as goal

-- those so far, and those of what is left
abbrev pub invariant-loop-block : goal.invariant-loop-block
invariant-loop-block l =
    onto l.acks (each ack_of (lent_trees (drop l.block-index l.found))) ≡ each ack_of (lent_trees l.found)
