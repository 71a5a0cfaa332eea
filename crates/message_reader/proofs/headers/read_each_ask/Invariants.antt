use Rattle.std.proofs.Common.{◌≡◌, drop}
use Rattle.soap_writer.specs.Values.Outcome.{each}
use Rattle.soap_writer.specs.Values.Steps.{onto, lent_trees}
use Rattle.message_reader.specs.Headers.{ask_of}
use Rattle.message_reader.proofs.headers.read_each_ask.Given as goal

-- those so far, and those of what is left
abbrev pub invariant-loop-block : goal.invariant-loop-block
invariant-loop-block l =
    onto l.asks (each ask_of (lent_trees (drop l.block-index l.found))) ≡ each ask_of (lent_trees l.found)
