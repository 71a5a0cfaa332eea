use Rattle.std.proofs.Common.{◌≡◌, drop}
use Rattle.soap_writer.specs.Values.Outcome.{each}
use Rattle.soap_writer.specs.Values.Steps.{onto, lent_trees}
use Rattle.wsa_headers.specs.Endpoint.{uri_of}
use Rattle.wsa_headers.proofs.read.read_addresses.Given as goal

-- those so far, and those of what is left
abbrev pub invariant-loop-block : goal.invariant-loop-block
invariant-loop-block l =
    onto l.addresses (each uri_of (lent_trees (drop l.block-index l.blocks))) ≡ each uri_of (lent_trees l.blocks)
