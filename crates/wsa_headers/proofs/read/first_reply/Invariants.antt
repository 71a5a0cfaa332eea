use Rattle.std.proofs.Common.{◌≡◌, drop}
use Rattle.std.specs.List.{filter}
use Rattle.soap_writer.specs.Values.Steps.{lent_trees}
use Rattle.wsa_headers.specs.Addressing.{is_reply}
use Rattle.wsa_headers.proofs.read.first_reply.Given as goal

-- it is none of those so far
abbrev pub invariant-loop-block : goal.invariant-loop-block
invariant-loop-block l =
    filter is_reply (lent_trees (drop l.block-index l.blocks)) ≡ filter is_reply (lent_trees l.blocks)
