use Rattle.std.proofs.Common.{◌≡◌, drop}
use Rattle.soap_writer.specs.Values.Outcome.{each}
use Rattle.soap_writer.specs.Values.Steps.{onto, lent_trees}
use Rattle.rm_message.specs.Elements.Headers.{range_of}
use Rattle.rm_message.proofs.elements.header.read_ranges.Given as goal

-- those so far, and those of what is left
abbrev pub invariant-loop-element : goal.invariant-loop-element
invariant-loop-element l =
    onto l.ranges (each range_of (lent_trees (drop l.element-index l.elements)))
    ≡ each range_of (lent_trees l.elements)
