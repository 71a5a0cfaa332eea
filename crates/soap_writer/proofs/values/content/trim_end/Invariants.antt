use Rattle.std.proofs.Common.{◌≡◌, ◌≤◌, take, length}
use Rattle.soap_writer.specs.Values.Values.{trimmed_end}
use Rattle.soap_writer.proofs.values.content.trim_end.Given as goal

-- what is left has the same end
abbrev pub invariant-loop-end : goal.invariant-loop-end
invariant-loop-end l = record {
  within : l.end ≤ length l.bytes;
  same : trimmed_end (take l.end l.bytes) ≡ trimmed_end l.bytes;
}

abbrev pub decreases-loop-end : goal.decreases-loop-end
decreases-loop-end l = l.end
