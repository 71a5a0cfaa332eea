use Rattle.std.proofs.Common.{◌-◌, length}
use Rattle.rm_disk.proofs.JournalLemmas.Written.{IsWritten}
use Rattle.rm_disk.proofs.journal.block.list_of.Given as goal

abbrev pub invariant-loop-k : goal.invariant-loop-k
invariant-loop-k l = IsWritten l.start l.fresh l.k l.at l.bytes.items l.gates.items

abbrev pub decreases-loop-k : goal.decreases-loop-k
decreases-loop-k l = length l.fresh - l.k
