use Rattle.std.proofs.Common.{length}
use Rattle.rm_disk.specs.Journal.Scan.{IsWalked}
use Rattle.rm_disk.proofs.journal.scan.gates_of.Given as goal

abbrev pub invariant-loop-gates : goal.invariant-loop-gates
invariant-loop-gates l = IsWalked l.start l.bytes l.gates.items l.at l.rest

abbrev pub decreases-loop-gates : goal.decreases-loop-gates
decreases-loop-gates l = length l.rest
