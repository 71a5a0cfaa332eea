use Rattle.std.proofs.Common.{◌≡◌, ◌++◌}
use Rattle.std.specs.Vec.Iter.{into_iter_items}
use Rattle.rm_host.proofs.serve.joined.Given as goal

abbrev pub invariant-loop-out : goal.invariant-loop-out
invariant-loop-out l = l.all ++ into_iter_items l.out-iterator ≡ l.fn.first ++ l.fn.last
