use Rattle.std.proofs.Common.{◌≡◌, length}
use Rattle.soap_document.specs.Profile.Keys.{keys_of, neighbours_differ}
use Rattle.soap_document.proofs.profile.keys.neighbours_differ.Given as goal

abbrev pub invariant-loop-rest : goal.invariant-loop-rest
invariant-loop-rest l = neighbours_differ (keys_of l.keys) ≡ neighbours_differ (keys_of l.rest)

abbrev pub decreases-loop-rest : goal.decreases-loop-rest
decreases-loop-rest l = length l.rest
