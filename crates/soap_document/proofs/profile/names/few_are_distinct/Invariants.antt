use Rattle.std.proofs.Common.{◌≡◌, length}
use Rattle.soap_document.specs.Profile.Namespaces.{are_distinct}
use Rattle.soap_document.proofs.profile.names.few_are_distinct.Given as goal

abbrev pub invariant-loop-rest : goal.invariant-loop-rest
invariant-loop-rest l = are_distinct l.attributes ≡ are_distinct l.rest

abbrev pub decreases-loop-rest : goal.decreases-loop-rest
decreases-loop-rest l = length l.rest
