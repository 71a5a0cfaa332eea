use Rattle.std.proofs.Common.{◌≡◌, Option, None}
use Rattle.std.specs.List.{All}
use Rattle.soap_document.specs.declared.profile.pool.Met.{Met}
use Rattle.soap_document.proofs.profile.pool.empty_slots.Given as goal

abbrev pub invariant-loop : goal.invariant-loop
invariant-loop l = All (λ (slot : Option Met). slot ≡ None) l.slots.items
