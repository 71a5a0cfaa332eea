use Rattle.std.proofs.Common.{◌≡◌, Option, None}
use Rattle.std.specs.List.{AllWithin}
use Rattle.soap_document.specs.declared.profile.pool.Met.{Met}
use Rattle.soap_document.proofs.profile.pool.Pool.forget.Given as goal

abbrev pub invariant-loop-slot : goal.invariant-loop-slot
invariant-loop-slot l = AllWithin (λ (slot : Option Met). slot ≡ None) l.slot-items 0 l.slot-index
