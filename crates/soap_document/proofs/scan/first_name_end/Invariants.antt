use Rattle.std.proofs.Common.{◌≡◌, ℕ, ◌<◌, true, get_or}
use Rattle.soap_document.specs.Machine.{is_name_end}
use Rattle.soap_document.proofs.scan.first_name_end.Given as goal

abbrev pub invariant-loop-i : goal.invariant-loop-i
invariant-loop-i l = (k : ℕ) → k < l.i → is_name_end (get_or l.bytes k 0) ≡ true → ⊥
