use Rattle.std.proofs.Common.{◌≡◌, ℕ, ◌<◌, true, get_or, ◌||◌, ◌==◌}
use Rattle.xml_chars.specs.Classes.{is_space}
use Rattle.soap_document.proofs.scan.first_less_or_space.Given as goal

abbrev pub invariant-loop-i : goal.invariant-loop-i
invariant-loop-i l = (k : ℕ) → k < l.i → (is_space (get_or l.bytes k 0) || get_or l.bytes k 0 == 60) ≡ true → ⊥
