use Rattle.std.proofs.Common.{◌≡◌, ℕ, ◌<◌, true, get_or}
use Rattle.memchr.specs.Find.{is_byte2}
use Rattle.soap_lex.proofs.search.first_of_two.Given as goal

-- none of the bytes so far is one of the two
abbrev pub invariant-loop-i : goal.invariant-loop-i
invariant-loop-i l = (k : ℕ) → k < l.i → is_byte2 l.a l.b (get_or l.bytes k 0) ≡ true → ⊥
