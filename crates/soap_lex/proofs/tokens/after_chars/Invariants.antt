use Rattle.std.proofs.Common.{length}
use Rattle.std.specs.Prelude.{◌↔◌}
use Rattle.soap_lex.specs.Characters.{IsChars}
use Rattle.soap_lex.proofs.tokens.after_chars.Given as goal

abbrev pub invariant-loop-others : goal.invariant-loop-others
invariant-loop-others l = IsChars l.rest ↔ IsChars l.bytes

abbrev pub decreases-loop-others : goal.decreases-loop-others
decreases-loop-others l = length l.rest
