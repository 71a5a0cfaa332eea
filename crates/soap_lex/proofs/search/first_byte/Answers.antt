use Rattle.std.proofs.Common.{ℕ, nat_eq}
use Rattle.memchr.specs.Find.{is_byte, is_byte2}
use Rattle.soap_lex.proofs.search.first_byte.Goals as goal
use Rattle.soap_lex.specs.First.{first_same, or_same}

pub returns : goal.returns
returns c =
    first_same (is_byte2 c.args.byte c.args.byte) (is_byte c.args.byte) c.args.bytes.now c.first_of_two.result
    (λ (b : ℕ). or_same (nat_eq b c.args.byte)) c.first_of_two.ensures
