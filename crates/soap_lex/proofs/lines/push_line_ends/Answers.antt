use Rattle.std.proofs.Common.{◌≡◌, ℕ, List, ◌++◌, OnOk, subst, sym}
use Rattle.soap_lex.proofs.HoldsLemmas.{lacks-NonePass}
use Rattle.soap_lex.proofs.LineLemmas.{line_ends-none}
use Rattle.soap_lex.proofs.lines.push_line_ends.Goals as goal

pub returns-then-lacks_byte-clause-ok : goal.returns-then-lacks_byte-clause-ok
returns-then-lacks_byte-clause-ok c =
    let bytes = c.args.bytes.now in
    subst (λ (lines : List ℕ). OnOk c.append.result (c.append.new.out.items ≡ c.args.out.now.items ++ lines))
    (sym (line_ends-none bytes (lacks-NonePass 13 bytes (c.lacks_byte.ensures c.if-lacks_byte.true))))
    c.append.ensures.ok
