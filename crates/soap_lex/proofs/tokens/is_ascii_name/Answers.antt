use Rattle.soap_lex.proofs.AsciiNameLemmas.{IsName-bytes}
use Rattle.soap_lex.proofs.tokens.is_ascii_name.Goals as goal

pub returns-then-begins_ascii_name : goal.returns-then-begins_ascii_name
returns-then-begins_ascii_name c = λ is.
    let first = c.begins_ascii_name.ensures c.if-begins_ascii_name.true in
    IsName-bytes c.args.bytes.now c.in-len1-up.len_at_least first.0 first.1 (c.are_ascii_name_chars.ensures is)
