use Rattle.std.proofs.Common.{refl}
use Rattle.soap_lex.proofs.CharsLemmas.{IsChars-ascii}
use Rattle.soap_lex.proofs.tokens.is_chars.Goals as goal

pub returns-then-is_plain_ascii : goal.returns-then-is_plain_ascii
returns-then-is_plain_ascii c =
    (λ _. IsChars-ascii c.args.bytes.now (c.is_plain_ascii.ensures c.if-is_plain_ascii.true), λ _. refl)
