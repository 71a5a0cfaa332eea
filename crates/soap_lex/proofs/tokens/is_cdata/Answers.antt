use Rattle.soap_lex.proofs.tokens.is_cdata.Goals as goal

pub returns-then-lacks : goal.returns-then-lacks
returns-then-lacks c = (
  λ is. record { chars = c.is_chars.ensures.0 is; no_close = c.lacks.ensures.0 c.if-lacks.true },
  λ inside. c.is_chars.ensures.1 inside.chars,
)

pub returns-else-lacks : goal.returns-else-lacks
returns-else-lacks c = (λ is. cc, λ inside. c.lacks.ensures.1 inside.no_close)
