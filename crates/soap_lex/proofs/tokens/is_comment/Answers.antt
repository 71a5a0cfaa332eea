use Rattle.soap_lex.proofs.tokens.is_comment.Goals as goal

pub returns-then-lacks_dashes : goal.returns-then-lacks_dashes
returns-then-lacks_dashes c = (
  λ is. record { chars = c.is_chars.ensures.0 is; no_dashes = c.lacks_dashes.ensures.0 c.if-lacks_dashes.true },
  λ comment. c.is_chars.ensures.1 comment.chars,
)

pub returns-else-lacks_dashes : goal.returns-else-lacks_dashes
returns-else-lacks_dashes c = (λ is. cc, λ comment. c.lacks_dashes.ensures.1 comment.no_dashes)
