use Rattle.std.proofs.Common.{refl}
use Rattle.soap_lex.proofs.tokens.is_plain_value.Goals as goal

pub returns-then-lacks_quote_and_markup : goal.returns-then-lacks_quote_and_markup
returns-then-lacks_quote_and_markup c =
    let none = c.lacks_quote_and_markup.ensures.0 c.if-lacks_quote_and_markup.true in (
      λ is. record { chars = c.is_chars.ensures.0 is; no_less = none.0; no_ampersand = none.1; no_quote = none.2 },
      λ value. c.is_chars.ensures.1 value.chars,
    )

pub returns-else-lacks_quote_and_markup : goal.returns-else-lacks_quote_and_markup
returns-else-lacks_quote_and_markup c =
    (λ is. cc, λ value. c.lacks_quote_and_markup.ensures.1 (value.no_less, value.no_ampersand, value.no_quote))

pub returns-then-is_plain_run : goal.returns-then-is_plain_run
returns-then-is_plain_run c =
    let is = c.if-is_plain_run.true in (
      λ _. record {
        chars = c.is_plain_run.ensures.chars is;
        no_less = c.is_plain_run.ensures.no_less is;
        no_ampersand = c.is_plain_run.ensures.no_ampersand is;
        no_quote = c.is_plain_run.ensures.no_other is;
      },
      λ _. refl,
    )
