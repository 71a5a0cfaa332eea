use Rattle.std.proofs.Common.{refl, [], ◌∷◌}
use Rattle.soap_lex.proofs.HoldsLemmas.{lacks_first}
use Rattle.soap_lex.proofs.tokens.is_char_data.Goals as goal

pub returns-then-lacks_markup : goal.returns-then-lacks_markup
returns-then-lacks_markup c =
    let none = c.lacks_markup.ensures.0 c.if-lacks_markup.true in (
      λ is. let inside = c.is_cdata.ensures.0 is in
          record { chars = inside.chars; no_less = none.0; no_ampersand = none.1; no_close = inside.no_close },
      λ text. c.is_cdata.ensures.1 (record { chars = text.chars; no_close = text.no_close }),
    )

pub returns-else-lacks_markup : goal.returns-else-lacks_markup
returns-else-lacks_markup c = (λ is. cc, λ text. c.lacks_markup.ensures.1 (text.no_less, text.no_ampersand))

pub returns-then-is_plain_run : goal.returns-then-is_plain_run
returns-then-is_plain_run c =
    let is = c.if-is_plain_run.true in (
      λ _. record {
        chars = c.is_plain_run.ensures.chars is;
        no_less = c.is_plain_run.ensures.no_less is;
        no_ampersand = c.is_plain_run.ensures.no_ampersand is;
        no_close = lacks_first 93 (93 ∷ 62 ∷ []) c.args.bytes.now (c.is_plain_run.ensures.no_other is);
      },
      λ _. refl,
    )
