use Rattle.std.proofs.Common.{sym, ◌∙◌, ap}
use Rattle.soap_lex.proofs.CharsLemmas.{IsChars-all, all-IsChars}
use Rattle.std.specs.List.{list_all}
use Rattle.std.specs.Str.{chars}
use Rattle.xml_chars.specs.Classes.{is_char}
use Rattle.soap_lex.proofs.tokens.is_text.Goals as goal
use Rattle.soap_lex.specs.Scalars.{IsUtf8-IsChars}

pub returns-in-Ok : goal.returns-in-Ok
returns-in-Ok c =
    let same = ap (λ bs. list_all is_char (chars bs)) c.in-Ok.ensures.cases.0 in (
      λ is. IsChars-all c.args.bytes.now c.in-Ok.ensures.cases.1 (sym same ∙ sym c.has_all_chars.ensures ∙ is),
      λ chars. c.has_all_chars.ensures ∙ same ∙ all-IsChars c.args.bytes.now chars,
    )

pub returns-in-Err : goal.returns-in-Err
returns-in-Err c = (λ is. cc, λ chars. absurd (c.in-Err.ensures.cases.0 (IsUtf8-IsChars c.args.bytes.now chars)))
