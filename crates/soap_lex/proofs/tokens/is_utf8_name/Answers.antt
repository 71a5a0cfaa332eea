use Rattle.std.proofs.Common.{sym, ◌∙◌, ap}
use Rattle.std.specs.List.{list_all}
use Rattle.std.specs.Str.{chars}
use Rattle.xml_chars.specs.Classes.{is_name_char}
use Rattle.soap_lex.proofs.CharsLemmas.{begins, IsName-all, all-IsName, begins-IsName}
use Rattle.soap_lex.proofs.tokens.is_utf8_name.Goals as goal
use Rattle.soap_lex.specs.Scalars.{IsUtf8-IsName}

pub returns-then-begins_name : goal.returns-then-begins_name
returns-then-begins_name c =
    let same = ap (λ bs. list_all is_name_char (chars bs)) c.in-Ok.ensures.cases.0 in
    let starts = ap (λ bs. begins (chars bs)) c.in-Ok.ensures.cases.0 in (
      λ is. IsName-all c.args.bytes.now c.in-Ok.ensures.cases.1 (sym starts ∙ sym c.begins_name.ensures
          ∙ c.if-begins_name.true)
          (sym same ∙ sym c.has_name_chars.ensures ∙ is),
      λ name. c.has_name_chars.ensures ∙ same ∙ all-IsName c.args.bytes.now name,
    )

pub returns-else-begins_name : goal.returns-else-begins_name
returns-else-begins_name c =
    let starts = ap (λ bs. begins (chars bs)) c.in-Ok.ensures.cases.0 in
    (λ is. cc, λ name. c.begins_name.ensures ∙ starts ∙ begins-IsName c.args.bytes.now name)

pub returns-in-Err : goal.returns-in-Err
returns-in-Err c = (λ is. cc, λ name. absurd (c.in-Err.ensures.cases.0 (IsUtf8-IsName c.args.bytes.now name)))
