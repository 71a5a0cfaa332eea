use Rattle.std.proofs.Common.{◌∙◌, ap, decimal}
use Rattle.std.specs.Result.{result_ok}
use Rattle.std.proofs.lemmas.Fmt.{IsAscii-decimal, parse-decimal}
use Rattle.std.proofs.lemmas.Str.{IsUtf8-from_ascii}
use Rattle.rm_script.proofs.soak.number.parsed.Goals as goal

pub returns-in_default : goal.returns-in_default
returns-in_default c = λ number small is.
    absurd (c.in_default.ensures.cases.0 (rw is (IsUtf8-from_ascii (decimal number) (IsAscii-decimal number small))))

pub returns : goal.returns
returns c = λ number small is.
    let written = c.in-Ok.ensures.cases.0 ∙ is in
    c.ok.ensures.value
    ∙ ap result_ok
    (parse-decimal 64 number c.in-Ok.text.now c.parse.result small small written c.parse.ensures.value.0)
