use Rattle.std.proofs.Common.{◌≡◌, ◌∙◌, sym, ap, Ok, decimal}
use Rattle.std.proofs.lemmas.Fmt.{IsAscii-decimal, parse-decimal}
use Rattle.std.proofs.lemmas.Str.{IsUtf8-from_ascii}
use Rattle.std.proofs.lemmas.Bool.Decides.{Decides-eqb}
use Rattle.std.proofs.lemmas.Slice.Eq.{slice_eq-Decides}
use Rattle.rm_script.proofs.decimal.number_of.Goals as goal

pub returns-in_default-clause-only : goal.returns-in_default-clause-only
returns-in_default-clause-only c = λ number small is.
    absurd (c.in_default.ensures.cases.0 (rw is (IsUtf8-from_ascii (decimal number) (IsAscii-decimal number small))))

pub returns-in_default-parse-clause-only : goal.returns-in_default-parse-clause-only
returns-in_default-parse-clause-only c = λ number small is.
    let written = c.in-Ok.ensures.cases.0 ∙ is in
    let parsed : c.parse.result ≡ Ok number =
    parse-decimal 64 number c.in-Ok.text.now c.parse.result small small written c.parse.ensures.value.0 in cc

pub returns-then-eq-clause-only : goal.returns-then-eq-clause-only
returns-then-eq-clause-only c = λ number small is.
    let written = c.in-Ok.ensures.cases.0 ∙ is in
    let parsed : c.parse.result ≡ Ok number =
    parse-decimal 64 number c.in-Ok.text.now c.parse.result small small written c.parse.ensures.value.0 in cc

pub returns-else-eq-clause-only : goal.returns-else-eq-clause-only
returns-else-eq-clause-only c = λ number small is.
    let written = c.in-Ok.ensures.cases.0 ∙ is in
    let parsed : c.parse.result ≡ Ok number =
    parse-decimal 64 number c.in-Ok.text.now c.parse.result small small written c.parse.ensures.value.0 in
    let same : c.in-Ok-parse.number ≡ number = cc in
    let text : c.as_bytes.result.now ≡ c.args.digits.now =
    c.as_bytes.ensures.value ∙ (c.format.ensures.text ∙ (ap decimal same ∙ sym is)) in
    let decides = slice_eq-Decides Decides-eqb c.as_bytes.result.now c.args.digits.now c.eq.result c.eq.ensures in
    let equal = decides.1 text in cc
