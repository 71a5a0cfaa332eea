use Rattle.std.proofs.Common.{◌≡◌, ℕ, ◌+◌, ◌*◌, List, ◌∷◌, drop, get_or, sym, subst, ap, ◌∙◌}
use Rattle.std.specs.Prelude.{min}
use Rattle.std.proofs.lemmas.List.{drop_more}
use Rattle.soap_lex.proofs.NumberLemmas.{NumberSo, NumberSo-step, base_above}
use Rattle.soap_lex.proofs.references.number.Goals as goal

pub loop-digit-preserved : goal.loop-digit-preserved
loop-digit-preserved c =
    let rest : List ℕ = drop (c.loop-digit.digit-index + 1) c.args.digits.now in
    let digit : ℕ = get_or c.args.digits.now c.loop-digit.digit-index 0 in
    let more : drop c.loop-digit.digit-index c.args.digits.now ≡ digit ∷ rest =
    drop_more c.args.digits.now c.loop-digit.digit-index 0 c.loop-digit-test.true in
    let P : List ℕ → Type 0 = λ l. NumberSo c.args.base c.loop-digit.number c.args.digits.now l in
    let Q : ℕ → Type 0 = λ n. NumberSo c.args.base n c.args.digits.now rest in
    let read = c.in_ok-value.ensures.value in
    let same : min (c.loop-digit.number * c.args.base + c.in_ok-value.value) 0x110000 ≡ c.min-number.result =
    sym c.min-number.ensures in
    subst Q (ap (λ v. min (c.loop-digit.number * c.args.base + v) 0x110000) (sym read.1) ∙ same)
    (NumberSo-step c.args.base c.loop-digit.number digit c.args.digits.now rest
    (base_above c.args.base c.requires) read.0 (subst P more c.loop-digit.invariant))
