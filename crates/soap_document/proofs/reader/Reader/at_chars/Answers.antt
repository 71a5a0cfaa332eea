use Rattle.std.proofs.Common.{rules, ◌≡◌, true, OnOk, sym, subst, ◌∙◌}
use Rattle.soap_lex.specs.TextMachine.{halts}
use Rattle.soap_document.specs.Machine.{State, at_chars}
use Rattle.soap_document.specs.Seen.{seen, Sees}
use Rattle.std.proofs.lemmas.Result.{on_ok_weaker}
use Rattle.soap_document.proofs.Seeing.{seeing, sees}
use Rattle.soap_document.proofs.Steps.{begun_tag, chars_less}
use Rattle.soap_document.proofs.reader.Reader.at_chars.Goals as goal

pub returns-then-not-is_less-clause-sees : goal.returns-then-not-is_less-clause-sees
returns-then-not-is_less-clause-sees g c =
    let stands = g.H.Handler.stands in
    let byte = c.args.byte in
    seeing stands c.args.self.now (λ s. halts s.words byte ≡ true → Sees stands _ (at_chars s byte))
    (λ top below h halted. sees stands _ top below _ h
    (search (rules, c.refuse.ensures top below, c.is_less.ensures c.args.self.now.scan.text.items)))

pub returns-clause-sees : goal.returns-clause-sees
returns-clause-sees g c =
    let stands = g.H.Handler.stands in
    let text = c.args.self.now.scan.text.items in
    let byte = c.args.byte in
    let new = c.go_on.new.self in
    let ends = sym (c.is_less.ensures text) ∙ c.if-not-is_less.false in
    seeing stands c.args.self.now (λ s. halts s.words byte ≡ true → OnOk c.go_on.result (Sees stands new (at_chars s
    byte))) (λ top below h halted.
    let s = seen c.args.self.now.scan top below in
    on_ok_weaker c.go_on.result (subst (λ (x : State). Sees stands new x) (chars_less s byte halted ends))
    (c.go_on.ensures.sees (begun_tag s) (sees stands _ top below _ h (search (rules, c.restart.ensures text)))))
