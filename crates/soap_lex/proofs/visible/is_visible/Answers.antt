use Rattle.std.proofs.Common.{subst, ℕ}
use Rattle.std.specs.List.{All}
use Rattle.std.proofs.lemmas.List.Elements.{All-more}
use Rattle.soap_lex.proofs.VisibleLemmas.{IsVisible, visible_all, visible_plain, visible_data, visible_lines}
use Rattle.soap_lex.proofs.VisibleLemmas.{visible_spaces}
use Rattle.soap_lex.proofs.visible.is_visible.Goals as goal

pub loop-byte-preserved : goal.loop-byte-preserved
loop-byte-preserved c =
    All-more (IsVisible c.args.other) c.args.bytes.now c.loop-byte.byte-index 0 c.loop-byte-test.true
    c.loop-byte.invariant (c.is_visible_but.ensures c.if-not-is_visible_but.false)

-- each byte was looked at
each : (c : goal.After-loop-byte) → All (IsVisible c.args.other) c.args.bytes.now
each c = visible_all c.args.other c.loop-byte.byte-index c.args.bytes.now c.loop-byte-test.false c.loop-byte.invariant

pub returns-clause-value : goal.returns-clause-value
returns-clause-value c = λ _. visible_plain c.args.other c.args.bytes.now (each c)

pub returns-clause-data : goal.returns-clause-data
returns-clause-data c = λ _ bracket.
    visible_data c.args.bytes.now (subst (λ (other : ℕ). All (IsVisible other) c.args.bytes.now) bracket (each c))

pub returns-clause-lines : goal.returns-clause-lines
returns-clause-lines c = λ _. visible_lines c.args.other c.args.bytes.now (each c)

pub returns-clause-spaces : goal.returns-clause-spaces
returns-clause-spaces c = λ _. visible_spaces c.args.other c.args.bytes.now (each c)
