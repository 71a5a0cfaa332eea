use Rattle.std.proofs.lemmas.Bool.{and_parts}
use Rattle.std.proofs.lemmas.List.Elements.{All-more, All-weaker}
use Rattle.soap_lex.proofs.CharsLemmas.{IsPlain, IsPlainBut, IsChars-ascii, plain_all}
use Rattle.soap_lex.proofs.HoldsLemmas.{lacks_each}
use Rattle.soap_lex.proofs.tokens.is_plain_run.Goals as goal

pub loop-byte-preserved : goal.loop-byte-preserved
loop-byte-preserved c = λ both.
    let (before, here) = and_parts c.loop-byte.plain c.is_plain_but-plain.result both in
    All-more (IsPlainBut c.args.other) c.args.bytes.now c.loop-byte.byte-index 0 c.loop-byte-test.true
    (c.loop-byte.invariant before) (c.is_plain_but-plain.ensures here)

pub returns-clause-chars : goal.returns-clause-chars
returns-clause-chars c = λ is.
    let bytes = c.args.bytes.now in
    IsChars-ascii bytes (All-weaker (IsPlainBut c.args.other) IsPlain (λ x h. (h.0, h.1)) bytes
    (plain_all c.args.other c.loop-byte.byte-index bytes c.loop-byte-test.false (c.loop-byte.invariant is)))

pub returns-clause-no_less : goal.returns-clause-no_less
returns-clause-no_less c = λ is.
    let bytes = c.args.bytes.now in
    lacks_each 60 bytes (λ k h. (plain_all c.args.other c.loop-byte.byte-index bytes c.loop-byte-test.false
    (c.loop-byte.invariant is) k 0 h).2)

pub returns-clause-no_ampersand : goal.returns-clause-no_ampersand
returns-clause-no_ampersand c = λ is.
    let bytes = c.args.bytes.now in
    lacks_each 38 bytes (λ k h. (plain_all c.args.other c.loop-byte.byte-index bytes c.loop-byte-test.false
    (c.loop-byte.invariant is) k 0 h).3)

pub returns-clause-no_other : goal.returns-clause-no_other
returns-clause-no_other c = λ is.
    let bytes = c.args.bytes.now in
    lacks_each c.args.other bytes (λ k h. (plain_all c.args.other c.loop-byte.byte-index bytes c.loop-byte-test.false
    (c.loop-byte.invariant is) k 0 h).4)
