use Rattle.std.proofs.Common.{take, sym}
use Rattle.std.proofs.lemmas.Bool.{and_parts}
use Rattle.std.proofs.lemmas.List.{take_all}
use Rattle.std.proofs.lemmas.List.Elements.{All-more, All-same}
use Rattle.soap_lex.proofs.CharsLemmas.{IsPlain}
use Rattle.soap_lex.proofs.tokens.is_plain_ascii.Goals as goal

pub loop-byte-preserved : goal.loop-byte-preserved
loop-byte-preserved c = λ both.
    let (before, here) = and_parts c.loop-byte.plain c.is_plain-plain.result both in
    All-more IsPlain c.args.bytes.now c.loop-byte.byte-index 0 c.loop-byte-test.true (c.loop-byte.invariant before)
    (c.is_plain-plain.ensures here)

pub returns : goal.returns
returns c = λ is.
    let whole = take_all c.loop-byte.byte-index c.args.bytes.now c.loop-byte-test.false in
    All-same IsPlain c.args.bytes.now (take c.loop-byte.byte-index c.args.bytes.now) (sym whole)
    (c.loop-byte.invariant is)
