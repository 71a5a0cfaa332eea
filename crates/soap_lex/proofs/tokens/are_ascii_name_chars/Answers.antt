use Rattle.std.proofs.Common.{take, sym}
use Rattle.std.proofs.lemmas.List.{take_all}
use Rattle.std.proofs.lemmas.List.Elements.{All-more, All-same}
use Rattle.soap_lex.proofs.AsciiNameLemmas.{IsNameByte}
use Rattle.soap_lex.proofs.tokens.are_ascii_name_chars.Goals as goal

pub loop-byte-preserved : goal.loop-byte-preserved
loop-byte-preserved c =
    All-more IsNameByte c.args.bytes.now c.loop-byte.byte-index 0 c.loop-byte-test.true c.loop-byte.invariant
    (c.is_ascii_name_char.ensures c.if-not-is_ascii_name_char.false)

pub returns : goal.returns
returns c = λ _.
    let whole = take_all c.loop-byte.byte-index c.args.bytes.now c.loop-byte-test.false in
    All-same IsNameByte c.args.bytes.now (take c.loop-byte.byte-index c.args.bytes.now) (sym whole)
    c.loop-byte.invariant
