use Rattle.std.proofs.Common.{ℕ, ◌≢◌, take, sym}
use Rattle.std.proofs.lemmas.Bool.{and_parts}
use Rattle.std.proofs.lemmas.List.{take_all}
use Rattle.std.proofs.lemmas.List.Elements.{All-more, All-same}
use Rattle.soap_lex.proofs.HoldsLemmas.{lacks_each}
use Rattle.soap_lex.proofs.tokens.lacks_byte.Goals as goal

pub loop-byte-preserved : goal.loop-byte-preserved
loop-byte-preserved c = λ both.
    let (before, here) = and_parts c.loop-byte.lacks c.is_not-lacks.result both in
    All-more (λ (byte : ℕ). byte ≢ c.args.other) c.args.bytes.now c.loop-byte.byte-index 0 c.loop-byte-test.true
    (c.loop-byte.invariant before) (c.is_not-lacks.ensures here)

pub returns : goal.returns
returns c = λ is.
    let bytes = c.args.bytes.now in
    let whole = take_all c.loop-byte.byte-index bytes c.loop-byte-test.false in
    let each = All-same (λ (byte : ℕ). byte ≢ c.args.other) bytes (take c.loop-byte.byte-index bytes) (sym whole)
    (c.loop-byte.invariant is) in
    lacks_each c.args.other bytes (λ k h. each k 0 h)
