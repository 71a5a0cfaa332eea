use Rattle.std.proofs.Common.{◌<◌, length, get_or, set, ◌∙◌, ap, arith}
use Rattle.soap_lex.specs.Value.{space_of}
use Rattle.std.proofs.lemmas.List.{get_or_default}
use Rattle.std.proofs.lemmas.List.Edits.{map_over_more}
use Rattle.soap_lex.proofs.LineLemmas.{mapped_all}
use Rattle.soap_lex.proofs.lines.blank.Goals as goal

pub loop-byte-preserved : goal.loop-byte-preserved
loop-byte-preserved c =
    let within : c.loop-byte.byte-index < length c.args.bytes.now = omega arith in
    ap (λ y. set c.loop-byte.bytes c.loop-byte.byte-index y) c.space_for.ensures
    ∙ map_over_more space_of c.args.bytes.now c.loop-byte.bytes c.loop-byte.byte-index
    (get_or c.loop-byte.bytes c.loop-byte.byte-index 0)
    within c.loop-byte.invariant
    (get_or_default c.loop-byte.bytes c.loop-byte.byte-index 0 (get_or c.loop-byte.bytes c.loop-byte.byte-index 0)
    (omega arith))

pub returns : goal.returns
returns c = c.loop-byte.invariant ∙ mapped_all space_of c.loop-byte.byte-index c.args.bytes.now c.loop-byte-test.false
