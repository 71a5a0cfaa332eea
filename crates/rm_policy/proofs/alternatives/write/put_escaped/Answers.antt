use Rattle.std.proofs.Common.{◌≡◌, ◌+◌, ◌++◌, drop}
use Rattle.std.proofs.lemmas.List.{at_drop_more}
use Rattle.std.proofs.lemmas.Result.{err_from_is_err_and}
use Rattle.rm_policy.specs.Alternatives.Texts.{escaped}
use Rattle.rm_policy.proofs.AlternativesLemmas.SendLemmas.{going_cut, going_more}
use Rattle.rm_policy.proofs.alternatives.write.put_escaped.Goals as goal

pub returns-in_err-put_byte : goal.returns-in_err-put_byte
returns-in_err-put_byte g c =
    let told = g.K.Sink.told in
    let l = c.loop-byte in
    let bytes = c.args.bytes.now in
    let p = err_from_is_err_and c.from_residual.result c.from_residual.ensures.1 in
    rw (p.1, p.2) (going_cut g.K.Sink.wants_memory (told c.args.out.now) (told l.out) (told c.put_byte.new.out)
    c.args.block.now.items (escaped bytes) (escaped (drop l.byte-index bytes)) l.block.items _
    (escaped (drop (l.byte-index + 1) bytes)) c.put_byte.new.block.items c.put_byte.new.block.items _ l.invariant
    c.in_err-put_byte.ensures (at_drop_more escaped bytes l.byte-index 0 c.loop-byte-test.true))

pub loop-byte-preserved : goal.loop-byte-preserved
loop-byte-preserved g c =
    let told = g.K.Sink.told in
    let l = c.loop-byte in
    let bytes = c.args.bytes.now in
    going_more g.K.Sink.wants_memory (told c.args.out.now) (told l.out) (told c.put_byte.new.out)
    c.args.block.now.items (escaped bytes) (escaped (drop l.byte-index bytes)) l.block.items _
    (escaped (drop (l.byte-index + 1) bytes)) c.put_byte.new.block.items l.invariant c.in_ok-put_byte.ensures
    (at_drop_more escaped bytes l.byte-index 0 c.loop-byte-test.true)
