use Rattle.std.proofs.Common.{drop}
use Rattle.rm_policy.specs.Alternatives.Texts.{escaped}
use Rattle.rm_policy.proofs.AlternativesLemmas.SendLemmas.{Going}
use Rattle.rm_policy.proofs.alternatives.write.put_escaped.Given as goal

abbrev pub invariant-loop-byte : goal.invariant-loop-byte
invariant-loop-byte g l =
    let told = g.K.Sink.told in
    Going g.K.Sink.wants_memory (told l.initial.out) (told l.out) l.initial.block.items (escaped l.bytes)
    (escaped (drop l.byte-index l.bytes)) l.block.items
