use Rattle.rm_policy.specs.Alternatives.Pieces.{pieces_text}
use Rattle.rm_policy.proofs.AlternativesLemmas.SendLemmas.{sent_begun}
use Rattle.rm_policy.proofs.alternatives.write.write_pieces.Goals as goal

pub returns-clause-err : goal.returns-clause-err
returns-clause-err g c =
    let told = g.K.Sink.told in
    let sent = rw c.new-block.ensures at c.in_ok-put_pieces.ensures.ok in
    sent_begun (told c.args.out.now) (told c.put_pieces.new.out) (told c.write_all.new.out)
    (pieces_text c.args.pieces.now) c.put_pieces.new.block.items c.write_all.result sent
    (rw c.as_slice.ensures.value at c.write_all.ensures.err)
