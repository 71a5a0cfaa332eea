use Rattle.std.proofs.Common.{◌+◌, ap, sym}
use Rattle.std.specs.Prelude.{is_some}
use Rattle.record_batch.specs.Sequences.Makers.{maker}
use Rattle.record_batch.specs.Sequences.Sources.{accepted_count}
use Rattle.rm_protocol.specs.Waiting.{key}
use Rattle.rm_node.proofs.BegunLemmas.{outgoing-none, outgoing-some}
use Rattle.rm_node.proofs.begun.next_message.Goals as goal

pub returns-in-Some : goal.returns-in-Some
returns-in-Some c =
    let r = c.args.tables.now.records in
    let s = c.args.seq in
    let same = c.an_outgoing_sequence_is_as_recorded.ensures r s _ (sym c.in-Some.ensures) in
    rw (c.accepted_len.ensures.count, same)
    (outgoing-some r s (maker r s) (key s (accepted_count r s + 1)) (ap (λ o. is_some o) (sym c.in-Some.ensures)))

pub returns-in-None : goal.returns-in-None
returns-in-None c =
    let r = c.args.tables.now.records in
    outgoing-none r c.args.seq (maker r c.args.seq) (key c.args.seq (accepted_count r c.args.seq + 1))
    c.in-None.ensures
