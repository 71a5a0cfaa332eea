use Rattle.std.proofs.Common.{ap, sym}
use Rattle.std.specs.Prelude.{is_some}
use Rattle.record_batch.specs.Sequences.Makers.{maker}
use Rattle.rm_protocol.specs.Waiting.{key}
use Rattle.rm_node.proofs.BegunLemmas.{outgoing-none, outgoing-some}
use Rattle.rm_node.proofs.begun.request.Goals as goal

pub returns-in-Some : goal.returns-in-Some
returns-in-Some c =
    let r = c.args.tables.now.records in
    outgoing-some r c.args.seq (maker r c.args.seq) (key c.args.seq 0) (ap (λ o. is_some o) (sym c.in-Some.ensures))

pub returns-in-None : goal.returns-in-None
returns-in-None c =
    let r = c.args.tables.now.records in
    outgoing-none r c.args.seq (maker r c.args.seq) (key c.args.seq 0) c.in-None.ensures
