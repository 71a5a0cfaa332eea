use Rattle.std.proofs.Common.{◌∙◌, ap}
use Rattle.record_batch.specs.Sequences.Find.{is_incoming}
use Rattle.record_batch.specs.Sequences.Makers.{number}
use Rattle.node_tables.specs.Reads.{passes}
use Rattle.node_tables.proofs.tables.Tables.is_incoming.Goals as goal

pub returns-in-Some : goal.returns-in-Some
returns-in-Some c = λ q h.
    let n = number c.args.self.now.records in
    c.is_incoming.ensures n c.args.seq q h ∙ ap (passes (is_incoming n q) c.args.seq) c.in-Some.ensures
