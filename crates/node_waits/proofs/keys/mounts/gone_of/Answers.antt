use Rattle.std.proofs.Common.{◌∙◌, ap, sym}
use Rattle.rm_sides.specs.Source.Outgoing.{Sending}
use Rattle.node_waits.proofs.KeysLemmas.GoneLemmas.{gone-silent, none-silent}
use Rattle.node_waits.proofs.keys.mounts.gone_of.Goals as goal

pub returns-in-Some-clause-silent : goal.returns-in-Some-clause-silent
returns-in-Some-clause-silent c =
    let r = c.args.tables.now.records in
    let same = c.an_outgoing_sequence_is_as_recorded.ensures r c.args.seq _ (sym c.in-Some.ensures) in
    gone-silent r c.args.seq c.dropped.result (c.dropped.ensures ∙ ap (λ (t : Sending). t.dropped) same)

pub returns-in-None-clause-silent : goal.returns-in-None-clause-silent
returns-in-None-clause-silent c = none-silent c.args.tables.now.records c.args.seq
