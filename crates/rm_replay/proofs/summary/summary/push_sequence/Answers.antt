use Rattle.std.proofs.Common.{◌≡◌, ◌++◌, OnOk, sym, subst}
use Rattle.rm_replay.proofs.SummaryLemmas.SequenceLemmas.{has-side, incoming-text, outgoing-text}
use Rattle.rm_replay.proofs.summary.summary.push_sequence.Goals as goal

pub returns-in-Some : goal.returns-in-Some
returns-in-Some c =
    let same =
    outgoing-text c.args.node c.args.tables.now.records c.args.now c.args.seq c.in-Some.outgoing.now.facts
    c.an_outgoing_sequence_is_as_recorded.ensures (sym c.in-Some.ensures) in
    subst (λ t. OnOk c.push_outgoing.result (c.push_outgoing.new.out ≡ c.args.out.now ++ t)) same
    c.push_outgoing.ensures

pub unreachable-requires : goal.unreachable-requires
unreachable-requires c =
    has-side c.args.tables.now.records c.args.seq c.requires.from_one c.requires.within (sym c.in_default.ensures)
    (sym c.in-None.ensures)

pub returns : goal.returns
returns c =
    let same =
    incoming-text c.args.node c.args.tables.now.records c.args.now c.args.seq c.in-Some-incoming.incoming.now.facts
    c.an_incoming_sequence_is_as_recorded.ensures (sym c.in-Some-incoming.ensures) in
    subst (λ t. OnOk c.push_incoming.result (c.push_incoming.new.out ≡ c.args.out.now ++ t)) same
    c.push_incoming.ensures
