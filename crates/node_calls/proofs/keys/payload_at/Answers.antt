use Rattle.std.proofs.Common.{◌≡◌, List, sym, ap, subst, ◌∙◌, None}
use Rattle.record_batch.specs.Fact.{Fact}
use Rattle.record_batch.specs.Sequences.Told.{sending}
use Rattle.node_tables.specs.Reads.{outgoing_in}
use Rattle.node_calls.proofs.KeyLemmas.{payload-none, payload-there}
use Rattle.node_calls.proofs.keys.payload_at.Goals as goal

pub returns-in-Some : goal.returns-in-Some
returns-in-Some c =
    let r = c.args.ahead.now.records in
    let d = c.args.ahead.now.delta in
    let s = c.args.seq in
    let is = c.an_outgoing_sequence_is_as_recorded.ensures c.tables.result.now.records s _ (sym c.in-Some.ensures)
    ∙ ap (λ (rs : List Fact). sending rs s) c.tables.ensures in
    λ side. c.accepted.ensures ∙ payload-there r d s c.args.number _ c.requires is

pub returns-in-None : goal.returns-in-None
returns-in-None c =
    let r = c.args.ahead.now.records in
    let d = c.args.ahead.now.delta in
    let s = c.args.seq in
    let none = subst (λ (rs : List Fact). None ≡ outgoing_in rs s) c.tables.ensures c.in-None.ensures in
    λ side. absurd (payload-none r d s c.requires side none)
