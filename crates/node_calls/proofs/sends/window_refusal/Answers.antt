use Rattle.std.proofs.Common.{◌≡◌, sym, ap, ◌∙◌, arith}
use Rattle.rm_sides.specs.Source.Outgoing.{Sending, unacked_of}
use Rattle.rm_protocol.specs.Calls.{is_open}
use Rattle.record_batch.specs.Sequences.Sources.{unacked}
use Rattle.node_calls.proofs.CauseLemmas.{node-full}
use Rattle.node_calls.proofs.sends.window_refusal.Goals as goal

pub returns-then-all-ge-MOST_UNACKED : goal.returns-then-all-ge-MOST_UNACKED
returns-then-all-ge-MOST_UNACKED c =
    let r = c.args.tables.now.records in
    let s = c.args.seq in
    let is = c.an_outgoing_sequence_is_as_recorded.ensures r s _ (sym c.in-Some.ensures) in
    let opens = sym (c.is_open.ensures ∙ ap is_open (c.phase.ensures ∙ ap (λ (t : Sending). t.phase) is))
    ∙ c.if-not-is_open.false in
    let waits : c.unacked-unacked.result ≡ unacked r s = c.unacked-unacked.ensures ∙ ap unacked_of is in
    node-full r s _ opens (omega (arith, waits, c.if-unacked-ge-WINDOW.false)) c.unacked-all.ensures
    c.if-all-ge-MOST_UNACKED.true
