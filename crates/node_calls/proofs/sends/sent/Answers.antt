use Rattle.std.proofs.Common.{sym, ap, ◌∙◌, Some}
use Rattle.record_batch.specs.Sequences.Words.{Text}
use Rattle.node_calls.proofs.ComesLemmas.{sent-last, with-pushed}
use Rattle.node_calls.proofs.sends.sent.Goals as goal

pub last_message-requires : goal.last_message-requires
last_message-requires c =
    sent-last c.args.tables.now.records c.args.seq c.args.payload c.push.new.self
    (with-pushed _ _ c.new-ahead.result c.push.new.self c.new-ahead.ensures c.push.ensures.records
    c.in_ok-push.ensures.ok)
    ∙ ap (λ (p : Text). Some p) (sym c.in_ok-again.ensures)
