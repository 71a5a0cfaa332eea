use Rattle.std.proofs.Common.{◌∙◌, length, sym, ap}
use Rattle.node_calls.proofs.ConsumeLemmas.{past-inbox, within-inbox}
use Rattle.node_calls.proofs.consumes.inbox_refusal.Goals as goal

pub returns-then-upto-have : goal.returns-then-upto-have
returns-then-upto-have c =
    let r = c.args.tables.now.records in
    let is = (c.an_incoming_sequence_is_as_recorded.ensures r c.args.seq _ (sym c.in-Some.ensures)).inbox_ in
    past-inbox r c.args.seq c.args.upto c.inbox_len-have.result (c.inbox_len-have.ensures ∙ ap length is)
    c.if-upto-have.true

pub returns : goal.returns
returns c =
    let r = c.args.tables.now.records in
    let is = (c.an_incoming_sequence_is_as_recorded.ensures r c.args.seq _ (sym c.in-Some.ensures)).inbox_ in
    within-inbox r c.args.seq c.args.upto c.inbox_len-have.result (c.inbox_len-have.ensures ∙ ap length is)
    c.if-upto-have.false
