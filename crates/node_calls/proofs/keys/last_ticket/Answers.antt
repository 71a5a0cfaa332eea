use Rattle.std.proofs.Common.{List, ap, ◌∙◌}
use Rattle.record_batch.specs.Fact.{Fact}
use Rattle.node_tables.specs.Reads.{ticket_in}
use Rattle.node_calls.proofs.KeyLemmas.{last-drawn, last-none, last-some}
use Rattle.node_calls.proofs.keys.last_ticket.Goals as goal

pub returns-clause-last : goal.returns-clause-last
returns-clause-last c =
    let is = c.ticket.ensures ∙ ap (λ (rs : List Fact). ticket_in rs c.args.seq) c.tables.ensures in
    last-some c.args.ahead.now.records c.args.ahead.now.delta c.args.seq c.ticket.result c.requires.ends
    c.requires.finishing is

pub returns-clause-drawn : goal.returns-clause-drawn
returns-clause-drawn c =
    let is = c.ticket.ensures ∙ ap (λ (rs : List Fact). ticket_in rs c.args.seq) c.tables.ensures in
    last-drawn c.args.ahead.now.records c.args.ahead.now.delta c.args.seq c.ticket.result c.requires.ends
    c.requires.serving.fit c.requires.finishing is

pub returns-clause-none : goal.returns-clause-none
returns-clause-none c =
    let is = c.ticket.ensures ∙ ap (λ (rs : List Fact). ticket_in rs c.args.seq) c.tables.ensures in
    last-none c.args.ahead.now.records c.args.ahead.now.delta c.args.seq c.ticket.result c.requires.ends
    c.requires.finishing is
