use Rattle.std.proofs.Common.{◌≡◌, ℕ, ◌+◌, subst}
use Rattle.std.specs.Prelude.{IfOk}
use Rattle.record_batch.specs.Fact.{Closing}
use Rattle.record_batch.specs.Sequences.Makers.{counter}
use Rattle.rm_protocol.specs.Calls.{Answer}
use Rattle.node_laws.specs.Answers.Answers.{seen}
use Rattle.node_calls.proofs.ComesLemmas.{IsWith, close-ticket, comes-closing, with-pushed}
use Rattle.node_calls.proofs.ends.closing.Goals as goal

pub close_request-requires-clause-last : goal.close_request-requires-clause-last
close_request-requires-clause-last c =
    close-ticket c.args.tables.now.records c.args.seq _ c.push.new.self
    (with-pushed _ _ c.new-ahead.result c.push.new.self c.new-ahead.ensures c.push.ensures.records
    c.in_ok-push.ensures.ok)

pub returns : goal.returns
returns c =
    let r = c.args.tables.now.records in
    let s = c.args.seq in
    let k = c.push.new.self in
    let is : IsWith r (Closing s (counter r + 1)) k =
    subst (λ (n : ℕ). IsWith r (Closing s (n + 1)) k) c.counter-ticket.ensures
    (with-pushed r _ c.new-ahead.result k c.new-ahead.ensures c.push.ensures.records c.in_ok-push.ensures.ok) in
    let comes = comes-closing r s k c.in_ok-request.request is c.in_ok-request.ensures in
    subst (λ (x : Answer). IfOk c.added.result (λ a. seen a ≡ x)) comes c.added.ensures
