use Rattle.std.proofs.Common.{◌≡◌, sym, ◌∙◌, subst}
use Rattle.std.specs.Prelude.{IfOk}
use Rattle.rm_protocol.specs.Calls.{Answer}
use Rattle.node_laws.specs.Answers.Answers.{seen}
use Rattle.node_calls.proofs.ComesLemmas.{with-pushed}
use Rattle.node_calls.proofs.ConsumeLemmas.{comes-consumed, comes-to-nothing}
use Rattle.node_calls.proofs.consumes.consumed.Goals as goal

pub returns-then-not-goes_on : goal.returns-then-not-goes_on
returns-then-not-goes_on c =
    let comes = comes-to-nothing c.args.tables.now.records c.args.seq c.args.upto c.new-ahead.result
    c.new-ahead.ensures (sym c.goes_on.ensures ∙ c.if-not-goes_on.true) in
    subst (λ (x : Answer). IfOk c.added.result (λ a. seen a ≡ x)) comes c.added.ensures

pub returns : goal.returns
returns c =
    let comes = comes-consumed c.args.tables.now.records c.args.seq c.args.upto c.push.new.self
    (with-pushed _ _ c.new-ahead.result c.push.new.self c.new-ahead.ensures c.push.ensures.records
    c.in_ok-push.ensures.ok) (sym c.goes_on.ensures ∙ c.if-not-goes_on.false) in
    subst (λ (x : Answer). IfOk c.added-2.result (λ a. seen a ≡ x)) comes c.added-2.ensures
